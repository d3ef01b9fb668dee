-- Expressions that break no rule.
use Rattle.std.proofs.Common.{◌≡◌, ◌≢◌, ◌⊎◌, inl, inr, eqb, ℕ, suc, ◌+◌, ◌<◌, ◌≤◌, ◌^◌, max, Bool, true, false, ◌&&◌, ◌||◌, cond, Option, Some, [], ◌∷◌, refl, sym, ap, ap₂, ◌∙◌, subst, arith}
use Rattle.std.specs.Prelude.{not, nat_eq, is_none, codes}
use Rattle.std.proofs.lemmas.Bool.Decides.{eqb_tells}
use Rattle.p416_syntax.specs.declared.parts.Type16.TheVariants.{Bit}
use Rattle.p416_syntax.specs.declared.node.CastType.TheVariants as cast_to
use Rattle.p416_syntax.specs.declared.node.UnaryOperator.TheVariants.{Not, Complement}
use Rattle.p416_syntax.specs.declared.node.BinaryOperator.{BinaryOperator}
use Rattle.p416_syntax.specs.declared.node.BinaryOperator.TheVariants.{Multiply, Add, Subtract, SaturatingAdd, SaturatingSubtract, Concatenate, ShiftLeft, ShiftRight, BitAnd, BitXor, BitOr, Less, LessEqual, Greater, GreaterEqual, Equal, NotEqual, And, Or}
use Rattle.p416_syntax.specs.Tree.{Exp16, literal, truth, error, name, member, index, cast, unary, binary, lookahead, no_arguments}
use Rattle.p416_syntax.specs.Names.{Name}
use Rattle.p416_syntax.specs.Kinds.{Kind, bits, boolean, error_code, header, stack, errors, packet_in, unknown, is_plain, is_stack}
use Rattle.p416_syntax.specs.Scopes.{Scope, Sort, a_value, in_parser, sort_of}
use Rattle.p416_syntax.specs.Calls.{Place, value, any_bits, bits_or_boolean, literal_of, owner, a_stack}
use Rattle.p416_syntax.specs.Expressions.{kind_of, can_write, sort_kind, known_kind, element_kind, member_kind, joint_bits, binary_kind, lookahead_kind}
use Rattle.p416_syntax.specs.Uses.{a_width, one, uses_at, left_place, right_place}
use Rattle.p416_syntax.specs.Unknown.{has_lookahead, fits_place}
use Rattle.p416_syntax.specs.Sizes.{leaves_stack, joins_too_many}
use Rattle.p416_syntax.specs.Externs.{is_parser_part, is_place_word, are_allowed}
use Rattle.lower_laws_base.specs.Mirror.{plain, sized, resized}
use Rattle.lower_laws_rules.specs.Keeping.{Fine, Fines, Asks, Sound, Sits}
use Rattle.lower_laws_rules.proofs.Lists.{neither, both_false, no_fines, fine_first, fine_behind}
use Rattle.lower_laws_rules.proofs.Places.{not_less, beyond, itself, never, opened, value_fine, unapplied, asks_value, asks_any, asks_truth, read_only}

-- literals

pub sound_literal : (s : Scope) (width k : ℕ) → k < 2 ^ width → Sound s (literal (sized width k)) (bits width) false 1
sound_literal s width k fits = record {
  kind = refl;
  writes = never;
  depths = omega arith;
  keeps = λ p asks. fine_first (value_fine s p (literal (sized width k)) (bits width) false asks refl never refl refl (beyond (2 ^ width) k fits) refl (unapplied s) refl) no_fines;
}

pub sound_truth : (s : Scope) (b : Bool) → Sound s (truth b) boolean false 1
sound_truth s b = record {
  kind = refl;
  writes = never;
  depths = omega arith;
  keeps = λ p asks. fine_first (value_fine s p (truth b) boolean false asks refl never refl refl refl refl (unapplied s) refl) no_fines;
}

-- where a literal is asked for
pub sits_literal : (s : Scope) (width k : ℕ) → k < 2 ^ width → Sits s (literal_of (bits width)) (literal (sized width k)) 1
sits_literal s width k fits = record {
  depths = omega arith;
  keeps = fine_first (record { t1 = refl; t2 = refl; t3 = ap (λ t. not (t || false)) (itself width); t4 = beyond (2 ^ width) k fits; t5 = refl; t6 = refl; t8 = unapplied s; t9 = refl; t10 = refl; calls = refl }) no_fines;
}

-- the same without a width, which takes that of its place
pub sits_plain : (s : Scope) (width k : ℕ) → k < 2 ^ width → Sits s (literal_of (bits width)) (literal (plain k)) 1
sits_plain s width k fits = record {
  depths = omega arith;
  keeps = fine_first (record { t1 = refl; t2 = refl; t3 = refl; t4 = beyond (2 ^ width) k fits; t5 = refl; t6 = refl; t8 = unapplied s; t9 = refl; t10 = refl; calls = refl }) no_fines;
}

-- places

pub sound_name : (s : Scope) (text : Name) (k : Kind) (can : Bool) → sort_of s text ≡ a_value k can → Sound s (name text) k can 1
sound_name s text k can is = record {
  kind = ap sort_kind is;
  writes = writes;
  depths = omega arith;
  keeps = λ p asks. fine_first (value_fine s p (name text) k can asks (ap sort_kind is) writes (ap (λ z. not (fits_place p z)) is ∙ ap not ((opened p asks.opens).of_value k can)) refl refl refl (unapplied s) refl) no_fines;
} where
  written_sort : Sort → Bool
  written_sort (a_value l c) = c
  written_sort _ = false

  writes : can ≡ true → can_write s (name text) ≡ true
  writes e = ap written_sort is ∙ e

pub asks_owner : (k : Kind) (can : Bool) → is_plain k ≡ false → Asks owner k can
asks_owner k can has = record { opens = refl; takes_it = ap not has; writes = refl }

-- the word `error`
pub sound_errors : (s : Scope) → Sound s error errors false 1
sound_errors s = record {
  kind = refl;
  writes = never;
  depths = omega arith;
  keeps = λ p asks. fine_first (value_fine s p error errors false asks refl never refl refl refl refl (unapplied s) refl) no_fines;
}

module _ (s : Scope) (e : Exp16) (k : Kind) (can : Bool) (d : ℕ) (word : Name) (of : Kind) (x : Sound s e k can d) (there : member_kind s.layouts k word ≡ Some of) where
  its_kind : kind_of s (member e word) ≡ of
  its_kind = ap (λ (z : Kind). known_kind (member_kind s.layouts z word)) x.kind ∙ ap known_kind there

  known_there : (b : Bool) → is_none (member_kind s.layouts (kind_of s e) word) && b ≡ false
  known_there b = ap (λ (z : Kind). is_none (member_kind s.layouts z word) && b) x.kind ∙ ap (λ (z : Option Kind). is_none z && b) there

  member_sound : is_plain k ≡ false → (is_stack (kind_of s e) && is_place_word word) && not (is_parser_part s.part) ≡ false → Sound s (member e word) of can (suc d)
  member_sound has place = record {
    kind = its_kind;
    writes = x.writes;
    depths = let small = x.depths in omega (arith, small);
    keeps = λ p asks. fine_first
        (value_fine s p (member e word) of can asks its_kind x.writes ((opened p asks.opens).of_member s e word ∙ known_there _) refl refl refl (unapplied s) place)
        (subst (λ (q : Place). Fines (uses_at s (one q) e)) (sym ((opened p asks.opens).owned _)) (x.keeps owner (asks_owner k can has)));
  }

  -- a member that is there, of a header or a struct
  pub sound_member : is_plain k ≡ false → is_stack k ≡ false → Sound s (member e word) of can (suc d)
  sound_member has plainly = member_sound has (ap (λ (z : Kind). (is_stack z && is_place_word word) && not (is_parser_part s.part)) x.kind ∙ ap (λ t. (t && is_place_word word) && not (is_parser_part s.part)) plainly)

  -- the next or the last element of a stack, in a parser
  pub sound_place : is_plain k ≡ false → s.part ≡ in_parser → Sound s (member e word) of can (suc d)
  sound_place has part = member_sound has (ap (λ z. (is_stack (kind_of s e) && is_place_word word) && not (is_parser_part z)) part ∙ both_false (is_stack (kind_of s e) && is_place_word word) false refl)

-- a constant element of a stack
pub sound_element : (s : Scope) (e : Exp16) (type : Name) (size at d : ℕ) (can : Bool) → Sound s e (stack type size) can d → at < size → Sound s (index e (plain at)) (header type) can (suc d)
sound_element s e type size at d can x lt = record {
  kind = ap element_kind x.kind;
  writes = x.writes;
  depths = let small = x.depths in omega (arith, small);
  keeps = λ p asks. fine_first
      (value_fine s p (index e (plain at)) (header type) can asks (ap element_kind x.kind) x.writes refl (ap (λ (z : Kind). leaves_stack z (plain at)) x.kind ∙ beyond size at lt) refl refl (unapplied s) refl)
      (fine_first (record { t1 = refl; t2 = refl; t3 = refl; t4 = refl; t5 = refl; t6 = refl; t8 = refl; t9 = refl; t10 = refl; calls = refl }) (x.keeps a_stack (record { opens = refl; takes_it = refl; writes = refl })));
}

pub width_fine : (width : ℕ) → 0 < width → width ≤ 128 → Fine (a_width (plain width))
width_fine width some most = record { t1 = refl; t2 = neither _ _ (not_less width 1 (omega (arith, some))) (not_less 128 width most); t3 = refl; t4 = refl; t5 = refl; t6 = refl; t8 = refl; t9 = refl; t10 = refl; calls = refl }

-- a cast to a width that there is
pub sound_cast : (s : Scope) (e : Exp16) (own width d : ℕ) (can : Bool) → 0 < width → width ≤ 128 → Sound s e (bits own) can d → Sound s (cast (cast_to.Bit (plain width)) e) (bits width) false (suc d)
sound_cast s e own width d can some most x = record {
  kind = refl;
  writes = never;
  depths = let small = x.depths in omega (arith, small);
  keeps = λ p asks. fine_first (value_fine s p (cast (cast_to.Bit (plain width)) e) (bits width) false asks refl never refl refl refl refl (unapplied s) refl) (fine_first (width_fine width some most) (by (nat_eq width 1)));
} where
  by : (b : Bool) → Fines (uses_at s (one (cond b bits_or_boolean any_bits)) e)
  by true = x.keeps bits_or_boolean (record { opens = refl; takes_it = refl; writes = refl })
  by false = x.keeps any_bits (asks_any own can)

pub sound_resized : (s : Scope) (e : Exp16) (own width d : ℕ) (can : Bool) → 0 < width → width ≤ 128 → Sound s e (bits own) can d → Sound s (resized own width e) (bits width) false (suc d)
sound_resized s e own width d can some few x = by (eqb_tells own width) where
  by : ((eqb own width ≡ true) × (own ≡ width)) ⊎ ((eqb own width ≡ false) × (own ≢ width)) → Sound s (resized own width e) (bits width) false (suc d)
  by (inl same) =
      let kept : Sound s e (bits own) false d = read_only x in
      let same_width : Sound s e (bits width) false (suc d) = record { kind = kept.kind ∙ ap (λ (w : ℕ). bits w) same.1; writes = never; depths = let small = x.depths in omega (arith, small); keeps = subst (λ (w : ℕ). (p : Place) → Asks p (bits w) false → Fines (uses_at s (one p) e)) same.1 kept.keeps } in
      subst (λ b. Sound s (cond b e (cast (cast_to.Bit (plain width)) e)) (bits width) false (suc d)) (sym same.0) same_width
  by (inr other) = subst (λ b. Sound s (cond b e (cast (cast_to.Bit (plain width)) e)) (bits width) false (suc d)) (sym other.0) (sound_cast s e own width d can some few x)

-- operators

pub sound_not : (s : Scope) (e : Exp16) (d : ℕ) (can : Bool) → Sound s e boolean can d → Sound s (unary Not e) boolean false (suc d)
sound_not s e d can x = record {
  kind = refl;
  writes = never;
  depths = let small = x.depths in omega (arith, small);
  keeps = λ p asks. fine_first (value_fine s p (unary Not e) boolean false asks refl never refl refl refl refl (unapplied s) refl) (x.keeps (value boolean) (asks_truth can));
}

pub sound_complement : (s : Scope) (e : Exp16) (width d : ℕ) (can : Bool) → Sound s e (bits width) can d → Sound s (unary Complement e) (bits width) false (suc d)
sound_complement s e width d can x = record {
  kind = ap number x.kind;
  writes = never;
  depths = let small = x.depths in omega (arith, small);
  keeps = λ p asks. fine_first
      (value_fine s p (unary Complement e) (bits width) false asks (ap number x.kind) never refl refl refl refl (unapplied s) refl)
      (subst (λ (k : Kind). Fines (uses_at s (one (left_place p ShiftLeft k k)) e)) (sym x.kind) (x.keeps (value (bits width)) (asks_value width can)));
} where
  number : Kind → Kind
  number k = binary_kind ShiftLeft k k

-- what an operator asks of operands of these kinds, and gives
pub record Operates (op : BinaryOperator) (k l of : Kind) (first second : Place) : Type 0 where
  pub gives : binary_kind op k l ≡ of
  pub left : (p : Place) → left_place p op k l ≡ first
  pub right : (p : Place) → right_place p op k l ≡ second
  pub few : joins_too_many op k l ≡ false

pub sound_binary : {s : Scope} {op : BinaryOperator} {a b : Exp16} {k l of : Kind} {first second : Place} {can may : Bool} {m n : ℕ} → Operates op k l of first second → Sound s a k can m → Asks first k can → Sound s b l may n → Asks second l may → Sound s (binary op a b) of false (suc (max m n))
sound_binary {s} {op} {a} {b} {k} {l} {of} {first} {second} {can} {may} {m} {n} o x asks_x y asks_y = record {
  kind = kind;
  writes = never;
  depths = let small = x.depths in let few = y.depths in omega (arith, small, few);
  keeps = λ p asks. fine_first
      (value_fine s p (binary op a b) of false asks kind never refl (ap₂ (joins_too_many op) x.kind y.kind ∙ o.few) refl refl (unapplied s) refl)
      (fine_behind
      (subst (λ (q : Place). Fines (uses_at s (one q) a)) (sym (ap₂ (left_place p op) x.kind y.kind ∙ o.left p)) (x.keeps first asks_x))
      (subst (λ (q : Place). Fines (uses_at s (one q) b)) (sym (ap₂ (right_place p op) x.kind y.kind ∙ o.right p)) (y.keeps second asks_y)));
} where
  kind : kind_of s (binary op a b) ≡ of
  kind = ap₂ (binary_kind op) x.kind y.kind ∙ o.gives

-- an operator between operands of one width: arithmetic, operators on each bit, comparisons
abbrev pub is_pair : BinaryOperator → Bool
is_pair Concatenate = false
is_pair ShiftLeft = false
is_pair ShiftRight = false
is_pair And = false
is_pair Or = false
is_pair op = true

abbrev pub pair_kind : BinaryOperator → ℕ → Kind
pair_kind Less width = boolean
pair_kind LessEqual width = boolean
pair_kind Greater width = boolean
pair_kind GreaterEqual width = boolean
pair_kind Equal width = boolean
pair_kind NotEqual width = boolean
pair_kind op width = bits width

joined : (width : ℕ) → joint_bits (bits width) (bits width) ≡ bits width
joined width = ap (λ t. cond t (bits width) unknown) (itself width)

pairs : (op : BinaryOperator) (width : ℕ) → is_pair op ≡ true → Operates op (bits width) (bits width) (pair_kind op width) (value (bits width)) (value (bits width))
pairs Concatenate width is = never is
pairs ShiftLeft width is = never is
pairs ShiftRight width is = never is
pairs And width is = never is
pairs Or width is = never is
pairs Multiply width is = record { gives = joined width; left = λ p. refl; right = λ p. refl; few = refl }
pairs Add width is = record { gives = joined width; left = λ p. refl; right = λ p. refl; few = refl }
pairs Subtract width is = record { gives = joined width; left = λ p. refl; right = λ p. refl; few = refl }
pairs SaturatingAdd width is = record { gives = joined width; left = λ p. refl; right = λ p. refl; few = refl }
pairs SaturatingSubtract width is = record { gives = joined width; left = λ p. refl; right = λ p. refl; few = refl }
pairs BitAnd width is = record { gives = joined width; left = λ p. refl; right = λ p. refl; few = refl }
pairs BitXor width is = record { gives = joined width; left = λ p. refl; right = λ p. refl; few = refl }
pairs BitOr width is = record { gives = joined width; left = λ p. refl; right = λ p. refl; few = refl }
pairs op width is = record { gives = refl; left = λ p. refl; right = λ p. refl; few = refl }

pub sound_pair : {s : Scope} {a b : Exp16} {can may : Bool} {width m n : ℕ} (op : BinaryOperator) → is_pair op ≡ true → Sound s a (bits width) can m → Sound s b (bits width) may n → Sound s (binary op a b) (pair_kind op width) false (suc (max m n))
sound_pair {can = can} {may} {width} op is x y = sound_binary (pairs op width is) x (asks_value width can) y (asks_value width may)

pub sound_shift_left : {s : Scope} {a b : Exp16} {can may : Bool} {width own m n : ℕ} → Sound s a (bits width) can m → Sound s b (bits own) may n → Sound s (binary ShiftLeft a b) (bits width) false (suc (max m n))
sound_shift_left {can = can} {may} {width} {own} x y = sound_binary {op = ShiftLeft} (record { gives = refl; left = λ p. refl; right = λ p. refl; few = refl }) x (asks_value width can) y (asks_any own may)

pub sound_shift_right : {s : Scope} {a b : Exp16} {can may : Bool} {width own m n : ℕ} → Sound s a (bits width) can m → Sound s b (bits own) may n → Sound s (binary ShiftRight a b) (bits width) false (suc (max m n))
sound_shift_right {can = can} {may} {width} {own} x y = sound_binary {op = ShiftRight} (record { gives = refl; left = λ p. refl; right = λ p. refl; few = refl }) x (asks_value width can) y (asks_any own may)

pub sound_concatenated : {s : Scope} {a b : Exp16} {can may : Bool} {v w m n : ℕ} → v + w ≤ 128 → Sound s a (bits v) can m → Sound s b (bits w) may n → Sound s (binary Concatenate a b) (bits (v + w)) false (suc (max m n))
sound_concatenated {can = can} {may} {v} {w} few x y =
    sound_binary {op = Concatenate} (record { gives = ap (λ t. cond t unknown (bits (v + w))) (not_less 128 (v + w) few); left = λ p. refl; right = λ p. refl; few = not_less 128 (v + w) few }) x (asks_any v can) y (asks_any w may)

pub sound_and : {s : Scope} {a b : Exp16} {can may : Bool} {m n : ℕ} → Sound s a boolean can m → Sound s b boolean may n → Sound s (binary And a b) boolean false (suc (max m n))
sound_and {can = can} {may} x y = sound_binary {op = And} (record { gives = refl; left = λ p. refl; right = λ p. refl; few = refl }) x (asks_truth can) y (asks_truth may)

pub sound_or : {s : Scope} {a b : Exp16} {can may : Bool} {m n : ℕ} → Sound s a boolean can m → Sound s b boolean may n → Sound s (binary Or a b) boolean false (suc (max m n))
sound_or {can = can} {may} x y = sound_binary {op = Or} (record { gives = refl; left = λ p. refl; right = λ p. refl; few = refl }) x (asks_truth can) y (asks_truth may)

-- `e == error.NoError`, where e is an error
pub sound_no_error : {s : Scope} {e : Exp16} {can : Bool} {d : ℕ} → Sound s e error_code can d → Sound s (binary Equal e (member error (codes "NoError"))) boolean false (suc (max d 2))
sound_no_error {s} {can = can} x =
    sound_binary {op = Equal} (record { gives = refl; left = λ p. refl; right = λ p. refl; few = refl }) x (record { opens = refl; takes_it = refl; writes = refl })
    (sound_member s error errors false 1 (codes "NoError") error_code (sound_errors s) refl refl refl) (record { opens = refl; takes_it = refl; writes = refl })

-- `packet.lookahead<bit<N>>()`, in the parser
pub sound_lookahead : {s : Scope} {e : Exp16} {can : Bool} {d : ℕ} (width : ℕ) → 0 < width → width ≤ 128 → Sound s e packet_in can d → are_allowed (0 ∷ []) s.positions ≡ true → Sound s (lookahead e (Bit (plain width)) no_arguments) (bits width) false (suc d)
sound_lookahead {s} {e} {can} {d} width some most x stands = record {
  kind = kind;
  writes = never;
  depths = let small = x.depths in omega (arith, small);
  keeps = λ p asks. fine_first
      (value_fine s p (lookahead e (Bit (plain width)) no_arguments) (bits width) false asks kind never (ap (λ k. not (has_lookahead k)) x.kind) refl refl refl (unapplied s) (ap not stands))
      (fine_first (record { t1 = refl; t2 = refl; t3 = refl; t4 = refl; t5 = refl; t6 = refl; t8 = refl; t9 = refl; t10 = refl; calls = refl })
      (fine_first (width_fine width some most)
      (fine_behind (x.keeps owner (asks_owner packet_in can refl)) no_fines)));
} where
  kind : kind_of s (lookahead e (Bit (plain width)) no_arguments) ≡ bits width
  kind = ap (λ (k : Kind). lookahead_kind k (bits width)) x.kind
