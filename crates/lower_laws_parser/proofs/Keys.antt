-- The joined key of a select.
use Rattle.std.proofs.Common.{◌≡◌, ℕ, ◌+◌, ◌*◌, ◌<◌, ◌≤◌, ◌^◌, Bool, true, false, cond, nat_lt, Option, Some, None, List, [], ◌∷◌, fold, map, refl, sym, ap, ap₂, ◌∙◌, subst, arith}
use Rattle.std.specs.Prelude.{ℤ, option_map}
use Rattle.std.proofs.lemmas.Nat.{pow-add}
use Rattle.std.proofs.lemmas.Bool.{ltb-true}
use Rattle.p414_syntax.specs.declared.parts.Inst.{Inst}
use Rattle.p414_syntax.specs.declared.parsers.PValue.{PValue}
use Rattle.p414_syntax.specs.declared.syntax.Decl.{Decl}
use Rattle.p414_syntax.specs.Names.{Name}
use Rattle.p414_syntax.specs.Selects.{value_bits}
use Rattle.p414_sem.specs.Wholes.{wrapped}
use Rattle.p414_sem.specs.State.{State}
use Rattle.p414_sem.specs.Parsing.{Latest, latest_instance, parser_value, joined, joined_from, key_of}
use Rattle.p416_syntax.specs.declared.node.BinaryOperator.TheVariants.{Concatenate}
use Rattle.p416_syntax.specs.Tree.{Exp16, binary}
use Rattle.p416_syntax.specs.Kinds.{bits, unknown}
use Rattle.p416_syntax.specs.Scopes.{Scope}
use Rattle.p416_syntax.specs.Calls.{Place}
use Rattle.p416_syntax.specs.Expressions.{kind_of, concatenated}
use Rattle.p416_syntax.specs.Uses.{left_place, right_place}
use Rattle.v1_core.specs.Values.{a_number}
use Rattle.v1_core.specs.Numbers.{binary_value}
use Rattle.v1_core.specs.Frames.{Moment}
use Rattle.v1_core.specs.Surroundings.{World}
use Rattle.v1_core.specs.Expressions.{Valued, valued, value_of}
use Rattle.lower_laws_base.specs.Context.{Lowering}
use Rattle.lower_laws_parser.specs.Words.{ParserWords, part_exp, key_from, key_exp}
use Rattle.lower_laws_parser.specs.Parsing.{Origin, Going, ValuesFit, IsSome, IsLatest, parser_words, Parses}
use Rattle.lower_laws_parser.proofs.Yields.{too_short, Yields}
use Rattle.lower_laws_parser.proofs.Values.{yields_value}

joined_below : (k j v w : ℕ) → k < 2 ^ v → j < 2 ^ w → k * 2 ^ w + j < 2 ^ (v + w)
joined_below k j v w a b = subst (λ z. k * 2 ^ w + j < z) (sym (pow-add 2 v w)) (by k j (2 ^ v) (2 ^ w) a b) where
  by : (k j p q : ℕ) → k < p → j < q → k * q + j < p * q
  by k j p q a b = grind arith

module _ (w : World) (s : Scope) (n : Moment) where
  abbrev both : Exp16 → Exp16 → Exp16
  both a b = binary Concatenate a b

  kind_both : (a b : Exp16) (v u : ℕ) → v + u ≤ 128 → kind_of s a ≡ bits v → kind_of s b ≡ bits u → kind_of s (both a b) ≡ bits (v + u)
  kind_both a b v u few x y = ap₂ concatenated x y ∙ by (nat_lt 128 (v + u)) refl where
    by : (t : Bool) → nat_lt 128 (v + u) ≡ t → cond t unknown (bits (v + u)) ≡ bits (v + u)
    by true is = absurd (omega (arith, few, ltb-true _ _ is))
    by false is = refl

  -- what the operands give, one behind the other
  value_both : (a b : Exp16) (v u j k : ℕ) → ((q : Place) → value_of w s q a n ≡ valued (a_number v j) n) → ((q : Place) → value_of w s q b n ≡ valued (a_number u k) n) → (q : Place) → value_of w s q (both a b) n ≡ valued (a_number (v + u) (j * 2 ^ u + k)) n
  value_both a b v u j k x y q =
      ap (λ (z : Valued). let t = value_of w s (right_place q Concatenate (kind_of s a) (kind_of s b)) b z.moment in valued (binary_value Concatenate z.value t.value) t.moment) (x (left_place q Concatenate (kind_of s a) (kind_of s b)))
      ∙ ap (λ (t : Valued). valued (binary_value Concatenate (a_number v j) t.value) t.moment) (y (right_place q Concatenate (kind_of s a) (kind_of s b)))

  moment_both : (a b : Exp16) (m to end : Moment) → ((q : Place) → (value_of w s q a m).moment ≡ to) → ((q : Place) → (value_of w s q b to).moment ≡ end) → (q : Place) → (value_of w s q (both a b) m).moment ≡ end
  moment_both a b m to end x y q =
      ap (λ (z : Moment). (value_of w s (right_place q Concatenate (kind_of s a) (kind_of s b)) b z).moment) (x (left_place q Concatenate (kind_of s a) (kind_of s b)))
      ∙ y (right_place q Concatenate (kind_of s a) (kind_of s b))

  same_moment : (a : Exp16) (v j : ℕ) (m : Moment) → ((q : Place) → value_of w s q a m ≡ valued (a_number v j) m) → (q : Place) → (value_of w s q a m).moment ≡ m
  same_moment a v j m x q = ap (λ (z : Valued). z.moment) (x q)

  yields_both : (a b : Exp16) (v u : ℕ) (front : Option ℕ) (z : Option ℤ) → v + u ≤ 128 → Yields w s n a v front → Yields w s n b u (option_map (wrapped u) z) → Yields w s n (both a b) (v + u) (joined u z front)
  yields_both a b v u (Some j) (Some z) few x y = record {
    kind = kind_both a b v u few x.kind y.kind;
    value = (value_both a b v u j (wrapped u z) x.value.0 y.value.0, joined_below j (wrapped u z) v u x.value.1 y.value.1);
    halts = moment_both a b (too_short n) (too_short n) (too_short n) x.halts y.halts;
  }
  yields_both a b v u (Some j) None few x y = record {
    kind = kind_both a b v u few x.kind y.kind;
    value = moment_both a b n n (too_short n) (same_moment a v j n x.value.0) y.value;
    halts = moment_both a b (too_short n) (too_short n) (too_short n) x.halts y.halts;
  }
  yields_both a b v u None (Some z) few x y = record {
    kind = kind_both a b v u few x.kind y.kind;
    value = moment_both a b n (too_short n) (too_short n) x.value y.halts;
    halts = moment_both a b (too_short n) (too_short n) (too_short n) x.halts y.halts;
  }
  yields_both a b v u None None few x y = record {
    kind = kind_both a b v u few x.kind y.kind;
    value = moment_both a b n (too_short n) (too_short n) x.value y.halts;
    halts = moment_both a b (too_short n) (too_short n) (too_short n) x.halts y.halts;
  }

-- so many bits, and behind them those of these values
abbrev widths_from : List Decl → Option Inst → ℕ → List PValue → ℕ
widths_from ds last v vs = fold (λ a b. a + b) v (map (value_bits ds last) vs)

more_widths : (v : ℕ) (xs : List ℕ) → v ≤ fold (λ a b. a + b) v xs
more_widths v [] = omega arith
more_widths v (x ∷ xs) = omega (arith, more_widths (v + x) xs)

first_joined : (u : ℕ) (z : Option ℤ) → option_map (wrapped u) z ≡ joined u z (Some 0)
first_joined u None = refl
first_joined u (Some z) = ap (λ (k : ℕ). Some k) (omega arith)

pub latest_same : (c : Lowering) (ds : List Decl) (t : State) (last : Option Inst) (latest : Option Latest) → IsLatest c ds t last latest → option_map latest_instance latest ≡ last
latest_same c ds t None None is = refl
latest_same c ds t None (Some l) is = absurd is
latest_same c ds t (Some i) None is = absurd is
latest_same c ds t (Some i) (Some l) is = ap (λ (j : Inst). Some j) is.0

module _ (c : Lowering) (ds : List Decl) (packet : Name) (state : Name → Name) (s : Scope) (parses : Parses c ds packet s) (o : Origin) (t : State) (n : Moment) (going : Going c o t n) (last : Option Inst) (latest : Option Latest) (is : IsLatest c ds t last latest) where
  abbrev p : ParserWords
  p = parser_words c packet state

  yields_from : (vs : List PValue) (e : Exp16) (v : ℕ) (front : Option ℕ) → ValuesFit c ds last vs → widths_from ds last v vs ≤ 128 → Yields c.world s n e v front → Yields c.world s n (key_from ds p last e vs) (widths_from ds last v vs) (joined_from ds latest t front vs)
  yields_from [] e v front fit few y = y
  yields_from (x ∷ vs) e v front fit few y =
      let u = value_bits ds last x in
      let z = parser_value ds latest t x in
      yields_from vs (binary Concatenate e (part_exp ds p last x)) (v + u) (joined (value_bits ds (option_map latest_instance latest) x) z front) fit.1 few
      (subst (λ (l : Option Inst). Yields c.world s n (binary Concatenate e (part_exp ds p last x)) (v + u) (joined (value_bits ds l x) z front)) (sym (latest_same c ds t last latest is))
      (yields_both c.world s n e (part_exp ds p last x) v u front z (omega (arith, few, more_widths (v + u) (map (value_bits ds last) vs))) y
      (yields_value c ds packet state s parses o t n going last latest is u x fit.0)))

  pub yields_key : (vs : List PValue) → IsSome vs → ValuesFit c ds last vs → widths_from ds last 0 vs ≤ 128 → Yields c.world s n (key_exp ds p last vs) (widths_from ds last 0 vs) (key_of ds latest t vs)
  yields_key [] some fit few = absurd some
  yields_key (x ∷ vs) some fit few =
      let u = value_bits ds last x in
      let z = parser_value ds latest t x in
      let there : 0 + u ≡ u = omega arith in
      yields_from vs (part_exp ds p last x) (0 + u) (joined (value_bits ds (option_map latest_instance latest) x) z (Some 0)) fit.1 few
      (subst (λ (l : Option Inst). Yields c.world s n (part_exp ds p last x) (0 + u) (joined (value_bits ds l x) z (Some 0))) (sym (latest_same c ds t last latest is))
      (subst (λ v. Yields c.world s n (part_exp ds p last x) v (joined u z (Some 0))) (sym there)
      (subst (Yields c.world s n (part_exp ds p last x) u) (first_joined u z) (yields_value c ds packet state s parses o t n going last latest is u x fit.0))))
