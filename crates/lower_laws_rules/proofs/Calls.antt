-- Calls of methods and of functions, with their arguments, break no rule.
use Rattle.std.proofs.Common.{◌≡◌, ℕ, suc, ◌≤◌, max, Bool, false, true, ◌&&◌, cond, List, [], length, get_or, Option, Some, None, refl, sym, ap, ◌∙◌, subst, arith}
use Rattle.std.specs.Prelude.{not, nat_eq, is_none, codes}
use Rattle.std.specs.Option.{option_map_or}
use Rattle.p416_syntax.specs.declared.controls.ActionName.{ActionName}
use Rattle.p416_syntax.specs.Tree.{Exp16, name, member, call, no_arguments, argument, listed}
use Rattle.p416_syntax.specs.Names.{Name, has_name}
use Rattle.p416_syntax.specs.Kinds.{Kind, Enumeration, one_of, table, applied, boolean, is_plain, is_stack}
use Rattle.p416_syntax.specs.BuiltIn.{members_of}
use Rattle.p416_syntax.specs.Scopes.{Scope, Sort, a_table, an_enumeration, a_function, sort_of}
use Rattle.p416_syntax.specs.Calls.{Place, any_bits, item_list, member_place, owner, callee, unasked, Signature, method, function_signature, method_signature}
use Rattle.p416_syntax.specs.Expressions.{kind_of, sort_kind, known_kind, member_kind, sort_signature, call_kind, argument_count}
use Rattle.p416_syntax.specs.Uses.{one, many, owner_by, wanted_by, uses_at}
use Rattle.p416_syntax.specs.Unknown.{is_owner_sort, fits_place}
use Rattle.p416_syntax.specs.Types.{takes}
use Rattle.p416_syntax.specs.Arguments.{takes_other_count}
use Rattle.p416_syntax.specs.Applications.{applies_nothing, is_applied, if_action}
use Rattle.p416_syntax.specs.Tables.{is_counted_outside, is_direct_counter, counts_outside}
use Rattle.p416_syntax.specs.Externs.{may_stand, stands_elsewhere, is_place_word, is_parser_part}
use Rattle.lower_laws_rules.specs.Keeping.{Fines, Keeps, Sound, Sits, Given}
use Rattle.lower_laws_rules.proofs.Lists.{both_false, no_fines, fine_first, fine_behind}
use Rattle.lower_laws_rules.proofs.Trees.{shallow, unheld}
use Rattle.lower_laws_rules.proofs.Places.{never, value_fine, unapplied}
use Rattle.lower_laws_rules.proofs.Sound.{sound_member}

-- an expression at its place
pub sits_kept : {s : Scope} {p : Place} {e : Exp16} {d : ℕ} → Sits s p e d → d ≤ 400 → Keeps (uses_at s (one p) e) []
sits_kept {s} {p} {e} x few = record { fine = x.keeps.each; shallow = shallow s (one p) e (let small = x.depths in omega (arith, small, few)); holds = unheld s (one p) e }

-- arguments

pub none_given : {s : Scope} {wanted : List Place} {otherwise : Place} → Given s wanted otherwise no_arguments 0
none_given = record { depths = omega arith; keeps = no_fines }

pub more_given : {s : Scope} {wanted : List Place} {otherwise p : Place} {before last : Exp16} {d n : ℕ} → Given s wanted otherwise before d → get_or wanted (argument_count before) otherwise ≡ p → Sits s p last n → Given s wanted otherwise (argument before last) (max d n)
more_given {s} {last = last} x at y = record {
  depths = let small = x.depths in let few = y.depths in omega (arith, small, few);
  keeps = fine_behind x.keeps (subst (λ (q : Place). Fines (uses_at s (one q) last)) (sym at) y.keeps);
}

-- a list in braces
pub sits_items : {s : Scope} {items : Exp16} {d : ℕ} → Given s [] any_bits items d → Sits s item_list (listed items) (suc d)
sits_items {s} x = record {
  depths = let small = x.depths in omega (arith, small);
  keeps = fine_first (record { t1 = refl; t2 = refl; t3 = refl; t4 = refl; t5 = refl; t6 = refl; t8 = unapplied s; t9 = refl; t10 = refl; calls = refl }) x.keeps;
}

-- what stands before a member and is no value: an object, a table, an enumeration
pub sits_owner : {s : Scope} {text : Name} {x : Sort} → sort_of s text ≡ x → is_owner_sort x ≡ true → is_plain (sort_kind x) ≡ false → Sits s owner (name text) 1
sits_owner {s} is owns has = record {
  depths = omega arith;
  keeps = fine_first (record { t1 = ap (λ z. not (fits_place owner z)) is ∙ ap not owns; t2 = refl; t3 = ap (λ z. not (not (is_plain (sort_kind z)))) is ∙ ap (λ b. not (not b)) has; t4 = refl; t5 = refl; t6 = refl; t8 = unapplied s; t9 = refl; t10 = refl; calls = refl }) no_fines;
}

-- a member of an enumeration
pub sits_one : {s : Scope} {text : Name} (e : Enumeration) (word : Name) → sort_of s text ≡ an_enumeration e → has_name (members_of e) word ≡ true → Sits s (member_place e) (member (name text) word) 2
sits_one {s} {text} e word is among = record {
  depths = omega arith;
  keeps = fine_first
      (record { t1 = known; t2 = refl; t3 = ap (λ k. not (takes (member_place e) (member (name text) word) k)) kind ∙ same e; t4 = refl; t5 = refl; t6 = refl; t8 = unapplied s; t9 = refl; t10 = ap (λ z. (is_stack (sort_kind z) && is_place_word word) && not (is_parser_part s.part)) is; calls = refl })
      (sits_owner {x = an_enumeration e} is refl refl).keeps;
} where
  among_kind : Bool → Option Kind
  among_kind b = cond b (Some (one_of e)) None

  same : (z : Enumeration) → not (takes (member_place z) (member (name text) word) (one_of z)) ≡ false
  same Enumeration.hash_algorithm = refl
  same Enumeration.counter_type = refl
  same Enumeration.meter_type = refl
  same Enumeration.clone_type = refl

  kind : kind_of s (member (name text) word) ≡ one_of e
  kind = ap (λ z. known_kind (member_kind s.layouts (sort_kind z) word)) is ∙ ap (λ b. known_kind (among_kind b)) among

  known : is_none (member_kind s.layouts (kind_of s (name text)) word) && not (is_plain (kind_of s (name text))) ≡ false
  known = ap (λ z. is_none (member_kind s.layouts (sort_kind z) word) && not (is_plain (sort_kind z))) is ∙ ap (λ b. is_none (among_kind b) && true) among

-- methods

-- what is no direct counter is counted nowhere
pub no_counter : {k : Kind} (s : Scope) (e : Exp16) (word : Name) → kind_of s e ≡ k → is_direct_counter k ≡ false → is_counted_outside s callee (member e word) ≡ false
no_counter s (name text) word kind is = ap (λ (z : Kind). is_direct_counter z && counts_outside s.names s.part text) kind ∙ ap (λ b. b && counts_outside s.names s.part text) is
no_counter s _ word kind is = refl

unplaced : (a b c : Bool) → b ≡ false → (a && b) && c ≡ false
unplaced a b c is = ap (λ x. (a && x) && c) is ∙ ap (λ x. x && c) (both_false a false refl)

-- A method of what is of a kind, with what it wants: so many arguments are given, it may stand here, where tables may be
-- applied if it applies one, and if it is a direct counter's its table has the action.
pub method_sound : {s : Scope} {e : Exp16} {word : Name} {given : Exp16} {k : Kind} {d n : ℕ} (g : Signature) → kind_of s e ≡ k → method_signature k word ≡ Some g → Sits s (owner_by (Some g)) e d → Given s g.wanted unasked given n → nat_eq (length g.wanted) (argument_count given) ≡ true → may_stand s given g.stands ≡ true → applies_nothing s.part && is_applied g.gives ≡ false → is_counted_outside s callee (member e word) ≡ false → is_place_word word ≡ false → Sound s (call (member e word) given) g.gives false (suc (max (suc d) n))
method_sound {s} {e} {word} {given} {k} g kind known owned arguments count stands runs counted plainly = record {
  kind = ap call_kind signature;
  writes = never;
  depths = let small = owned.depths in let few = arguments.depths in omega (arith, small, few);
  keeps = λ p asks. fine_first
      (value_fine s p (call (member e word) given) g.gives false asks (ap call_kind signature) never refl refl refl
      (ap (λ (o : Option Signature). option_map_or (takes_other_count (argument_count given)) o false) signature ∙ ap not count)
      (ap (λ (o : Option Signature). applies_nothing s.part && is_applied (call_kind o)) signature ∙ runs)
      (ap (λ (o : Option Signature). option_map_or (stands_elsewhere s given) o false) signature ∙ ap not stands))
      (fine_behind
      (fine_first (record { t1 = ap (λ (o : Option Signature). is_none o && not (is_plain (kind_of s e))) signature; t2 = refl; t3 = refl; t4 = refl; t5 = refl; t6 = refl; t8 = unapplied s; t9 = counted; t10 = unplaced (is_stack (kind_of s e)) (is_place_word word) (not (is_parser_part s.part)) plainly; calls = refl })
      (subst (λ (o : Option Signature). Fines (uses_at s (one (owner_by o)) e)) (sym signature) owned.keeps))
      (subst (λ (o : Option Signature). Fines (uses_at s (many (wanted_by o) unasked) given)) (sym signature) arguments.keeps));
} where
  signature : method_signature (kind_of s e) word ≡ Some g
  signature = ap (λ (z : Kind). method_signature z word) kind ∙ known

-- functions
pub function_sound : {s : Scope} {text : Name} {given : Exp16} {n : ℕ} (g : Signature) → sort_of s text ≡ a_function → function_signature text ≡ Some g → Given s g.wanted unasked given n → nat_eq (length g.wanted) (argument_count given) ≡ true → may_stand s given g.stands ≡ true → is_applied g.gives ≡ false → Sound s (call (name text) given) g.gives false (suc (max 1 n))
function_sound {s} {text} {given} g is known arguments count stands runs = record {
  kind = ap call_kind signature;
  writes = never;
  depths = let few = arguments.depths in omega (arith, few);
  keeps = λ p asks. fine_first
      (value_fine s p (call (name text) given) g.gives false asks (ap call_kind signature) never refl refl refl
      (ap (λ (o : Option Signature). option_map_or (takes_other_count (argument_count given)) o false) signature ∙ ap not count)
      (ap (λ (o : Option Signature). applies_nothing s.part && is_applied (call_kind o)) signature ∙ both_false (applies_nothing s.part) (is_applied g.gives) runs)
      (ap (λ (o : Option Signature). option_map_or (stands_elsewhere s given) o false) signature ∙ ap not stands))
      (fine_behind
      (fine_first (record { t1 = ap (λ z. not (fits_place callee z)) is; t2 = refl; t3 = refl; t4 = refl; t5 = refl; t6 = refl; t8 = unapplied s; t9 = refl; t10 = refl; calls = ap (if_action text) is }) no_fines)
      (subst (λ (o : Option Signature). Fines (uses_at s (many (wanted_by o) unasked) given)) (sym signature) arguments.keeps));
} where
  signature : sort_signature (sort_of s text) text ≡ Some g
  signature = ap (λ z. sort_signature z text) is ∙ known

-- tables

pub table_applied : {s : Scope} {text : Name} {actions : List ActionName} {counters : Option Name} → sort_of s text ≡ a_table actions counters → applies_nothing s.part ≡ false → Sound s (call (member (name text) (codes "apply")) no_arguments) applied false 3
table_applied {s} {text} {actions} {counters} known applies =
    method_sound {k = table} (method false [] applied) (ap sort_kind known) refl (sits_owner {x = a_table actions counters} known refl refl) none_given refl refl (ap (λ b. b && true) applies) (no_counter {k = table} s (name text) (codes "apply") (ap sort_kind known) refl) refl

-- `t.apply().hit`
pub table_hit : {s : Scope} {text : Name} {actions : List ActionName} {counters : Option Name} → sort_of s text ≡ a_table actions counters → applies_nothing s.part ≡ false → Sound s (member (call (member (name text) (codes "apply")) no_arguments) (codes "hit")) boolean false 4
table_hit {s} {text} known applies = sound_member s _ applied false 3 (codes "hit") boolean (table_applied known applies) refl refl refl
