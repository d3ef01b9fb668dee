-- What is known of a program that breaks no rule.
use Rattle.std.proofs.Common.{◌≡◌, ◌∙◌, Bool, true, false, inl, inr, List, Option, Some, MatchOption, refl, subst, sym, ap}
use Rattle.std.specs.Bool.{IsTrue}
use Rattle.p414_syntax.specs.declared.syntax.Decl.{Decl}
use Rattle.p414_syntax.specs.declared.syntax.Syntax14.{Syntax14}
use Rattle.p414_syntax.specs.Lists.{HoldsItself}
use Rattle.p414_syntax.specs.Twice.{declares_twice}
use Rattle.p414_syntax.specs.Breaks.{IsBroken}
use Rattle.p414_body_check.specs.Answers.{IsAccepted}

not_true : (b : Bool) → (IsTrue b → ⊥) → b ≡ false
not_true false never = refl
not_true true never = absurd (never refl)

-- C1: no name is declared twice in its sort
pub names_once : (s : Syntax14) → IsAccepted s → declares_twice s.decls ≡ false
unfolding IsBroken
names_once s accepted = not_true (declares_twice s.decls) accepted.0

-- C8: no field list holds itself
none_holds_itself : (s : Syntax14) → IsAccepted s → HoldsItself s.decls → ⊥
unfolding IsBroken
none_holds_itself s accepted holds = accepted.1.1.1.1.1.1.1.0 (inr (inl holds))

-- what is found, by the names that are found
abbrev Found : List Decl → Option (List Decl) → Type 0
Found ds found = MatchOption found (declares_twice ds ≡ true) (λ names. (declares_twice ds ≡ false) × (names ≡ ds))

-- names that are found are those of the declarations
names_are : (ds : List Decl) (found : Option (List Decl)) (names : List Decl) → found ≡ Some names → Found ds found → names ≡ ds
names_are ds found names is told =
    let answer : Found ds (Some names) = subst (Found ds) is told in
    answer.1

pub lists_named : (program syntax : Syntax14) (ds : List Decl) (found : Option (List Decl)) (names : List Decl)
    → IsAccepted program → syntax ≡ program → ds ≡ syntax.decls → found ≡ Some names
    → Found ds found → HoldsItself names → ⊥
lists_named program syntax ds found names none same of is told =
    let all : names ≡ program.decls = names_are ds found names is told ∙ (of ∙ ap (λ (s : Syntax14). s.decls) same) in
    subst (λ (l : List Decl). HoldsItself l → ⊥) (sym all) (none_holds_itself program none)
