-- In a program that breaks no rule no action calls itself.
use Rattle.std.proofs.Common.{◌≡◌, ◌∙◌, false, true, inl, List, Option, Some, MatchOption, subst, sym, ap}
use Rattle.p414_syntax.specs.declared.syntax.Decl.{Decl}
use Rattle.p414_syntax.specs.declared.syntax.Syntax14.{Syntax14}
use Rattle.p414_syntax.specs.Actions.{ActionCallsItself}
use Rattle.p414_syntax.specs.Breaks.{BreaksNone, IsBroken, program_rules}
use Rattle.p414_syntax.specs.Twice.{declares_twice}

acyclic : (ds : List Decl) → BreaksNone ds program_rules → ActionCallsItself ds → ⊥
unfolding IsBroken
acyclic ds none itself = none.1.1.1.1.1.1.1.1.1.1.1.1.1.1.0 (inl itself)

-- what is found, by the names that are found
abbrev Found : List Decl → Option (List Decl) → Type 0
Found ds found = MatchOption found (declares_twice ds ≡ true) (λ names. (declares_twice ds ≡ false) × (names ≡ ds))

-- names that are found are those of the declarations
names_are : (ds : List Decl) (found : Option (List Decl)) (names : List Decl) → found ≡ Some names → Found ds found → names ≡ ds
names_are ds found names is told =
    let answer : Found ds (Some names) = subst (Found ds) is told in
    answer.1

pub acyclic_names : (program syntax : Syntax14) (ds : List Decl) (found : Option (List Decl)) (names : List Decl)
    → BreaksNone program.decls program_rules → syntax ≡ program → ds ≡ syntax.decls → found ≡ Some names
    → Found ds found → ActionCallsItself names → ⊥
acyclic_names program syntax ds found names none same of is told =
    let all : names ≡ program.decls = names_are ds found names is told ∙ (of ∙ ap (λ (s : Syntax14). s.decls) same) in
    subst (λ (l : List Decl). ActionCallsItself l → ⊥) (sym all) (acyclic program.decls none)
