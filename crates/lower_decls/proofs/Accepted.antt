-- What is known of a program that breaks no rule.
use Rattle.std.proofs.Common.{◌≡◌, ◌∙◌, Bool, true, false, List, Option, Some, MatchOption, Result, refl, subst, sym, ap}
use Rattle.std.specs.Bool.{IsTrue}
use Rattle.std.specs.Prelude.{IfOk}
use Rattle.p414_syntax.specs.declared.syntax.Decl.{Decl}
use Rattle.p414_syntax.specs.declared.syntax.Syntax14.{Syntax14}
use Rattle.p414_syntax.specs.Twice.{declares_twice}
use Rattle.p414_syntax.specs.Breaks.{IsBroken}
use Rattle.p414_sem.specs.Expanded.{Expanded, IsExpanded}
use Rattle.p414_field_lists.specs.declared.rows.ItemRow.{ItemRow}
use Rattle.p414_field_lists.specs.Meaning.{AreReady}
use Rattle.p414_body_check.specs.Answers.{IsAccepted}
use Rattle.lower_decls.specs.declared.lowered.LoweredTypes.{LoweredTypes}
use Rattle.lower_decls.specs.Lowered.{AreLowered}

not_true : (b : Bool) → (IsTrue b → ⊥) → b ≡ false
not_true false never = refl
not_true true never = absurd (never refl)

-- C1: no name is declared twice in its sort
pub names_once : (s : Syntax14) → IsAccepted s → declares_twice s.decls ≡ false
unfolding IsBroken
names_once s accepted = not_true (declares_twice s.decls) accepted.0

-- what is found, by the names that are found
abbrev Found : List Decl → Option (List Decl) → Type 0
Found ds found = MatchOption found (declares_twice ds ≡ true) (λ names. (declares_twice ds ≡ false) × (names ≡ ds))

-- names that are found are those of the declarations
pub names_are : (program syntax : Syntax14) (ds : List Decl) (found : Option (List Decl)) (names : List Decl)
    → syntax ≡ program → ds ≡ syntax.decls → found ≡ Some names → Found ds found → names ≡ program.decls
names_are program syntax ds found names same of is told =
    let answer : Found ds (Some names) = subst (Found ds) is told in
    answer.1 ∙ (of ∙ ap (λ (s : Syntax14). s.decls) same)

pub once_named : (ds : List Decl) (found : Option (List Decl)) (names : List Decl) → found ≡ Some names → Found ds found → declares_twice names ≡ false
once_named ds found names is told =
    let answer : Found ds (Some names) = subst (Found ds) is told in
    ap declares_twice answer.1 ∙ answer.0

pub ready_named : (ds names : List Decl) (lists : List (List ItemRow)) → names ≡ ds → AreReady ds lists → AreReady names lists
ready_named ds names lists same ready = subst (λ (l : List Decl). AreReady l lists) (sym same) ready

pub lowered_named : {E : Type 0} (result : Result LoweredTypes E) (ds names : List Decl) → names ≡ ds → IfOk result (λ found. (x : Expanded) → IsExpanded names x → AreLowered names x found) → IfOk result (λ found. (x : Expanded) → IsExpanded ds x → AreLowered ds x found)
lowered_named result ds names same = subst (λ (l : List Decl). IfOk result (λ found. (x : Expanded) → IsExpanded l x → AreLowered l x found)) same
