-- What the translation is given: declarations that were read, and that break none of the rules C1 to C28 (this
-- project's own; P4_14 1.0.5, "Summary of P4 BNF").
use Rattle.std.specs.Prelude.{◌≤◌, ◌^◌, List, length}
use Rattle.p414_syntax.specs.declared.actions.Action.{Action}
use Rattle.p414_syntax.specs.declared.syntax.Decl.{Decl}
use Rattle.p414_syntax.specs.Arguments.{actions}
use Rattle.p414_syntax.specs.Breaks.{BreaksNone, program_rules}
use Rattle.p414_sem.specs.Expanded.{Expanded, IsExpanded}
use Rattle.lower_laws_states.specs.Expansions.{Has}
use Rattle.lower_laws_premises.specs.Literals.{IsSpelt}
use Rattle.lower_laws_declared.specs.Layout.{IsShort}

-- No more declarations, fields of a type, actions listed by tables, and parameters of an action, than have numbers of 32 bits: no rule
-- says so, but the number of tokens of a text does.
pub record IsBrief (ds : List Decl) : Type 0 where
  pub short : IsShort ds
  pub few_parameters : (a : Action) → Has (actions ds) a → length a.parameters ≤ 2 ^ 32

-- Declarations that were read from a text, that break no rule, and that come to this.
pub record IsGiven (ds : List Decl) (x : Expanded) : Type 0 where
  pub none : BreaksNone ds program_rules
  pub expanded : IsExpanded ds x
  pub spelt : IsSpelt ds
  pub short : IsShort ds
  pub few_parameters : (a : Action) → Has (actions ds) a → length a.parameters ≤ 2 ^ 32
