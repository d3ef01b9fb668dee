-- What holds of each action of a P4_14 program that is read from a text and breaks no rule, under a lowering that shows
-- the program (this project's own; P4_14 1.0.5, "Actions", "Primitive Actions"; P4_16 1.2, "Actions", "Invoking
-- actions").
use Rattle.std.specs.Prelude.{◌≡◌, ℕ, suc, ◌<◌, Bool, true, length, map, Option}
use Rattle.std.specs.List.{AllByRecursion}
use Rattle.p414_syntax.specs.declared.syntax.Syntax14.{Syntax14}
use Rattle.p414_syntax.specs.Spelt.{is_spelt14}
use Rattle.p414_syntax.specs.Arguments.{actions}
use Rattle.p414_syntax.specs.Breaks.{BreaksNone, program_rules}
use Rattle.p414_sem.specs.Controls.{Setting as Setting14}
use Rattle.p414_sem.specs.Expanded.{Expanded, IsExpanded, primitives_at}
use Rattle.p414_sem.specs.Operations.{primitive_of}
use Rattle.p414_sem.specs.Signatures.{parameter_widths}
use Rattle.p416_syntax.specs.declared.controls.Action16.{Action16}
use Rattle.v1_core.specs.Frames.{Owner}
use Rattle.v1_core.specs.Surroundings.{Surroundings}
use Rattle.v1_core.specs.Blocks.{act_at}
use Rattle.agreement_of_meanings.specs.Shown.{width_of}
use Rattle.lower_laws_base.specs.Context.{Lowering, HasRoot}
use Rattle.lower_laws_base.specs.Alike.{ActsAlike}
use Rattle.lower_laws_actions.specs.Fits.{PrimitiveFits}
use Rattle.lower_laws_rules.specs.Acting.{WidthsFit, PrimitiveStands}
use Rattle.lower_laws_premises.specs.Shown.{Shows}
use Rattle.lower_laws_premises.specs.Placed.{StandsIn, block_place}
use Rattle.lower_laws_premises.specs.Scope.{InScope}

-- a program that is read, breaks no rule, and comes to this
pub record IsAccepted (s : Syntax14) (x : Expanded) : Type 0 where
  pub spelt : is_spelt14 s ≡ true
  pub none : BreaksNone s.decls program_rules
  pub expanded : IsExpanded s.decls x

-- Each primitive of an action fits, and is one that the rules of P4_16 let stand in the pipeline of the action; slots, registers and
-- parameters have 1 to 128 bits.
pub record PrimitivesFit (s : Syntax14) (x : Expanded) (c : Lowering) (action : ℕ) : Type 0 where
  pub fit : AllByRecursion (λ i. PrimitiveFits c s.decls (primitive_of s.decls x i)) (primitives_at x action)
  pub stand : (egress : Bool) → StandsIn s.decls egress action → AllByRecursion (λ i. PrimitiveStands c (block_place egress) (primitive_of s.decls x i)) (primitives_at x action)
  pub widths : ((o : Owner) → HasRoot c.layout o → c.can_write o ≡ true) → WidthsFit c

-- that holds of each action, where the parameters have the widths of the action's
abbrev pub ActionsFit : Type 0
ActionsFit =
    (s : Syntax14) (x : Expanded) → IsAccepted s x → (c : Lowering) → Shows c s.decls →
    (action : ℕ) → action < length (actions s.decls) → map width_of c.parameters ≡ parameter_widths s.decls action → PrimitivesFit s x c action

-- An action does what it does in P4_14, under both rules, with no premise on its primitives.
abbrev pub ActionsAct : Type 0
ActionsAct =
    (s : Syntax14) (d : Setting14) → d.decls ≡ s.decls → IsAccepted s d.expanded → (c : Lowering) → Shows c s.decls →
    (b : Surroundings) (calls : ℕ) (direct : Option ℕ) (action : ℕ) → action < length (actions s.decls) → (a : Action16) → InScope c d b calls direct action a →
    ActsAlike c.layout d b (act_at b (suc calls)) direct action (parameter_widths s.decls action) a
