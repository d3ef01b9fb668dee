-- Laws of actions (this project's own; P4_14 1.0.5, "Actions", "Primitive Actions"; P4_16 1.2, "Actions", "Invoking
-- actions").
use Rattle.std.specs.Prelude.{List, Option, map, suc, true, ℕ, ◌≡◌}
use Rattle.agreement_of_meanings.specs.Shown.{width_of}
use Rattle.p414_sem.specs.Controls.{Setting as Setting14}
use Rattle.p414_sem.specs.Effects.{Moment, acted}
use Rattle.p414_sem.specs.Expanded.{Expanded}
use Rattle.p414_syntax.specs.Arguments.{Invocation}
use Rattle.p414_syntax.specs.declared.syntax.Decl.{Decl}
use Rattle.p414_syntax.specs.declared.syntax.Rule14.TheVariants.{Parallel, Sequential}
use Rattle.p416_syntax.specs.declared.controls.Action16.{Action16}
use Rattle.v1_core.specs.Blocks.{act_at}
use Rattle.v1_core.specs.Surroundings.{Surroundings}
use Rattle.lower_laws_actions.specs.Actions.{ActionIs}
use Rattle.lower_laws_actions.specs.Apart.{are_apart}
use Rattle.lower_laws_actions.specs.Runs.{primitives_of}
use Rattle.lower_laws_base.specs.Alike.{ActsAlike}
use Rattle.lower_laws_base.specs.Context.{Lowering}

-- An action in which no primitive reads what an earlier one changes does the same under both rules, with any arguments, in any state.
abbrev pub RulesAgree : Type 0
RulesAgree =
    (ds : List Decl) (x : Expanded) (all : List Invocation) → are_apart ds (primitives_of ds x all) ≡ true →
    (arguments : List ℕ) (m : Moment) → acted ds x Parallel arguments all m ≡ acted ds x Sequential arguments all m

-- An action that is written as asked does what the action of P4_14 does, under both rules, where a table runs it.
abbrev pub ActionsAct : Type 0
ActionsAct =
    (c : Lowering) (d : Setting14) (b : Surroundings) (calls : ℕ) (direct : Option ℕ) (action : ℕ) (a : Action16) → ActionIs c d b calls direct action a →
    ActsAlike c.layout d b (act_at b (suc calls)) direct action (map width_of c.parameters) a
