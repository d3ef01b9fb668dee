-- When an action of P4_16 does what one of P4_14 does: only of states and arguments of the program is it asked, and
-- states of the program are left (this project's own; P4_14 1.0.5, "Actions", and P4_16 1.2, "Actions", "Invoking
-- actions").
use Rattle.std.specs.Prelude.{ℕ, ◌<◌, ◌^◌, List, [], Option, Some}
use Rattle.std.specs.List.{AllZip}
use Rattle.p414_sem.specs.Effects.{Moment as Moment14, acted_by}
use Rattle.p414_sem.specs.Controls.{Setting as Setting14, counted}
use Rattle.p416_syntax.specs.declared.controls.Action16.{Action16}
use Rattle.v1_core.specs.Frames.{Moment}
use Rattle.v1_core.specs.Surroundings.{Surroundings}
use Rattle.v1_core.specs.Tables.{hit_of, run_action}
use Rattle.lower_laws_base.specs.Context.{StateLayout, Aside, Stands}

-- as many arguments as widths, each below 2 ^ its width
abbrev pub FitWidths : List ℕ → List ℕ → Type 0
FitWidths widths arguments = AllZip (λ (width value : ℕ). value < 2 ^ width) widths arguments

-- The action that a table runs, which counts the table's direct counter first, and then does what the action of P4_14 does.
abbrev pub ActsAlike : StateLayout → Setting14 → Surroundings → (Action16 → Moment → Moment) → Option ℕ → ℕ → List ℕ → Action16 → Type 0
ActsAlike g d b act direct action widths a =
    (k : Aside) (entry : Option ℕ) (arguments : List ℕ) (m : Moment14) (n : Moment) → FitWidths widths arguments → Stands g [] [] k m n →
    Stands g [] [] k (acted_by d.decls d.expanded d.rule action arguments (counted direct entry m))
    (run_action b act (hit_of direct entry) arguments (Some a) n)
