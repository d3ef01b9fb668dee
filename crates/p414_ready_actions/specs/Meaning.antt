-- What it is for rows to be an action of a program.
use Rattle.std.specs.Prelude.{◌≡◌, ℕ, ◌<◌, List, length, map}
use Rattle.p414_syntax.specs.declared.syntax.Decl.{Decl}
use Rattle.p414_syntax.specs.declared.syntax.Rule14.{Rule14}
use Rattle.p414_syntax.specs.Names.{Name}
use Rattle.p414_syntax.specs.Arguments.{Invocation, actions}
use Rattle.p414_syntax.specs.ActionExpansion.{ActionExpands}
use Rattle.p414_sem.specs.State.{State}
use Rattle.p414_sem.specs.Expanded.{Expanded, IsExpanded}
use Rattle.p414_sem.specs.Calculations.{calculation_named, result_of}
use Rattle.p414_sem.specs.Effects.{Moment}
use Rattle.p414_sem.specs.Meanings.{Act14}
use Rattle.p414_ready_actions.specs.declared.rows.ReadyPrimitive.{ReadyPrimitive}
use Rattle.p414_ready_actions.specs.Running.{rows_acted}
use Rattle.p414_ready_actions.specs.Words.{calculation_number, row_of}

-- these are the rows of the primitives that an action comes to
abbrev pub AreRows : List Decl → ℕ → List ReadyPrimitive → Type 0
AreRows ds number rows = (all : List Invocation) → ActionExpands ds number all → rows ≡ map (row_of ds) all

-- these are the results of a program's calculations, by their numbers
abbrev pub AreSums : List Decl → Expanded → (ℕ → State → ℕ) → Type 0
AreSums ds x sums =
    (name : Name) (s : State) → sums (calculation_number ds name) s ≡ result_of ds s (calculation_named ds x name)

-- the rows do with each state and store what the action does, called with the same arguments under the same rule
abbrev pub Means : List Decl → ℕ → List ReadyPrimitive → Type 0
Means ds number rows =
    (x : Expanded) → IsExpanded ds x → number < length (actions ds)
    → (sums : ℕ → State → ℕ) → AreSums ds x sums → (rule : Rule14) (arguments : List ℕ) (m : Moment)
    → rows_acted sums rule arguments rows m ≡ Act14 ds x rule number arguments m
