-- The actions of a program, ready to run under a rule.
use Rattle.std.specs.Prelude.{◌≡◌, ℕ, ◌<◌, List, [], length, slice_index_or, All}
use Rattle.state_store.specs.declared.shapes.Shape as objects
use Rattle.p414_syntax.specs.declared.syntax.Decl.{Decl}
use Rattle.p414_sem.specs.Expanded.{Expanded, IsExpanded}
use Rattle.p414_sem.specs.Effects.{Moment}
use Rattle.p414_layout.specs.declared.shape.Shape.{Shape}
use Rattle.p414_ready_actions.specs.declared.rows.ReadyPrimitive.{ReadyPrimitive}
use Rattle.p414_ready_actions.specs.Running.{rows_acted}
use Rattle.p414_ready_actions.specs.Meaning.{AreSums, Means}
use Rattle.p414_act_run.specs.Fits.{FitsRow}
use Rattle.p414_act_run.specs.Sums.{sums_in}
use Rattle.p414_ready_tables.specs.declared.actions.ReadyActions.{ReadyActions}

-- each of these is the action with its place as its number
abbrev pub AreMeant : List Decl → List (List ReadyPrimitive) → Type 0
AreMeant ds rows = (n : ℕ) → n < length rows → Means ds n (slice_index_or rows n [])

pub record AreActions (ds : List Decl) (a : ReadyActions) : Type 0 where
  pub mean : AreMeant ds a.rows
  pub sums : (x : Expanded) → IsExpanded ds x → AreSums ds x (sums_in a.calculations)

-- the rows of an action fit the states and the stores that they run on, and those of each action do
pub record FitAll (layout : List Shape) (shapes : List objects.Shape) (rows : List ReadyPrimitive) : Type 0 where
  pub each : All (FitsRow layout shapes) rows

abbrev pub FitsActions : List Shape → List objects.Shape → ReadyActions → Type 0
FitsActions layout shapes a = All (FitAll layout shapes) a.rows

-- what the action with a number leaves, called with these arguments
abbrev pub acted : ReadyActions → ℕ → List ℕ → Moment → Moment
acted a number arguments m =
    rows_acted (sums_in a.calculations) a.rule arguments (slice_index_or a.rows number []) m
