-- What externs are called with, and the parameters of actions, copied in from left to right and out in the order of their
-- positions (P4_16 1.2, "Calling convention: call by copy in/copy out").
use Rattle.std.specs.Prelude.{ℕ, Bool, if◌then◌else◌, List, [], ◌∷◌, ◌++◌, None}
use Rattle.p4x_bits.specs.BitLists.{bits}
use Rattle.v1_core.specs.Values.{Value, number_in, width_in}
use Rattle.v1_core.specs.Cells.{Cells, slot_value}
use Rattle.v1_core.specs.Ready.{Ended, given, failed}
use Rattle.v1_ready_blocks.specs.declared.places.Target.{Target}
use Rattle.v1_ready_blocks.specs.declared.places.Range.{Range}
use Rattle.v1_ready_blocks.specs.Moments.{Moment, with_cells, with_waiting, is_stopped, raised, going_on}
use Rattle.v1_ready_blocks.specs.Places.{put_at, put_value, taken, copied, emptied, number_taken}
use Rattle.v1_ready_blocks.specs.Tests.{Applied, Valued, Test, test_value, with_test, Source, source_range, with_source}
use Rattle.v1_ready_blocks.specs.Externs.{Given}

-- arguments of externs

-- a value, or an item of the list in braces
pub data Argument : Type 0 where
  a_value : (e : Test) → Argument
  an_item : (e : Test) → Argument

abbrev pub nothing_given : Given
nothing_given = record { values = []; list = [] }

abbrev pub with_given : Argument → Value → Given → Given
with_given (a_value e) v g = record g { values = g.values ++ v ∷ [] }
with_given (an_item e) v g = record g { list = g.list ++ bits (width_in v) (number_in v) }

abbrev pub test_of : Argument → Test
test_of (a_value e) = e
test_of (an_item e) = e

-- what is given so far, and what evaluating it leaves
pub record Gathered : Type 0 where
  pub given : Given
  pub moment : Moment

abbrev pub with_argument : Argument → Given → Valued → Gathered
with_argument a g x = of x.value
  where
    of : Ended → Gathered
    of (given v) = record { given = with_given a v g; moment = x.moment }
    of (failed e) = record { given = g; moment = raised e x.moment }

-- from left to right, behind those that are given already; an error ends that
abbrev pub gathered : (ℕ → Moment → Applied) → List Argument → Gathered → Gathered
gathered runs [] x = x
gathered runs (a ∷ arguments) x =
    gathered runs arguments
    (if is_stopped x.moment then x else with_argument a x.given (test_value runs (test_of a) x.moment))

abbrev pub arguments : (ℕ → Moment → Applied) → List Argument → Moment → Gathered
arguments runs list m = gathered runs list (record { given = nothing_given; moment = m })

-- parameters of actions

-- what a parameter starts with: a value in its slot, a header, a stack or a struct, or 0 for an `out` one
pub data Incoming : Type 0 where
  value_in : (to : ℕ) (e : Test) → Incoming
  parts_in : (to : Range) (from : Source) → Incoming
  zero_in : (to : Range) → Incoming

-- from left to right; an error ends that
abbrev pub all_in : (Incoming → Moment → Moment) → List Incoming → Moment → Moment
all_in put [] m = m
all_in put (a ∷ incoming) m = all_in put incoming (going_on (put a) m)

-- into the frame at once, where no argument applies a table

abbrev pub value_placed : ℕ → Value → Moment → Moment
value_placed to v m = with_cells (put_value to None v m.cells) m

abbrev pub parts_placed : Range → Range → Moment → Moment
parts_placed from to m = with_cells (copied from to m.cells) m

abbrev pub placed : (ℕ → Moment → Applied) → Incoming → Moment → Moment
placed runs (value_in to e) m = with_test (test_value runs e m) (value_placed to)
placed runs (parts_in to from) m = with_source (source_range runs from m) (λ r n. parts_placed r to n)
placed runs (zero_in to) m = with_cells (emptied to m.cells) m

-- or into the waiting frame, from where all enter the frame when all are evaluated: a table that an argument applies may run
-- the same action, which has one place for each parameter

abbrev pub value_waits : ℕ → Value → Moment → Moment
value_waits to v m = with_waiting (put_value to None v m.waiting) m

abbrev pub parts_wait : Range → Range → Moment → Moment
parts_wait from to m = with_waiting (taken from to m.cells m.waiting) m

abbrev pub waits : (ℕ → Moment → Applied) → Incoming → Moment → Moment
waits runs (value_in to e) m = with_test (test_value runs e m) (value_waits to)
waits runs (parts_in to from) m = with_source (source_range runs from m) (λ r n. parts_wait r to n)
waits runs (zero_in to) m = with_waiting (emptied to m.waiting) m

abbrev pub entered : Incoming → Moment → Moment
entered (value_in to e) m = with_cells (number_taken to to m.waiting m.cells) m
entered (parts_in to from) m = with_cells (taken to to m.waiting m.cells) m
entered (zero_in to) m = with_cells (taken to to m.waiting m.cells) m

abbrev pub all_entered : List Incoming → Moment → Moment
all_entered [] m = m
all_entered (a ∷ incoming) m = all_entered incoming (entered a m)

abbrev pub brought_in : (ℕ → Moment → Applied) → Bool → List Incoming → Moment → Moment
brought_in runs apart incoming m =
    if apart then going_on (all_entered incoming) (all_in (waits runs) incoming m)
    else all_in (placed runs) incoming m

-- an `out` or `inout` parameter goes back to its argument
pub data Outgoing : Type 0 where
  value_out : (from : ℕ) (to : Target) → Outgoing
  parts_out : (from to : Range) → Outgoing

abbrev pub back : Outgoing → Cells → Cells
back (value_out from to) c = put_at to (slot_value c from) c
back (parts_out from to) c = copied from to c

-- in the order of positions
abbrev pub all_back : List Outgoing → Cells → Cells
all_back [] c = c
all_back (a ∷ outgoing) c = all_back outgoing (back a c)

abbrev pub given_back : List Outgoing → Moment → Moment
given_back outgoing m = with_cells (all_back outgoing m.cells) m
