-- What statements do, and how many begin to run (P4_16 1.2, "Statements", "Assignment statement", "Conditional statement",
-- "Block statement", "Variable declarations", "Switch statement", "Function calls and method invocations"; the count is this
-- project's own). Each statement that begins to run counts one, but for blocks, empty statements and variables without an
-- initial value. Once an error stopped the parser none begins.
use Rattle.std.specs.Prelude.{ℕ, ◌==◌, Bool, false, if◌then◌else◌, List, Option, Some, None}
use Rattle.v1_core.specs.Values.{is_true}
use Rattle.v1_core.specs.Cells.{with_validity}
use Rattle.v1_ready_blocks.specs.declared.places.Slice.{Slice}
use Rattle.v1_ready_blocks.specs.declared.places.SlotPlace.{SlotPlace}
use Rattle.v1_ready_blocks.specs.declared.places.Range.{Range}
use Rattle.v1_ready_blocks.specs.declared.places.RangePlace.{RangePlace}
use Rattle.v1_ready_blocks.specs.declared.externs.Extern.{Extern}
use Rattle.v1_ready_blocks.specs.Moments.{Moment, with_cells, ticked, is_stopped, going_on}
use Rattle.v1_ready_blocks.specs.Places.{slot_at, range_at, put_value, copied, emptied}
use Rattle.v1_ready_blocks.specs.Stacks.{pushed, popped}
use Rattle.v1_ready_blocks.specs.Tests.{Applied, World, Test, test_value, with_test, Source, source_range, with_source, with_range, with_slot_at}
use Rattle.v1_ready_blocks.specs.Packets.{extract, emit}
use Rattle.v1_ready_blocks.specs.Externs.{executed}
use Rattle.v1_ready_blocks.specs.Arguments.{Argument, arguments, Incoming, brought_in, Outgoing, given_back}

-- Statements without others in them. What is written to is found first, and then values are evaluated, from left to right.
pub data Deed : Type 0 where
  -- assignments of single values; of headers, stacks and structs
  assign : (to : SlotPlace) (slice : Option Slice) (e : Test) → Deed
  assign_parts : (to : RangePlace) (from : Source) → Deed
  -- `setValid` and `setInvalid`
  set_valid : (header : RangePlace) (on : Bool) → Deed
  push_front : (stack : Range) (count : ℕ) → Deed
  pop_front : (stack : Range) (count : ℕ) → Deed
  -- `p.extract(h)`, and `p.emit(x)` of a header or a stack
  extract_header : (to : RangePlace) → Deed
  emit_headers : (from : Source) → Deed
  execute : (what : Extern) (arguments : List Argument) → Deed
  apply : (table : ℕ) → Deed
  -- a call whose value is let go
  let_go : (e : Test) → Deed

abbrev pub header_made : Bool → Range → Moment → Moment
header_made on r m = with_cells (with_validity m.cells r.header on) m

abbrev pub done : (ℕ → Moment → Applied) → Deed → Moment → Moment
done runs (assign to slice e) m =
    with_slot_at (slot_at m.cells to) m
    (λ slot. with_test (test_value runs e m) (λ v n. with_cells (put_value slot slice v n.cells) n))
done runs (assign_parts to from) m =
    with_range (range_at m.cells to) m
    (λ r. with_source (source_range runs from m) (λ s n. with_cells (copied s r n.cells) n))
done runs (set_valid header on) m = with_range (range_at m.cells header) m (λ r. header_made on r m)
done runs (push_front stack count) m = with_cells (pushed stack count m.cells) m
done runs (pop_front stack count) m = with_cells (popped stack count m.cells) m
done runs (extract_header to) m = with_range (range_at m.cells to) m (λ r. extract to r m)
done runs (emit_headers from) m = with_source (source_range runs from m) emit
done runs (execute what list) m = let x = arguments runs list m in going_on (executed what x.given) x.moment
done runs (apply table) m = (runs table m).moment
done runs (let_go e) m = with_test (test_value runs e m) (λ v n. n)

-- A call of an action: arguments are evaluated from left to right and enter the frame, apart from it where one of them applies a
-- table; the body runs; and `out` and `inout` parameters go back in the order of their positions.
abbrev pub called : World → ℕ → Bool → List Incoming → List Outgoing → Moment → Moment
called w action apart incoming outgoing m =
    going_on (λ n. going_on (given_back outgoing) (w.act action n)) (brought_in w.apply apart incoming m)

pub data Statement : Type 0 where
  nothing : Statement
  sequence : (first last : Statement) → Statement
  -- a variable without an initial value, which starts at 0
  start : (at : Range) → Statement
  -- one that is counted: without others in it, or a call of an action
  does : (deed : Deed) → Statement
  call : (action : ℕ) (apart : Bool) (incoming : List Incoming) (outgoing : List Outgoing) → Statement
  branch : (condition : Test) (positive negative : Statement) → Statement
  -- `switch` over the action that an application of a table ran, with its cases: one after another, by the action's number,
  -- and at the end the one of `default`, or nothing
  switch : (table : ℕ) (cases : Statement) → Statement
  labelled : (action : ℕ) (body cases : Statement) → Statement
  otherwise : (body : Statement) → Statement

-- the action that ran is this one
abbrev pub is_action : Option ℕ → ℕ → Bool
is_action None action = false
is_action (Some ran) action = ran == action

-- What a statement leaves. `ran` is the action that ran, where it is a list of cases.
abbrev pub run : World → Option ℕ → Statement → Moment → Moment
run w ran nothing m = m
run w ran (sequence first last) m = run w ran last (run w ran first m)
run w ran (start at) m = going_on (λ n. with_cells (emptied at n.cells) n) m
run w ran (does deed) m = if is_stopped m then m else done w.apply deed (ticked m)
run w ran (call action apart incoming outgoing) m =
    if is_stopped m then m else called w action apart incoming outgoing (ticked m)
run w ran (branch c positive negative) m =
    if is_stopped m then m
    else
    with_test (test_value w.apply c (ticked m)) (λ v n. if is_true v then run w None positive n else run w None negative n)
run w ran (switch table cases) m =
    if is_stopped m then m else let a = w.apply table (ticked m) in run w a.action cases a.moment
run w ran (labelled action body cases) m = if is_action ran action then run w None body m else run w ran cases m
run w ran (otherwise body) m = run w None body m
