-- Elements of a stack that move (P4_16 1.2, "Operations on header stacks"; that the place of the stack stays is this project's
-- own).
use Rattle.std.specs.Prelude.{ℕ, zero, suc, ◌+◌, ◌-◌, ◌*◌, ◌/◌, min}
use Rattle.v1_core.specs.Cells.{Cells}
use Rattle.v1_ready_blocks.specs.declared.places.Range.{Range}
use Rattle.v1_ready_blocks.specs.Places.{copied, made_invalid, all_made}

-- each element of a stack has as many fields; a header is a stack of one element
abbrev pub fields_each : Range → ℕ
fields_each stack = stack.slots / stack.headers

-- the parts of an element
abbrev pub element_of : Range → ℕ → Range
element_of stack number = record {
  slot = stack.slot + number * fields_each stack;
  slots = fields_each stack;
  header = stack.header + number;
  headers = 1;
  stack = 0;
  stacks = 0;
}

abbrev pub element_copied : Range → ℕ → ℕ → Cells → Cells
element_copied stack from to c = copied (element_of stack from) (element_of stack to) c

-- the first so many elements move up by a distance, the last of them first
abbrev pub moved_up : Range → ℕ → ℕ → Cells → Cells
moved_up stack distance zero c = c
moved_up stack distance (suc n) c =
    moved_up stack distance n (element_copied stack n (n + distance) c)

-- so many elements from one on move down by a distance
abbrev pub moved_down : Range → ℕ → ℕ → ℕ → Cells → Cells
moved_down stack distance from zero c = c
moved_down stack distance from (suc n) c =
    moved_down stack distance (1 + from) n (element_copied stack from (from - distance) c)

-- elements move up, and the first ones, so many and at most all, become invalid; what would move past the end is lost
abbrev pub pushed : Range → ℕ → Cells → Cells
pushed stack count c =
    let all = min count stack.headers in
    all_made made_invalid all stack.header (moved_up stack all (stack.headers - all) c)

-- elements move down, and the last ones, so many and at most all, become invalid
abbrev pub popped : Range → ℕ → Cells → Cells
popped stack count c =
    let all = min count stack.headers in
    all_made made_invalid all (stack.header + (stack.headers - all))
    (moved_down stack all all (stack.headers - all) c)
