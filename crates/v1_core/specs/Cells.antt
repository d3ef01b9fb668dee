-- What stands in the parts of a packed frame, by their numbers (P4_16 1.2, "Operations on headers", "Operations on header
-- stacks"; the numbers, requests and events are this project's own). The words are those of `Numbered` of v1_core.
use Rattle.std.specs.Prelude.{◌≡◌, ℕ, ◌-◌, ◌^◌, ◌<◌, ◌≤◌, Bool, true, false, if◌then◌else◌, List, [], ◌∷◌, ◌++◌, length, take, drop, replicate, slice_index, slice_index_or, slice_set, Option, Some, None}
use Rattle.fabric.specs.declared.items.Event.{Event}
use Rattle.fabric.specs.declared.items.RequestKind.{RequestKind}
use Rattle.fabric.specs.declared.items.RequestKind.TheVariants.{CloneI2E, CloneE2E, Resubmit, Recirculate}
use Rattle.v1_core.specs.Numbers.{is_same_truth}
use Rattle.v1_core.specs.Frames.{Request}
use Rattle.v1_core.specs.declared.layout.HeaderSlots.{HeaderSlots}
use Rattle.v1_core.specs.Layouts.{Layout, no_slots}

-- the parts, which never change, and what stands in them
pub record Cells : Type 0 where
  pub layout : Layout
  -- the number in each slot, whether each header is valid, and the place of each stack
  pub numbers : List ℕ
  pub valids : List Bool
  pub places : List ℕ
  -- the last request of each kind
  pub clone_i2e : Option Request
  pub clone_e2e : Option Request
  pub resubmit : Option Request
  pub recirculate : Option Request
  -- the applications of tables, in order
  pub events : List Event

-- slots

-- what is no field of a header is always there
abbrev pub owner_valid : List Bool → Option ℕ → Bool
owner_valid valids None = true
owner_valid valids (Some header) = slice_index_or valids header false

abbrev pub is_live : Cells → ℕ → Bool
is_live c slot = owner_valid c.valids (slice_index_or c.layout.owners slot None)

-- the number in a slot; a field of an invalid header reads 0
abbrev pub slot_value : Cells → ℕ → ℕ
slot_value c slot = if is_live c slot then slice_index c.numbers slot else 0

-- with another number in a slot; a write to a field of an invalid header does nothing
abbrev pub with_slot : Cells → ℕ → ℕ → Cells
with_slot c slot n =
    record c { numbers = if is_live c slot then slice_set c.numbers slot n else c.numbers }

-- headers

abbrev pub header_valid : Cells → ℕ → Bool
header_valid c header = slice_index_or c.valids header false

abbrev pub header_slots : Cells → ℕ → HeaderSlots
header_slots c header = slice_index_or c.layout.headers header no_slots

abbrev pub cleared_numbers : HeaderSlots → List ℕ → List ℕ
cleared_numbers s numbers = take s.from numbers ++ replicate (s.to - s.from) 0 ++ drop s.to numbers

-- a header that becomes valid or invalid has fields that are 0; one that is so already stays as it is
abbrev pub with_validity : Cells → ℕ → Bool → Cells
with_validity c header on = record c {
  numbers =
      if is_same_truth (header_valid c header) on then c.numbers
      else cleared_numbers (header_slots c header) c.numbers;
  valids = slice_set c.valids header on;
}

-- stacks

abbrev pub stack_place : Cells → ℕ → ℕ
stack_place c stack = slice_index c.places stack

abbrev pub stack_size : Cells → ℕ → ℕ
stack_size c stack = slice_index c.layout.sizes stack

abbrev pub with_stack_place : Cells → ℕ → ℕ → Cells
with_stack_place c stack place = record c { places = slice_set c.places stack place }

-- requests and events

abbrev pub request_of : Cells → RequestKind → Option Request
request_of c CloneI2E = c.clone_i2e
request_of c CloneE2E = c.clone_e2e
request_of c Resubmit = c.resubmit
request_of c Recirculate = c.recirculate

abbrev pub with_request : RequestKind → Option Request → Cells → Cells
with_request CloneI2E r c = record c { clone_i2e = r }
with_request CloneE2E r c = record c { clone_e2e = r }
with_request Resubmit r c = record c { resubmit = r }
with_request Recirculate r c = record c { recirculate = r }

abbrev pub without_requests : Cells → Cells
without_requests c = record c { clone_i2e = None; clone_e2e = None; resubmit = None; recirculate = None }

abbrev pub with_event : Event → Cells → Cells
with_event e c = record c { events = c.events ++ e ∷ [] }

abbrev pub without_events : Cells → Cells
without_events c = record c { events = [] }

-- at first: all numbers are 0, all headers invalid, all stacks at place 0, nothing is requested and no table was applied
abbrev pub new_cells : Layout → Cells
new_cells l = record {
  layout = l;
  numbers = replicate (length l.widths) 0;
  valids = replicate (length l.headers) false;
  places = replicate (length l.sizes) 0;
  clone_i2e = None;
  clone_e2e = None;
  resubmit = None;
  recirculate = None;
  events = [];
}

-- each slot has a number that fits it, each header a mark, and each stack a place that is at most its size
pub record AreWhole (c : Cells) : Type 0 where
  pub numbers : length c.numbers ≡ length c.layout.widths
  pub valids : length c.valids ≡ length c.layout.headers
  pub places : length c.places ≡ length c.layout.sizes
  pub fits : (slot : ℕ) → slot < length c.layout.widths → slice_index c.numbers slot < 2 ^ slice_index c.layout.widths slot
  pub within : (stack : ℕ) → stack_place c stack ≤ stack_size c stack
