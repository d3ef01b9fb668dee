-- The parts of a frame, which are numbered in the order in which they are added: slots, headers, stacks.
use Rattle.std.specs.Prelude.{ℕ, ◌+◌, List, [], ◌∷◌, ◌++◌, length, replicate, Option, Some, None}
use Rattle.v1_core.specs.declared.layout.HeaderSlots.{HeaderSlots}

pub record Layout : Type 0 where
  -- how many bits each slot has, and the number of the header of which it is a field
  pub widths : List ℕ
  pub owners : List (Option ℕ)
  -- the slots of each header
  pub headers : List HeaderSlots
  -- how many elements each stack has
  pub sizes : List ℕ

-- what stands for the slots of a header that isn't there
abbrev pub no_slots : HeaderSlots
no_slots = record { from = 0; to = 0 }

abbrev pub no_parts : Layout
no_parts = record { widths = []; owners = []; headers = []; sizes = [] }

-- one slot more, which is no field of a header
abbrev pub with_lone_slot : Layout → ℕ → Layout
with_lone_slot l width = record l { widths = l.widths ++ width ∷ []; owners = l.owners ++ None ∷ [] }

-- one header more, with fields of these widths
abbrev pub slots_of_header : Layout → List ℕ → HeaderSlots
slots_of_header l widths = record { from = length l.widths; to = length l.widths + length widths }

abbrev pub with_header_part : Layout → List ℕ → Layout
with_header_part l widths = record l {
  widths = l.widths ++ widths;
  owners = l.owners ++ replicate (length widths) (Some (length l.headers));
  headers = l.headers ++ slots_of_header l widths ∷ [];
}

-- one stack more; its elements are headers by themselves
abbrev pub with_stack_part : Layout → ℕ → Layout
with_stack_part l size = record l { sizes = l.sizes ++ size ∷ [] }
