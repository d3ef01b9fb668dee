-- What putting numbers into slots one after another changes (this project's own).
use Rattle.std.specs.Prelude.{◌≡◌, ℕ, ◌-◌, ◌<◌, ◌≤◌, ◌⊎◌, List, length, slice_index_or, None}
use Rattle.v1_core.specs.Layouts.{Layout}
use Rattle.v1_core.specs.Cells.{Cells, slot_value}
use Rattle.v1_core.specs.Laid.{IsSlot}

-- the slots from one up to another are there, and none is a field of a header
abbrev pub AreLone : Layout → ℕ → ℕ → Type 0
AreLone l from to = (slot : ℕ) → from ≤ slot → slot < to → IsSlot l slot None

-- with other numbers
abbrev pub with_numbers : Cells → List ℕ → Cells
with_numbers c numbers = record c { numbers = numbers }

-- these numbers stand in the slots from one up to another, and nothing else has changed
pub record IsFilled (c d : Cells) (from to : ℕ) (numbers : List ℕ) : Type 0 where
  pub rest : d ≡ with_numbers c d.numbers
  pub count : length d.numbers ≡ length c.numbers
  pub within : (slot : ℕ) → from ≤ slot → slot < to → slot_value d slot ≡ slice_index_or numbers (slot - from) 0
  pub others : (slot : ℕ) → (slot < from) ⊎ (to ≤ slot) → slot_value d slot ≡ slot_value c slot
