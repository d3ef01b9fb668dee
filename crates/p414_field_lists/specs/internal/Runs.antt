-- Bits that are still to be put behind a list, as the number that they make.
use Rattle.std.specs.Prelude.{◌^◌, ◌<◌, ◌≤◌, Bool, List}
use Rattle.p4x_bits.specs.BitLists.{bits}
use Rattle.p414_field_lists.specs.declared.bits.Run.{Run}

-- its bits
abbrev pub run_bits : Run → List Bool
run_bits r = bits r.width r.number

-- at most 128 of them
pub record IsRun (r : Run) : Type 0 where
  pub wide : r.width ≤ 128
  pub number : r.number < 2 ^ r.width
