use Rattle.std.proofs.Common.{◌≡◌, ℕ, ◌≤◌, get_or}
use Rattle.v1_core.proofs.Frames.{cleared}
use Rattle.v1_core.proofs.frame.clear.Given as goal

abbrev pub invariant-loop-slot : goal.invariant-loop-slot
invariant-loop-slot l = record {
  cleared : l.numbers ≡ cleared l.fn.slots.from l.slot l.fn.numbers;
  less : (i : ℕ) → get_or l.numbers i 0 ≤ get_or l.fn.numbers i 0;
}
