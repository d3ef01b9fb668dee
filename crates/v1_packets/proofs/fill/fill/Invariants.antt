use Rattle.std.proofs.Common.{◌≤◌}
use Rattle.v1_packets.specs.internal.Filled.{IsFilled}
use Rattle.v1_packets.proofs.fill.fill.Given as goal

abbrev pub invariant-loop-slot : goal.invariant-loop-slot
invariant-loop-slot l = record {
  order : l.slots.from ≤ l.slot;
  filled : IsFilled l.fn.frame l.frame l.slots.from l.slot l.numbers;
}
