use Rattle.std.proofs.Common.{◌≡◌, ◌+◌, ◌++◌, drop}
use Rattle.v1_packets.specs.Kept.{kept_from}
use Rattle.v1_packets.proofs.keep.keep.Given as goal

abbrev pub invariant-loop-of_slot : goal.invariant-loop-of_slot
invariant-loop-of_slot l = record {
  at : l.slot ≡ l.fn.slots.from + l.of_slot-index;
  kept : l.kept.items ++ kept_from l.frame l.slot (drop l.of_slot-index l.lists) l.list ≡ kept_from l.frame l.fn.slots.from l.lists l.list;
}
