-- The bits that were read so far, and where the next ones stand.
use Rattle.std.proofs.Common.{◌≡◌, ◌+◌, ◌-◌, ◌*◌, ◌<◌, ◌≤◌, take, drop}
use Rattle.p4x_bits.specs.BitLists.{num, octet_bits}
use Rattle.p4x_bits.proofs.fields.read_by_octets.Given as goal

abbrev pub invariant-loop-left : goal.invariant-loop-left
invariant-loop-left l = record {
  rest : l.left ≤ l.fn.width;
  within : l.skip < 8;
  place : 0 < l.left → 8 * l.index + l.skip + l.left ≡ l.at + l.fn.width;
  number : l.number ≡ num (take (l.fn.width - l.left) (drop l.at (octet_bits l.octets)));
}

abbrev pub decreases-loop-left : goal.decreases-loop-left
decreases-loop-left l = l.left
