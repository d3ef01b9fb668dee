-- The bits that were written so far, and where the next ones stand.
use Rattle.std.proofs.Common.{◌≡◌, ◌+◌, ◌-◌, ◌*◌, ◌/◌, ◌^◌, ◌<◌, ◌≤◌}
use Rattle.p4x_bits.specs.BitLists.{bits, octet_bits}
use Rattle.p4x_bits.proofs.Splices.{spliced}
use Rattle.p4x_bits.proofs.fields.write_by_octets.Given as goal

abbrev pub invariant-loop-left : goal.invariant-loop-left
invariant-loop-left l = record {
  rest : l.left ≤ l.fn.width;
  within : l.skip < 8;
  place : 0 < l.left → 8 * l.index + l.skip + l.left ≡ l.at + l.fn.width;
  written : octet_bits l.octets ≡ spliced l.at (l.at + (l.fn.width - l.left)) (bits (l.fn.width - l.left) (l.value / 2 ^ l.left)) (octet_bits l.fn.octets);
}

abbrev pub decreases-loop-left : goal.decreases-loop-left
decreases-loop-left l = l.left
