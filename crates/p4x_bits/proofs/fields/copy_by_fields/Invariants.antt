-- The bits that were copied so far.
use Rattle.std.proofs.Common.{◌≡◌, ◌+◌, ◌-◌, ◌≤◌, take}
use Rattle.p4x_bits.specs.BitLists.{octet_bits}
use Rattle.p4x_bits.proofs.Splices.{spliced}
use Rattle.p4x_bits.proofs.fields.copy_by_fields.Given as goal

abbrev pub invariant-loop-done : goal.invariant-loop-done
invariant-loop-done l = record {
  within : l.done ≤ l.len;
  copied : octet_bits l.octets ≡ spliced l.at (l.at + l.done) (take l.done (octet_bits l.source)) (octet_bits l.fn.octets);
}

abbrev pub decreases-loop-done : goal.decreases-loop-done
decreases-loop-done l = l.len - l.done
