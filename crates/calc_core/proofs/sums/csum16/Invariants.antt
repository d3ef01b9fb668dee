-- The words that were added so far.
use Rattle.std.proofs.Common.{◌≡◌}
use Rattle.p4x_bits.specs.BitLists.{octet_bits}
use Rattle.calc_core.proofs.Words.{sum_of}
use Rattle.calc_core.proofs.sums.csum16.Given as goal

abbrev pub invariant-loop-i : goal.invariant-loop-i
invariant-loop-i l = l.sum ≡ sum_of l.i (octet_bits l.octets)
