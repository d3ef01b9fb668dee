-- The octets that were divided away so far.
use Rattle.std.proofs.Common.{◌≡◌, ℕ, take, fold, IsTrue}
use Rattle.calc_core.specs.internal.Tables.{divided_octet, is_table_from}
use Rattle.calc_core.proofs.crcs.divide_octets.Given as goal

abbrev pub invariant-loop-octet : goal.invariant-loop-octet
invariant-loop-octet l =
    (divisor : ℕ) → IsTrue (is_table_from divisor 0 l.table) → l.left ≡ fold (divided_octet divisor) l.initial.left (take l.octet-index l.octets)
