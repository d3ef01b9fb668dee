-- The table holds what eight steps make of the first coefficients.
use Rattle.std.proofs.Common.{ℕ, ◌/◌, get_or, bit_and, bit_xor, ap, ◌∙◌, arith}
use Rattle.calc_core.proofs.Registers.{divides_octet}
use Rattle.calc_core.proofs.crcs.divide_octet.Goals as goal

pub returns : goal.returns
returns c divisor test =
    ap (λ (octet : ℕ). bit_xor (get_or c.args.table.now (bit_and (bit_xor c.args.register octet) 255) 0) (c.args.register / 256)) c.from.ensures
    ∙ divides_octet divisor c.args.register c.args.octet c.args.table.now (omega arith) c.told-table test
