-- The table is that of the polynomial.
use Rattle.std.proofs.Common.{◌≡◌, ◌<◌, false, replicate, refl, arith}
use Rattle.p4x_bits.specs.BitLists.{num, bits}
use Rattle.calc_core.specs.Calculations.{crc, reflected}
use Rattle.calc_core.specs.internal.Tables.{divided, is_table_from}
use Rattle.calc_core.proofs.Division.{crc_below}
use Rattle.calc_core.proofs.crcs.crc16.Goals as goal

pub overflow_cast-result : goal.overflow_cast-result
unfolding bits num divided is_table_from
overflow_cast-result c =
    let list = c.args.list.now in
    let is : c.remainder.result ≡ crc (bits 16 0x8005) (replicate 16 false) (reflected list) = c.remainder.ensures (bits 16 0x8005) (replicate 16 false) (omega arith) refl refl refl in
    let below : crc (bits 16 0x8005) (replicate 16 false) (reflected list) < 65536 = crc_below (bits 16 0x8005) (replicate 16 false) (reflected list) refl (omega arith) in
    rw is (omega (arith, below))

pub returns : goal.returns
unfolding bits num divided is_table_from
returns c = c.remainder.ensures (bits 16 0x8005) (replicate 16 false) (omega arith) refl refl refl
