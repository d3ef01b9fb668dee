-- The table is that of the polynomial.
use Rattle.std.proofs.Common.{true, replicate, bit_xor, ap, ℕ, refl, arith}
use Rattle.p4x_bits.specs.BitLists.{num, bits}
use Rattle.calc_core.specs.internal.Tables.{divided, is_table_from}
use Rattle.calc_core.proofs.crcs.crc32.Goals as goal

pub returns : goal.returns
unfolding bits num divided is_table_from
returns c = ap (λ (n : ℕ). bit_xor n 0xFFFFFFFF) (c.remainder.ensures (bits 32 0x04C11DB7) (replicate 32 true) (omega arith) refl refl refl)
