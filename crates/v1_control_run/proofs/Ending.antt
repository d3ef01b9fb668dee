-- What a run emitted, as octets.
use Rattle.std.proofs.Common.{◌≡◌, ℕ, ◌*◌, ◌/◌, ◌%◌, List, Bool, length, take, ◌∙◌, arith, take_all}
use Rattle.p4x_bits.specs.BitLists.{octet_bits}

pub all_bits : (octets : List ℕ) (bits : List Bool) → length bits % 8 ≡ 0 → octet_bits octets ≡ take (8 * (length bits / 8)) bits → octet_bits octets ≡ bits
all_bits octets bits whole is = is ∙ take_all (8 * (length bits / 8)) bits (omega (arith, whole))
