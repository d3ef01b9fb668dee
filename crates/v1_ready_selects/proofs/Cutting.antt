-- Numbers of so many bits.
use Rattle.std.proofs.Common.{◌≡◌, ℕ, ◌%◌, ◌^◌, ◌<◌, ◌≤◌, sym, arith}
use Rattle.std.proofs.Math.Nat.{mod-eq_of_lt, pow-le-pow_right}

-- all bits of a number of 128 bits are its low ones, where these are no fewer
pub low_all : (width value : ℕ) → 128 ≤ width → value < 2 ^ 128 → value ≡ value % 2 ^ width
low_all width value le lt =
    let more : 2 ^ 128 ≤ 2 ^ width = pow-le-pow_right (omega arith) le in
    sym (mod-eq_of_lt (omega (arith, lt, more)))
