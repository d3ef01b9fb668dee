-- Numbers of so many bits.
use Rattle.std.proofs.Common.{◌≡◌, ℕ, ◌^◌, ◌<◌, ◌≤◌, true, nat_lt, sym, arith}
use Rattle.std.proofs.lemmas.Bool.{lt-ltb}
use Rattle.std.proofs.Math.Nat.{pow-le-pow_right}

-- a number of 128 bits has no more than so many
pub fits_all : (width value : ℕ) → 128 ≤ width → value < 2 ^ 128 → true ≡ nat_lt value (2 ^ width)
fits_all width value le lt =
    let more : 2 ^ 128 ≤ 2 ^ width = pow-le-pow_right (omega arith) le in
    sym (lt-ltb value (2 ^ width) (omega (arith, lt, more)))
