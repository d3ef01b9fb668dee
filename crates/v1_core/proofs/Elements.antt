-- The parts of the elements of a stack.
use Rattle.std.proofs.Common.{◌≡◌, ℕ, ◌+◌, ◌*◌, ◌<◌, ◌≤◌, arith}
use Rattle.std.proofs.lemmas.Nat.{mul-le}

one_more : (n k : ℕ) → (n + 1) * k ≡ n * k + k
one_more n k = omega arith

-- a part of an element lies a whole element in front of the end
pub below_all : (first apart number size : ℕ) → number < size → first + number * apart + apart ≤ first + size * apart
below_all first apart number size h =
    let le : (number + 1) * apart ≤ size * apart = mul-le (number + 1) apart size apart (omega arith) (omega arith) in
    omega (arith, le, one_more number apart)
