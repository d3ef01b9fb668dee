-- A number that has more bits than a width.
use Rattle.std.proofs.Common.{◌≡◌, ℕ, ◌+◌, ◌*◌, ◌%◌, ◌/◌, ◌^◌, ◌<◌, ◌≤◌, Bool, true, false, not, nat_eq, refl, arith, eq-eqb, zero-mul, mod-lt}
use Rattle.std.specs.Prelude.{nat_le}
use Rattle.std.proofs.lemmas.Bool.{ne_eqb}
use Rattle.std.proofs.lemmas.Bool.Decides.{nat_tests}
use Rattle.std.proofs.lemmas.Nat.{shr_split, pow_pos}
use Rattle.std.proofs.Math.Pow.{pow_mono}
use Rattle.std.proofs.Math.Nat.{div-eq_of_lt}

within : (a b : ℕ) → nat_le a b ≡ true → a ≤ b
within a b is = grind (arith, nat_tests)

past : (a b : ℕ) → nat_le a b ≡ false → b < a
past a b is = grind (arith, nat_tests)

not_within : (a b : ℕ) → b < a → false ≡ nat_le a b
not_within a b lt = grind (arith, nat_tests)

pub over_wide : (n width : ℕ) → n < 2 ^ 128 → 128 ≤ width → false ≡ nat_le (2 ^ width) n
over_wide n width small wide = let power : 2 ^ 128 ≤ 2 ^ width = pow_mono wide in not_within (2 ^ width) n (omega arith)

under : (n width : ℕ) → n / 2 ^ width ≡ 0 → n < 2 ^ width
under n width is =
    let split : n / 2 ^ width * 2 ^ width + n % 2 ^ width ≡ n = shr_split n width in
    let rest : n % 2 ^ width < 2 ^ width = mod-lt n (pow_pos width) in
    let nothing : n / 2 ^ width * 2 ^ width ≡ 0 = rw is (zero-mul (2 ^ width)) in
    omega arith

pub over_narrow : (n width : ℕ) → not (nat_eq (n / 2 ^ width) 0) ≡ nat_le (2 ^ width) n
over_narrow n width = by_value (nat_le (2 ^ width) n) refl
  where
    by_value : (b : Bool) → nat_le (2 ^ width) n ≡ b → not (nat_eq (n / 2 ^ width) 0) ≡ nat_le (2 ^ width) n
    by_value true is =
        let above : 2 ^ width ≤ n = within (2 ^ width) n is in
        let some : nat_eq (n / 2 ^ width) 0 ≡ false = ne_eqb (n / 2 ^ width) 0 (λ none. let below : n < 2 ^ width = under n width none in omega arith) in
        rw (some, is) refl
    by_value false is =
        let none : nat_eq (n / 2 ^ width) 0 ≡ true = eq-eqb (n / 2 ^ width) 0 (div-eq_of_lt (past (2 ^ width) n is)) in
        rw (none, is) refl
