-- Shifts and masks of octets, as quotients and remainders.
use Rattle.std.proofs.Common.{◌≡◌, ℕ, ◌+◌, ◌-◌, ◌*◌, ◌/◌, ◌%◌, ◌^◌, ◌<◌, ◌≤◌, bit_and, bit_or, ap, ◌∙◌, arith, pow_pos, pow-add}
use Rattle.std.proofs.lemmas.Nat.{or_shifted, and_mask, one_shl, shl_whole, shr_below, mul-add-lt}

pub mask_of_16 : (n count : ℕ) → count ≤ 8 → bit_and n (1 * 2 ^ count % 65536 - 1) ≡ n % 2 ^ count
mask_of_16 n count h = ap (λ (m : ℕ). bit_and n (m - 1)) (one_shl count 16 (omega arith)) ∙ and_mask n count

pub mask_of_128 : (n count : ℕ) → count ≤ 8 → bit_and n (1 * 2 ^ count % 340282366920938463463374607431768211456 - 1) ≡ n % 2 ^ count
mask_of_128 n count h = ap (λ (m : ℕ). bit_and n (m - 1)) (one_shl count 128 (omega arith)) ∙ and_mask n count

-- a number of so many bits behind others
pub joined_below : (high low v w : ℕ) → high < 2 ^ v → low < 2 ^ w → high * 2 ^ w + low < 2 ^ (v + w)
joined_below high low v w h l = rw (pow-add 2 v w) (omega (arith, mul-add-lt high (2 ^ w) low (2 ^ v) h l))

-- an octet's front, a part and the octet's end
abbrev pub parts : ℕ → ℕ → ℕ → ℕ → ℕ
parts octet skip count number = (octet / 2 ^ (8 - skip) * 2 ^ count + number % 2 ^ count) * 2 ^ (8 - skip - count) + octet % 2 ^ (8 - skip - count)

abbrev pub glued : ℕ → ℕ → ℕ → ℕ → ℕ
glued octet skip count number =
    bit_or
    (bit_or (octet / 2 ^ (8 - skip) * 2 ^ count % 65536) (bit_and number (1 * 2 ^ count % 340282366920938463463374607431768211456 - 1)) * 2 ^ (8 - skip - count) % 65536)
    (bit_and octet (1 * 2 ^ (8 - skip - count) % 65536 - 1))

front_below : (octet skip count number : ℕ) → octet < 256 → skip + count ≤ 8 → octet / 2 ^ (8 - skip) * 2 ^ count + number % 2 ^ count < 2 ^ (skip + count)
front_below octet skip count number h le =
    let e : skip + (8 - skip) ≡ 8 = omega arith in
    let w : octet < 2 ^ (skip + (8 - skip)) = rw e h in
    joined_below (octet / 2 ^ (8 - skip)) (number % 2 ^ count) skip count (shr_below octet skip (8 - skip) w) (omega (arith, pow_pos count))

pub parts_below : (octet skip count number : ℕ) → octet < 256 → skip + count ≤ 8 → parts octet skip count number < 256
parts_below octet skip count number h le =
    let rest = 8 - skip - count in
    let e : skip + count + rest ≡ 8 = omega arith in
    let b : parts octet skip count number < 2 ^ (skip + count + rest) = joined_below (octet / 2 ^ (8 - skip) * 2 ^ count + number % 2 ^ count) (octet % 2 ^ rest) (skip + count) rest (front_below octet skip count number h le) (omega (arith, pow_pos rest)) in
    rw e at b

pub glued_is : (octet skip count number : ℕ) → octet < 256 → skip + count ≤ 8 → glued octet skip count number ≡ parts octet skip count number
glued_is octet skip count number h le =
    let rest = 8 - skip - count in
    let high = octet / 2 ^ (8 - skip) in
    let part = number % 2 ^ count in
    let e : skip + (8 - skip) ≡ 8 = omega arith in
    let w : octet < 2 ^ (skip + (8 - skip)) = rw e h in
    let first : high * 2 ^ count % 65536 ≡ high * 2 ^ count = shl_whole high skip count 16 (shr_below octet skip (8 - skip) w) (omega arith) in
    let second : bit_or (high * 2 ^ count) part ≡ high * 2 ^ count + part = or_shifted high count part (omega (arith, pow_pos count)) in
    let third : (high * 2 ^ count + part) * 2 ^ rest % 65536 ≡ (high * 2 ^ count + part) * 2 ^ rest = shl_whole (high * 2 ^ count + part) (skip + count) rest 16 (front_below octet skip count number h le) (omega arith) in
    let fourth : bit_or ((high * 2 ^ count + part) * 2 ^ rest) (octet % 2 ^ rest) ≡ parts octet skip count number = or_shifted (high * 2 ^ count + part) rest (octet % 2 ^ rest) (omega (arith, pow_pos rest)) in
    rw (first, mask_of_128 number count (omega arith), second, third, mask_of_16 octet rest (omega arith)) fourth

-- one more part behind a number of up to 128 bits
pub pushed_is : (number done count part : ℕ) → number < 2 ^ done → done + count ≤ 128 → part < 2 ^ count → bit_or (number * 2 ^ count % 340282366920938463463374607431768211456) part ≡ number * 2 ^ count + part
pushed_is number done count part h le p = ap (λ (n : ℕ). bit_or n part) (shl_whole number done count 128 h le) ∙ or_shifted number count part p
