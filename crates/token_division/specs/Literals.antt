-- Numbers at the front of a text: decimal digits, `0x` or `0X` and hexadecimal digits, or `0b` or `0B`
-- and binary digits. `_` may stand after the first digit.
use Rattle.std.specs.Prelude.{◌≡◌, ℕ, ◌+◌, ◌*◌, ◌-◌, ◌<◌, ◌++◌, ◌⊎◌, codes, IsTrue, Bool, nat_eq, nat_le, ◌||◌, ◌&&◌, if◌then◌else◌, List, [], take, drop, Option, Some, None, slice_index}
use Rattle.std.specs.List.{fold, prefix_len, AllPass}
use Rattle.token_division.specs.declared.literals.Base.{Base}
use Rattle.token_division.specs.declared.literals.Base.TheVariants.{Binary, Decimal, Hexadecimal}
use Rattle.token_division.specs.Octets.{is_from, is_decimal}

-- the number of digits of a base
abbrev pub radix : Base → ℕ
radix Binary = 2
radix Decimal = 10
radix Hexadecimal = 16

abbrev pub is_digit : Base → ℕ → Bool
is_digit Binary octet = is_from 48 49 octet
is_digit Decimal octet = is_decimal octet
is_digit Hexadecimal octet = is_decimal octet || (is_from 65 70 octet || is_from 97 102 octet)

-- a digit, or the `_` that may stand behind the first
abbrev pub is_digit_or_gap : Base → ℕ → Bool
is_digit_or_gap base octet = nat_eq octet 95 || is_digit base octet

-- what a digit stands for: `0` to `9`, then `A` to `F` or `a` to `f`
abbrev pub digit_value : ℕ → ℕ
digit_value digit = if nat_le 97 digit then digit - 87 else (if nat_le 65 digit then digit - 55 else digit - 48)

abbrev pub with_digit : Base → ℕ → ℕ → ℕ
with_digit base value octet = if nat_eq octet 95 then value else radix base * value + digit_value octet

-- what digits stand for, the highest first, without the `_` among them
abbrev pub value_of : Base → List ℕ → ℕ
value_of base digits = fold (with_digit base) 0 digits

-- `0`, a letter, in capitals or not, and a digit of the base
abbrev pub has_base_prefix : ℕ → ℕ → Base → List ℕ → Bool
has_base_prefix capital small base text =
    nat_eq (slice_index text 0) 48
    && ((nat_eq (slice_index text 1) capital || nat_eq (slice_index text 1) small)
    && is_digit base (slice_index text 2))

-- the base of a number that the text begins with
abbrev pub base_of : List ℕ → Base
base_of text =
    if has_base_prefix 88 120 Hexadecimal text then Hexadecimal
    else (if has_base_prefix 66 98 Binary text then Binary else Decimal)

-- how many octets stand before the digits
abbrev pub base_prefix_size : Base → ℕ
base_prefix_size Decimal = 0
base_prefix_size Binary = 2
base_prefix_size Hexadecimal = 2

-- the digits, with the `_` among them
abbrev pub digits_of : Base → List ℕ → List ℕ
digits_of base text =
    take (prefix_len (is_digit_or_gap base) (drop (base_prefix_size base) text)) (drop (base_prefix_size base) text)

-- what the number at the front of the text stands for
abbrev pub literal_value : List ℕ → ℕ
literal_value text = value_of (base_of text) (digits_of (base_of text) text)

-- how many octets it has
abbrev pub literal_size : List ℕ → ℕ
literal_size text =
    base_prefix_size (base_of text)
    + prefix_len (is_digit_or_gap (base_of text)) (drop (base_prefix_size (base_of text)) text)

-- 2 ^ 128 - 1
abbrev pub largest : ℕ
largest = 340282366920938463463374607431768211455

-- the number where it is at most `largest`, and none where it is greater
abbrev pub FitsIn128 : ℕ → Option ℕ → Type 0
FitsIn128 number (Some value) = value ≡ number
FitsIn128 number None = largest < number

-- before the digits of a base
abbrev pub IsBasePrefix : Base → List ℕ → Type 0
IsBasePrefix Decimal octets = octets ≡ []
IsBasePrefix Binary octets = (octets ≡ codes "0b") ⊎ (octets ≡ codes "0B")
IsBasePrefix Hexadecimal octets = (octets ≡ codes "0x") ⊎ (octets ≡ codes "0X")

-- a digit of the base, and digits of it and `_` behind it
abbrev pub AreDigits : Base → List ℕ → Type 0
AreDigits base octets = IsTrue (is_digit base (slice_index octets 0)) × AllPass (is_digit_or_gap base) octets

-- the octets are a number of this value: the prefix of a base and digits of that base
pub record IsLiteral (octets : List ℕ) (value : ℕ) : Type 0 where
  pub base : Base
  pub prefix : List ℕ
  pub digits : List ℕ
  pub parts : octets ≡ prefix ++ digits
  pub has_prefix : IsBasePrefix base prefix
  pub has_digits : AreDigits base digits
  pub stands_for : value ≡ value_of base digits
