-- Classes of octets. Both languages are written in ASCII.
use Rattle.std.specs.Prelude.{ℕ, Bool, not, nat_eq, nat_le, ◌||◌, ◌&&◌}

-- from `low` to `high`
abbrev pub is_from : ℕ → ℕ → ℕ → Bool
is_from low high octet = nat_le low octet && nat_le octet high

-- space, tab, line feed, vertical tab, form feed, carriage return
abbrev pub is_blank : ℕ → Bool
is_blank octet = nat_eq octet 32 || is_from 9 13 octet

abbrev pub is_line_feed : ℕ → Bool
is_line_feed octet = nat_eq octet 10

-- what stands on a line before the line feed that ends it
abbrev pub is_on_line : ℕ → Bool
is_on_line octet = not (is_line_feed octet)

-- `_`, `A` to `Z`, `a` to `z`
abbrev pub is_letter : ℕ → Bool
is_letter octet = nat_eq octet 95 || (is_from 65 90 octet || is_from 97 122 octet)

-- `0` to `9`
abbrev pub is_decimal : ℕ → Bool
is_decimal octet = is_from 48 57 octet

-- what may stand in a word behind its first letter
abbrev pub is_word : ℕ → Bool
is_word octet = is_letter octet || is_decimal octet
