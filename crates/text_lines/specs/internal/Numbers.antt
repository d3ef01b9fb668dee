-- What is known of a number while its digits are read.
use Rattle.std.specs.Prelude.{◌≡◌, ◌≤◌, ◌<◌, ℕ, ◌^◌, Option, Some, None}

-- the number where it has at most 128 bits, and none where it has more
abbrev pub FitsIn128 : ℕ → Option ℕ → Type 0
FitsIn128 number (Some value) = (value ≡ number) × (number < 2 ^ 128)
FitsIn128 number None = 2 ^ 128 ≤ number
