-- How a line is found.
use Rattle.std.specs.Prelude.{ℕ, Bool, ◌==◌}

abbrev pub is_line_feed : ℕ → Bool
is_line_feed octet = octet == 10
