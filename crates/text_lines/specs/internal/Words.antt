-- How a word is found.
use Rattle.std.specs.Prelude.{ℕ, Bool, not}
use Rattle.text_lines.specs.Words.{is_blank}

abbrev pub is_in_word : ℕ → Bool
is_in_word octet = not (is_blank octet)
