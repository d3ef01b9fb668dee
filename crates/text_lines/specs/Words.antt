-- The words of a line (this project's own).
use Rattle.std.specs.Prelude.{ℕ, Bool, not, ◌||◌, ◌==◌, nat_eq, List, length, filter, codes}
use Rattle.std.specs.List.{slice_split, starts_with}

-- the octets of a word
abbrev pub Word : Type 0
Word = List ℕ

-- a space or a tab
abbrev pub is_blank : ℕ → Bool
is_blank octet = octet == 32 || octet == 9

-- a word has an octet at least
abbrev pub is_some_word : Word → Bool
is_some_word word = not (length word == 0)

-- the words of a line: what stands between blanks and isn't empty
abbrev pub words_of : List ℕ → List Word
words_of line = filter is_some_word (slice_split is_blank line)

-- a line is a comment where its first word begins with `#`
abbrev pub is_comment : Word → Bool
is_comment first = starts_with nat_eq first (codes "#")
