-- What lies between the tokens of a P4_16 text: blanks and comments (P4_16 1.2, "Comments"; which octets are blanks is this
-- project's own).
use Rattle.std.specs.Prelude.{◌⊎◌, ℕ, List}
use Rattle.token_division.specs.Trivia.{IsBlank, IsLineComment, IsBlockComment, EndsLine}

-- A piece of trivia. A line comment goes on to the end of its line. It doesn't matter what stands before a piece.
abbrev pub IsTrivia : List ℕ → List ℕ → List ℕ → Type 0
IsTrivia before piece behind = IsBlank piece ⊎ (IsBlockComment piece ⊎ (IsLineComment piece × EndsLine behind))
