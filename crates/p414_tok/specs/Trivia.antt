-- What lies between the tokens of a P4_14 text: blanks, comments, pragma lines and line markers (this project's own;
-- P4_14 1.0.5 leaves line markers and pragma lines to the preprocessor).
use Rattle.std.specs.Prelude.{◌≡◌, ◌⊎◌, ◌∷◌, ◌++◌, ℕ, List, [], codes, slice_index, false, IsTrue}
use Rattle.std.specs.List.{AllPass}
use Rattle.token_division.specs.Octets.{is_blank, is_decimal, is_word, is_on_line}
use Rattle.token_division.specs.Pieces.{begins}
use Rattle.token_division.specs.Trivia.{IsBlank, IsLineComment, IsBlockComment, EndsLine, IsFirstOnLine}
use Rattle.p414_tok.specs.Lines.{is_not_quote, is_blank_or_decimal}

-- `@pragma`, behind it nothing or an octet that is no letter, digit or `_`, and no line feed
abbrev pub IsPragmaLine : List ℕ → Type 0
IsPragmaLine piece =
    IsTrue (begins piece (codes "@pragma")) × (is_word (slice_index piece 7) ≡ false) × AllPass is_on_line piece

-- decimal digits, at least one
abbrev pub AreDecimals : List ℕ → Type 0
AreDecimals octets = IsTrue (is_decimal (slice_index octets 0)) × AllPass is_decimal octets

-- What a line marker begins with: `#` or `#line`, blanks, a decimal number and blanks. Both runs of blanks may be
-- empty.
pub record IsMarkerStart (octets : List ℕ) : Type 0 where
  pub word : List ℕ
  pub gap : List ℕ
  pub number : List ℕ
  pub space : List ℕ
  pub parts : octets ≡ word ++ (gap ++ (number ++ space))
  pub has_word : (word ≡ codes "#") ⊎ (word ≡ codes "#line")
  pub has_gap : AllPass is_blank gap
  pub has_number : AreDecimals number
  pub has_space : AllPass is_blank space

-- a name in double quotes, without escapes
abbrev pub IsQuotedName : List ℕ → Type 0
IsQuotedName octets = (name : List ℕ) × (octets ≡ 34 ∷ (name ++ 34 ∷ [])) × AllPass is_not_quote name

-- A line marker: `#` or `#line`, a decimal number, maybe a name in double quotes, and maybe further decimal numbers.
-- Blanks are free between them, and no line feed is among them.
pub record IsLineMarker (piece : List ℕ) : Type 0 where
  pub start : List ℕ
  pub name : List ℕ
  pub numbers : List ℕ
  pub parts : piece ≡ start ++ (name ++ numbers)
  pub has_start : IsMarkerStart start
  pub has_name : (name ≡ []) ⊎ IsQuotedName name
  pub has_numbers : AllPass is_blank_or_decimal numbers
  pub on_line : AllPass is_on_line piece

-- A piece of trivia. A line comment, a pragma line and a line marker go on to the end of their line, and before a line
-- marker nothing but blanks stands on its line.
abbrev pub IsTrivia : List ℕ → List ℕ → List ℕ → Type 0
IsTrivia before piece behind =
    IsBlank piece ⊎ (IsBlockComment piece ⊎ ((IsLineComment piece × EndsLine behind)
    ⊎ ((IsPragmaLine piece × EndsLine behind) ⊎ (IsLineMarker piece × IsFirstOnLine before × EndsLine behind))))
