-- Which tokens a text can have (P4_16 1.2, "Lexical constructs"; the bounds on widths and values, and what stands in a
-- string, are this project's own).
use Rattle.std.specs.Prelude.{ℕ, ◌^◌, Bool, true, not, nat_le, nat_lt, ◌&&◌, List, Option, Some, None, slice_index}
use Rattle.std.specs.List.{list_all}
use Rattle.token_division.specs.Octets.{is_letter, is_word}
use Rattle.p416_syntax.specs.declared.lexeme.Literal16.{Literal16}
use Rattle.p416_syntax.specs.declared.lexeme.Lexeme16.{Lexeme16}
use Rattle.p416_syntax.specs.declared.lexeme.Lexeme16.TheVariants as lexeme
use Rattle.p416_syntax.specs.Keywords.{is_reserved16}

-- a letter or `_`, and letters, digits and `_` behind it
abbrev pub is_identifier16 : List ℕ → Bool
is_identifier16 text = is_letter (slice_index text 0) && list_all is_word text

-- an identifier that is no reserved word
abbrev pub is_name16 : List ℕ → Bool
is_name16 text = is_identifier16 text && not (is_reserved16 text)

-- a width of 1 to 128, or none
abbrev pub is_width16 : Option ℕ → Bool
is_width16 None = true
is_width16 (Some width) = nat_le 1 width && nat_le width 128

-- A value below 2 ^ 128, whatever the width.
abbrev pub is_spelt_literal16 : Literal16 → Bool
is_spelt_literal16 n = is_width16 n.width && nat_lt n.value (2 ^ 128)

-- A token that a text can have: a name is an identifier, a reserved word too; so is what stands in a string; a number's
-- width and its value have their bounds. Every mark, annotation and include line is one.
abbrev pub is_spelt_lexeme16 : Lexeme16 → Bool
is_spelt_lexeme16 (lexeme.Name text) = is_identifier16 text
is_spelt_lexeme16 (lexeme.Number n) = is_spelt_literal16 n
is_spelt_lexeme16 (lexeme.Mark m) = true
is_spelt_lexeme16 (lexeme.Quoted text) = is_identifier16 text
is_spelt_lexeme16 (lexeme.At a) = true
is_spelt_lexeme16 (lexeme.Include i) = true
