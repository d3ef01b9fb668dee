-- Which tokens a text can have (P4_14 1.0.5, "Summary of P4 BNF" for names, "Value Specifications" for numbers; the
-- bounds on widths and values are this project's own).
use Rattle.std.specs.Prelude.{ℕ, ◌^◌, Bool, true, nat_le, nat_lt, ◌&&◌, List, Option, Some, None, slice_index}
use Rattle.std.specs.List.{list_all}
use Rattle.token_division.specs.Octets.{is_letter, is_word}
use Rattle.p414_syntax.specs.declared.lexeme.Literal.{Literal}
use Rattle.p414_syntax.specs.declared.lexeme.Lexeme.{Lexeme}
use Rattle.p414_syntax.specs.declared.lexeme.Lexeme.TheVariants as lexeme

-- a letter or `_`, and letters, digits and `_` behind it
abbrev pub is_identifier : List ℕ → Bool
is_identifier text = is_letter (slice_index text 0) && list_all is_word text

-- a value below 2 ^ 128 without a width, or one below 2 ^ width with a width of 1 to 128
abbrev pub fits_in : Option ℕ → ℕ → Bool
fits_in None value = nat_lt value (2 ^ 128)
fits_in (Some width) value = nat_le 1 width && (nat_le width 128 && nat_lt value (2 ^ width))

abbrev pub is_spelt_literal : Literal → Bool
is_spelt_literal n = fits_in n.width n.value

-- A token that a text can have: a name is an identifier, and a number fits. Every mark is one.
abbrev pub is_spelt_lexeme : Lexeme → Bool
is_spelt_lexeme (lexeme.Name text) = is_identifier text
is_spelt_lexeme (lexeme.Number n) = is_spelt_literal n
is_spelt_lexeme (lexeme.Mark m) = true
