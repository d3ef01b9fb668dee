-- How the tokens of each token class (a name, a number, a mark) are written in a text (P4_14 1.0.5, "Value
-- Specifications" and "Summary of P4 BNF"; which places take a `_` is this project's own).
use Rattle.std.specs.Prelude.{◌≡◌, ◌≤◌, ◌%◌, ◌^◌, ◌∷◌, ◌++◌, ℕ, Option, Some, None, List, length, take, slice_index, false, IsTrue}
use Rattle.std.specs.List.{AllPass}
use Rattle.token_division.specs.declared.literals.Base.TheVariants.{Decimal}
use Rattle.token_division.specs.Octets.{is_decimal, is_word}
use Rattle.token_division.specs.Literals.{IsLiteral, value_of, largest}
use Rattle.token_division.specs.Pieces.{begins}
use Rattle.p414_syntax.specs.declared.mark.Mark.{Mark}
use Rattle.p414_syntax.specs.Marks.{mark_text}
use Rattle.p414_syntax.specs.SpeltLexemes.{is_identifier}
use Rattle.p414_tok.specs.declared.kind.TokenKind14.{TokenKind14}
use Rattle.p414_tok.specs.declared.kind.TokenKind14.TheVariants as kind

-- The octets are decimal digits, a `'` and a number: a width from 1 to 128, and a value that is the
-- number modulo 2 ^ width.
pub record IsWideNumber (octets : List ℕ) (width value : ℕ) : Type 0 where
  pub digits : List ℕ
  pub rest : List ℕ
  pub written : ℕ
  pub parts : octets ≡ digits ++ 39 ∷ rest
  pub has_digits : AllPass is_decimal digits
  pub width_is : width ≡ value_of Decimal digits
  pub width_fits : (1 ≤ width) × (width ≤ 128)
  pub has_number : IsLiteral rest written
  pub number_fits : written ≤ largest
  pub value_is : value ≡ written % 2 ^ width

-- the octets are a number with this width, if it has one, and this value
abbrev pub IsNumber : Option ℕ → ℕ → List ℕ → Type 0
IsNumber None value octets = IsLiteral octets value × (value ≤ largest)
IsNumber (Some width) value octets = IsWideNumber octets width value

-- The text begins with a token of this class in so many octets: an identifier that no octet of a word follows, a
-- number with its width and value, or a mark, where no longer one stands.
abbrev pub IsSpelled : TokenKind14 → List ℕ → ℕ → Type 0
IsSpelled kind.Name text size = IsTrue (is_identifier (take size text)) × (is_word (slice_index text size) ≡ false)
IsSpelled (kind.Number n) text size = IsNumber n.width n.value (take size text)
IsSpelled (kind.Mark m) text size =
    (take size text ≡ mark_text m) × ((other : Mark) → IsTrue (begins text (mark_text other)) → length (mark_text other) ≤ size)
