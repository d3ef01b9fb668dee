-- How the tokens of each token class are written in a text (P4_16 1.2, "Lexical constructs"; which places take a `_`, and
-- which strings, annotations and lines there are, is this project's own).
use Rattle.std.specs.Prelude.{◌≡◌, ◌≤◌, ◌∷◌, ◌++◌, ℕ, Option, Some, None, List, [], length, take, slice_index, false, IsTrue}
use Rattle.std.specs.List.{AllPass}
use Rattle.token_division.specs.declared.literals.Base.TheVariants.{Decimal}
use Rattle.token_division.specs.Octets.{is_blank, is_decimal, is_word}
use Rattle.token_division.specs.Literals.{IsLiteral, value_of, largest}
use Rattle.token_division.specs.Pieces.{begins}
use Rattle.p416_syntax.specs.declared.mark.Mark16.{Mark16}
use Rattle.p416_syntax.specs.declared.lexeme.Include16.{Include16}
use Rattle.p416_syntax.specs.Marks.{mark_text16}
use Rattle.p416_syntax.specs.Lines.{annotation_text16, include_text16}
use Rattle.p416_syntax.specs.SpeltLexemes.{is_identifier16}
use Rattle.p416_tok.specs.declared.kind.TokenKind16.{TokenKind16}
use Rattle.p416_tok.specs.declared.kind.TokenKind16.TheVariants as kind
use Rattle.p416_tok.specs.Front.{first_line}

-- The octets are decimal digits, a `w` and a number: a width from 1 to 128, and a value at most 2 ^ 128 - 1, which the
-- width doesn't cut.
pub record IsWideNumber (octets : List ℕ) (width value : ℕ) : Type 0 where
  pub digits : List ℕ
  pub rest : List ℕ
  pub parts : octets ≡ digits ++ 119 ∷ rest
  pub has_digits : AllPass is_decimal digits
  pub width_is : width ≡ value_of Decimal digits
  pub width_fits : (1 ≤ width) × (width ≤ 128)
  pub has_number : IsLiteral rest value
  pub number_fits : value ≤ largest

-- the octets are a number with this width, if it has one, and this value
abbrev pub IsNumber : Option ℕ → ℕ → List ℕ → Type 0
IsNumber None value octets = IsLiteral octets value × (value ≤ largest)
IsNumber (Some width) value octets = IsWideNumber octets width value

-- the octets are an identifier in double quotes
abbrev pub IsString : List ℕ → Type 0
IsString octets = (name : List ℕ) × (octets ≡ 34 ∷ (name ++ 34 ∷ [])) × IsTrue (is_identifier16 name)

-- the line is this include line and blanks behind it
abbrev pub IsIncludeLine : Include16 → List ℕ → Type 0
IsIncludeLine i line = (blanks : List ℕ) × (line ≡ include_text16 i ++ blanks) × AllPass is_blank blanks

-- The text begins with a token of this class in so many octets: an identifier that no octet of a word follows, a
-- number with its width and value, a mark, where no longer one stands, a string, the name of an annotation that no octet
-- of a word follows, or an include line, behind which blanks alone stand on its line.
abbrev pub IsSpelled : TokenKind16 → List ℕ → ℕ → Type 0
IsSpelled kind.Name text size = IsTrue (is_identifier16 (take size text)) × (is_word (slice_index text size) ≡ false)
IsSpelled (kind.Number n) text size = IsNumber n.width n.value (take size text)
IsSpelled (kind.Mark m) text size =
    (take size text ≡ mark_text16 m) × ((other : Mark16) → IsTrue (begins text (mark_text16 other)) → length (mark_text16 other) ≤ size)
IsSpelled kind.Quoted text size = IsString (take size text)
IsSpelled (kind.At a) text size = (take size text ≡ annotation_text16 a) × (is_word (slice_index text size) ≡ false)
IsSpelled (kind.Include i) text size = (take size text ≡ include_text16 i) × IsIncludeLine i (first_line text)
