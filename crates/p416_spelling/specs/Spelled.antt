-- With which octets a token of P4_16 is written on a sheet, and what may touch it (P4_16 1.2, "Lexical constructs"; that numbers
-- are written in decimal digits is this project's own).
use Rattle.std.specs.Prelude.{◌≡◌, ℕ, Bool, true, false, not, nat_eq, Option, Some, None, List, [], ◌∷◌, ◌++◌, IsTrue}
use Rattle.std.specs.List.{list_any}
use Rattle.std.specs.Fmt.{decimal}
use Rattle.token_division.specs.Octets.{is_word}
use Rattle.token_division.specs.Pieces.{begins}
use Rattle.p416_syntax.specs.declared.lexeme.Literal16.{Literal16}
use Rattle.p416_syntax.specs.declared.mark.Mark16.TheVariants as mark_of
use Rattle.p416_syntax.specs.Marks.{mark_text16, all_marks16}
use Rattle.p416_syntax.specs.Lines.{annotation_text16, include_text16}
use Rattle.p416_syntax.specs.SpeltLexemes.{is_identifier16, is_spelt_literal16}
use Rattle.p416_tok.specs.declared.kind.TokenKind16.{TokenKind16}
use Rattle.p416_tok.specs.declared.kind.TokenKind16.TheVariants as kind
use Rattle.token_sheet.specs.Spelling.{Spells, Parts}
use Rattle.token_sheet.specs.Words.{Meets}

-- a number in decimal digits, with its width in front
abbrev pub digits_text16 : Option ℕ → ℕ → List ℕ
digits_text16 None value = decimal value
digits_text16 (Some width) value = decimal width ++ 119 ∷ decimal value

abbrev pub number_text16 : Literal16 → List ℕ
number_text16 n = digits_text16 n.width n.value

-- a text in double quotes
abbrev pub string_text16 : List ℕ → List ℕ
string_text16 text = 34 ∷ (text ++ 34 ∷ [])

-- Names and strings are identifiers, and numbers have their bounds.
abbrev pub spells16 : Spells TokenKind16
spells16 kind.Name octets = IsTrue (is_identifier16 octets)
spells16 (kind.Number n) octets = (octets ≡ number_text16 n) × IsTrue (is_spelt_literal16 n)
spells16 (kind.Mark m) octets = octets ≡ mark_text16 m
spells16 kind.Quoted octets = (text : List ℕ) × (octets ≡ string_text16 text) × IsTrue (is_identifier16 text)
spells16 (kind.At a) octets = octets ≡ annotation_text16 a
spells16 (kind.Include i) octets = octets ≡ include_text16 i

-- An octet that stands right behind the token is no part of it: behind a mark one with which no mark begins so; behind
-- a string any; behind an include line a line feed alone; behind another token one that stands in no word.
abbrev pub parts16 : Parts TokenKind16
parts16 kind.Name octets next = not (is_word next)
parts16 (kind.Number n) octets next = not (is_word next)
parts16 (kind.Mark m) octets next = not (list_any (λ other. begins (mark_text16 other) (octets ++ next ∷ [])) all_marks16)
parts16 kind.Quoted octets next = true
parts16 (kind.At a) octets next = not (is_word next)
parts16 (kind.Include i) octets next = nat_eq next 10

abbrev pub is_greater16 : TokenKind16 → Bool
is_greater16 (kind.Mark mark_of.Greater) = true
is_greater16 other = false

-- two `>` that touch are told from two that don't
abbrev pub meets16 : Meets TokenKind16
meets16 (kind.Mark mark_of.Greater) second = is_greater16 second
meets16 first second = false

-- an include line is the first on its line
abbrev pub begins_line16 : TokenKind16 → Bool
begins_line16 (kind.Include i) = true
begins_line16 other = false
