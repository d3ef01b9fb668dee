-- What stands where a P4_16 text is refused: a law for each of the rules L1 to L4 (the rules are this project's own).
use Rattle.std.specs.Prelude.{◌≡◌, ◌<◌, ◌⊎◌, ◌∷◌, ◌++◌, ℕ, List, length, take, drop, codes, Some, Result, Ok, Err, slice_index, false, IsTrue}
use Rattle.std.specs.List.{AllPass}
use Rattle.p4x_fault.specs.declared.Rule.{Rule}
use Rattle.p4x_fault.specs.declared.Rule.TheVariants.{L}
use Rattle.p4x_fault.specs.declared.Fault.{Fault}
use Rattle.token_division.specs.declared.division.Token.{Token}
use Rattle.token_division.specs.declared.division.Lex.{Lex}
use Rattle.token_division.specs.declared.division.Lex.TheVariants.{Memory, Refused}
use Rattle.token_division.specs.declared.literals.Base.TheVariants.{Decimal}
use Rattle.token_division.specs.Octets.{is_blank, is_letter, is_decimal, is_word}
use Rattle.token_division.specs.Pieces.{begins}
use Rattle.token_division.specs.Literals.{IsLiteral, value_of, largest}
use Rattle.token_division.specs.Division.{place_after}
use Rattle.token_division.specs.Trivia.{IsFirstOnLine, BeginsOpenComment, HasTriviaBetween}
use Rattle.p416_syntax.specs.declared.mark.Mark16.{Mark16}
use Rattle.p416_syntax.specs.declared.lexeme.Annotation16.{Annotation16}
use Rattle.p416_syntax.specs.declared.lexeme.Include16.{Include16}
use Rattle.p416_syntax.specs.Marks.{mark_text16}
use Rattle.p416_syntax.specs.Lines.{annotation_text16}
use Rattle.p416_syntax.specs.SpeltLexemes.{is_identifier16}
use Rattle.p416_tok.specs.declared.kind.TokenKind16.{TokenKind16}
use Rattle.p416_tok.specs.Front.{first_line}
use Rattle.p416_tok.specs.Spelled.{IsIncludeLine}
use Rattle.p416_tok.specs.Trivia.{IsTrivia}

-- the text begins with an identifier in double quotes
abbrev pub BeginsString : List ℕ → Type 0
BeginsString text =
    (name : List ℕ) × (rest : List ℕ) × (text ≡ 34 ∷ (name ++ 34 ∷ rest)) × IsTrue (is_identifier16 name)

-- behind so many octets as the name of this annotation has, an octet of a word stands
abbrev pub IsLonger : Annotation16 → List ℕ → Type 0
IsLonger a text = IsTrue (is_word (slice_index text (length (annotation_text16 a))))

-- The text begins with no blank, name, number, mark, comment, string or name of an annotation, and with no `#` that is
-- the first octet but blanks of its line.
pub record BeginsNothing (before text : List ℕ) : Type 0 where
  pub no_blank : is_blank (slice_index text 0) ≡ false
  pub no_name : is_letter (slice_index text 0) ≡ false
  pub no_number : is_decimal (slice_index text 0) ≡ false
  pub no_mark : (mark : Mark16) → begins text (mark_text16 mark) ≡ false
  pub no_comment : (begins text (codes "//") ≡ false) × (begins text (codes "/*") ≡ false)
  pub no_string : BeginsString text → ⊥
  pub no_annotation : (a : Annotation16) → IsTrue (begins text (annotation_text16 a)) → IsLonger a text
  pub no_line : slice_index text 0 ≡ 35 → IsFirstOnLine before → ⊥

-- decimal digits, at least one
abbrev pub AreDecimals : List ℕ → Type 0
AreDecimals octets = IsTrue (is_decimal (slice_index octets 0)) × AllPass is_decimal octets

-- The text begins with decimal digits, this letter and a digit.
pub record BeginsJoined (letter : ℕ) (text : List ℕ) : Type 0 where
  pub digits : List ℕ
  pub rest : List ℕ
  pub parts : text ≡ digits ++ letter ∷ rest
  pub has_digits : AreDecimals digits
  pub has_number : IsTrue (is_decimal (slice_index rest 0))

-- L1: the text begins with nothing, or with a number in the form of signed ones: digits, an `s` and a digit
abbrev pub BeginsNoPiece : List ℕ → List ℕ → Type 0
BeginsNoPiece before text = BeginsNothing before text ⊎ BeginsJoined 115 text

-- the text begins with a number over 2 ^ 128 - 1
abbrev pub BeginsLargeNumber : List ℕ → Type 0
BeginsLargeNumber text = (size : ℕ) × (value : ℕ) × IsLiteral (take size text) value × (largest < value)

-- the width is outside 1 to 128, or the number behind it over 2 ^ 128 - 1
abbrev pub IsMisfit : ℕ → List ℕ → Type 0
IsMisfit width rest = (width < 1) ⊎ ((128 < width) ⊎ BeginsLargeNumber rest)

-- the text begins with decimal digits, a `w` and a digit, as a width and a number that don't fit
abbrev pub BeginsMisfit : List ℕ → Type 0
BeginsMisfit text = (joined : BeginsJoined 119 text) × IsMisfit (value_of Decimal joined.digits) joined.rest

-- L3: the text begins with a number that is too large, or has no possible width
abbrev pub BeginsWrongNumber : List ℕ → Type 0
BeginsWrongNumber text = BeginsLargeNumber text ⊎ BeginsMisfit text

-- L4: the text is at a `#` that is the first octet but blanks of its line, and the line from there on is no include line
pub record BeginsWrongLine (before text : List ℕ) : Type 0 where
  pub number_sign : slice_index text 0 ≡ 35
  pub first : IsFirstOnLine before
  pub no_include : (i : Include16) → IsIncludeLine i (first_line text) → ⊥

-- What stands where a rule is broken, by the octets of the text before that octet, and those from it on. L2: a comment
-- that isn't closed.
abbrev pub IsBrokenAt : Rule → List ℕ → List ℕ → Type 0
IsBrokenAt rule before text =
    ((rule ≡ L 1) × BeginsNoPiece before text) ⊎ (((rule ≡ L 2) × BeginsOpenComment text)
    ⊎ (((rule ≡ L 3) × BeginsWrongNumber text) ⊎ ((rule ≡ L 4) × BeginsWrongLine before text)))

-- The fault's place is that of an octet of the text. Up to there stand tokens with trivia before, between and behind
-- them; the rule is broken there.
pub record IsRefusal (text : List ℕ) (fault : Fault) : Type 0 where
  pub at : ℕ
  pub inside : at < length text
  pub placed : fault.place ≡ Some (place_after (take at text))
  pub tokens : List (Token TokenKind16)
  pub so_far : HasTriviaBetween IsTrivia text 0 tokens at
  pub broken : IsBrokenAt fault.rule (take at text) (drop at text)

-- where the answer is a refusal, one of the rules is broken there
abbrev pub IsRefusedRightly : List ℕ → Result (List (Token TokenKind16)) Lex → Type 0
IsRefusedRightly text (Ok tokens) = Unit {0}
IsRefusedRightly text (Err Memory) = Unit {0}
IsRefusedRightly text (Err (Refused fault)) = IsRefusal text fault
