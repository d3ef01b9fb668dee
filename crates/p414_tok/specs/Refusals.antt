-- What stands where a P4_14 text is refused: a law for each of the rules L1 to L4 (the rules are this project's own).
use Rattle.std.specs.Prelude.{◌≡◌, ◌<◌, ◌⊎◌, ◌∷◌, ◌++◌, ℕ, List, length, take, drop, codes, Some, Result, Ok, Err, slice_index, true, false, IsTrue}
use Rattle.std.specs.List.{AllPass}
use Rattle.p4x_fault.specs.declared.Rule.{Rule}
use Rattle.p4x_fault.specs.declared.Rule.TheVariants.{L}
use Rattle.p4x_fault.specs.declared.Fault.{Fault}
use Rattle.token_division.specs.declared.division.Token.{Token}
use Rattle.token_division.specs.declared.division.Lex.{Lex}
use Rattle.token_division.specs.declared.division.Lex.TheVariants.{Memory, Refused}
use Rattle.token_division.specs.declared.literals.Base.TheVariants.{Decimal}
use Rattle.token_division.specs.Octets.{is_blank, is_letter, is_decimal, is_word}
use Rattle.token_division.specs.Pieces.{begins}
use Rattle.token_division.specs.Literals.{IsLiteral, value_of, largest}
use Rattle.token_division.specs.Division.{place_after}
use Rattle.token_division.specs.Trivia.{IsFirstOnLine, BeginsOpenComment, HasTriviaBetween}
use Rattle.p414_syntax.specs.declared.mark.Mark.{Mark}
use Rattle.p414_syntax.specs.Marks.{mark_text}
use Rattle.p414_tok.specs.declared.kind.TokenKind14.{TokenKind14}
use Rattle.p414_tok.specs.Lines.{is_not_quote, first_line}
use Rattle.p414_tok.specs.Trivia.{IsMarkerStart, IsLineMarker, IsTrivia}

-- L1: the text begins with no blank, name, number, mark, comment or pragma line, and with no `#` that is the first
-- octet but blanks of its line
pub record BeginsNothing (before text : List ℕ) : Type 0 where
  pub no_blank : is_blank (slice_index text 0) ≡ false
  pub no_name : is_letter (slice_index text 0) ≡ false
  pub no_number : is_decimal (slice_index text 0) ≡ false
  pub no_mark : (mark : Mark) → begins text (mark_text mark) ≡ false
  pub no_comment : (begins text (codes "//") ≡ false) × (begins text (codes "/*") ≡ false)
  pub no_pragma : IsTrue (begins text (codes "@pragma")) → IsTrue (is_word (slice_index text 7))
  pub no_marker : slice_index text 0 ≡ 35 → IsFirstOnLine before → ⊥

-- the line begins as a line marker does, and then a `"` opens a name that no further `"` closes
abbrev pub HasOpenName : List ℕ → Type 0
HasOpenName line =
    (start : List ℕ) × (name : List ℕ) × (line ≡ start ++ 34 ∷ name) × IsMarkerStart start × AllPass is_not_quote name

-- L2: the text begins with a comment that isn't closed, or is at the first octet but blanks of a line that is a line
-- marker but for a name that isn't closed on it
abbrev pub BeginsOpen : List ℕ → List ℕ → Type 0
BeginsOpen before text = BeginsOpenComment text ⊎ (IsFirstOnLine before × HasOpenName (first_line text))

-- the text begins with a number over 2 ^ 128 - 1
abbrev pub BeginsLargeNumber : List ℕ → Type 0
BeginsLargeNumber text = (size : ℕ) × (value : ℕ) × IsLiteral (take size text) value × (largest < value)

-- The text begins with decimal digits, a `'` and a digit: a width and a number. The width is outside 1 to 128, or the
-- number over 2 ^ 128 - 1.
pub record BeginsMisfit (text : List ℕ) : Type 0 where
  pub digits : List ℕ
  pub rest : List ℕ
  pub parts : text ≡ digits ++ 39 ∷ rest
  pub has_digits : AllPass is_decimal digits
  pub has_number : IsTrue (is_decimal (slice_index rest 0))
  pub misfits : (value_of Decimal digits < 1) ⊎ ((128 < value_of Decimal digits) ⊎ BeginsLargeNumber rest)

-- L3: the text begins with a number that is too large, or has no possible width
abbrev pub BeginsWrongNumber : List ℕ → Type 0
BeginsWrongNumber text = BeginsLargeNumber text ⊎ BeginsMisfit text

-- L4: the text is at a `#` that is the first octet but blanks of its line, and the line from there on is no line
-- marker, nor one but for an open name
pub record BeginsWrongLine (before text : List ℕ) : Type 0 where
  pub number_sign : slice_index text 0 ≡ 35
  pub first : IsFirstOnLine before
  pub no_marker : IsLineMarker (first_line text) → ⊥
  pub no_open_name : HasOpenName (first_line text) → ⊥

-- what stands where a rule is broken, by the octets of the text before that octet, and those from it on
abbrev pub IsBrokenAt : Rule → List ℕ → List ℕ → Type 0
IsBrokenAt rule before text =
    ((rule ≡ L 1) × BeginsNothing before text) ⊎ (((rule ≡ L 2) × BeginsOpen before text)
    ⊎ (((rule ≡ L 3) × BeginsWrongNumber text) ⊎ ((rule ≡ L 4) × BeginsWrongLine before text)))

-- The fault's place is that of an octet of the text. Up to there stand tokens with trivia before, between and behind
-- them; the rule is broken there.
pub record IsRefusal (text : List ℕ) (fault : Fault) : Type 0 where
  pub at : ℕ
  pub inside : at < length text
  pub placed : fault.place ≡ Some (place_after (take at text))
  pub tokens : List (Token TokenKind14)
  pub so_far : HasTriviaBetween IsTrivia text 0 tokens at
  pub broken : IsBrokenAt fault.rule (take at text) (drop at text)

-- where the answer is a refusal, one of the rules is broken there
abbrev pub IsRefusedRightly : List ℕ → Result (List (Token TokenKind14)) Lex → Type 0
IsRefusedRightly text (Ok tokens) = Unit {0}
IsRefusedRightly text (Err Memory) = Unit {0}
IsRefusedRightly text (Err (Refused fault)) = IsRefusal text fault
