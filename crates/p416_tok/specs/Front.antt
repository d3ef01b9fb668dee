-- What a P4_16 text begins with: trivia (blanks and comments) and tokens. Names, numbers with their widths, strings and
-- marks are those of P4_16 1.2, "Lexical constructs"; which numbers, strings, annotations and lines there are, and which
-- rule a text breaks, is this project's own.
use Rattle.std.specs.Prelude.{ℕ, ◌+◌, Bool, not, nat_eq, nat_lt, ◌&&◌, ◌||◌, if◌then◌else◌, List, length, take, drop, Option, Some, None, Result, Ok, Err, slice_index}
use Rattle.std.specs.List.{prefix_len, list_all}
use Rattle.p4x_fault.specs.declared.Rule.{Rule}
use Rattle.p4x_fault.specs.declared.Rule.TheVariants.{L}
use Rattle.token_division.specs.declared.division.Piece.{Piece}
use Rattle.token_division.specs.declared.division.What.TheVariants as what
use Rattle.token_division.specs.declared.literals.Base.TheVariants.{Decimal}
use Rattle.token_division.specs.Octets.{is_blank, is_letter, is_decimal, is_word, is_on_line}
use Rattle.token_division.specs.Pieces.{begins, mark_at, comment_size}
use Rattle.token_division.specs.Literals.{literal_value, literal_size, value_of, largest}
use Rattle.p416_syntax.specs.declared.mark.Mark16.{Mark16}
use Rattle.p416_syntax.specs.declared.lexeme.Annotation16.{Annotation16}
use Rattle.p416_syntax.specs.declared.lexeme.Annotation16.TheVariants as annotated
use Rattle.p416_syntax.specs.declared.lexeme.Include16.{Include16}
use Rattle.p416_syntax.specs.declared.lexeme.Include16.TheVariants as included
use Rattle.p416_syntax.specs.Marks.{mark_text16, all_marks16}
use Rattle.p416_syntax.specs.Lines.{annotation_text16, include_text16}
use Rattle.p416_tok.specs.declared.kind.TokenKind16.{TokenKind16}
use Rattle.p416_tok.specs.declared.kind.TokenKind16.TheVariants as kind
use Rattle.p416_tok.specs.declared.front.Head.{Head}
use Rattle.p416_tok.specs.declared.front.Head.TheVariants as head

-- a piece, or the rule that the text breaks where one would begin
abbrev pub Found : Type 0
Found = Result (Piece TokenKind16) Rule

abbrev pub token : TokenKind16 → ℕ → Found
token kind size = Ok (record { what = what.Token kind; size = size })

abbrev pub skipped : Result ℕ Rule → Found
skipped (Ok size) = Ok (record { what = what.Skipped; size = size })
skipped (Err rule) = Err rule

-- the longest mark that the text begins with; an octet that begins none breaks L1
abbrev pub mark_found : Option Mark16 → Found
mark_found (Some m) = token (kind.Mark m) (length (mark_text16 m))
mark_found None = Err (L 1)

abbrev pub mark : List ℕ → Found
mark text = mark_found (mark_at mark_text16 all_marks16 text)

-- the token class of a number
abbrev pub number_kind : Option ℕ → ℕ → TokenKind16
number_kind width value = kind.Number (record { width = width; value = value })

-- a number by its digits alone: one over 2 ^ 128 - 1 breaks L3
abbrev pub plain_number : List ℕ → Found
plain_number text =
    if nat_lt largest (literal_value text) then Err (L 3)
    else token (number_kind None (literal_value text)) (literal_size text)

-- A number of this width, of which so many octets stand before the value, which the width doesn't cut. A width outside
-- 1 to 128 breaks L3, and so does a value over 2 ^ 128 - 1.
abbrev pub wide_number : ℕ → ℕ → List ℕ → Found
wide_number width before text =
    if nat_lt width 1 || (nat_lt 128 width || nat_lt largest (literal_value text)) then Err (L 3)
    else token (number_kind (Some width) (literal_value text)) (before + literal_size text)

-- this letter behind so many octets, and a digit behind it
abbrev pub is_joined : ℕ → ℕ → List ℕ → Bool
is_joined letter size text = nat_eq (slice_index text size) letter && is_decimal (slice_index text (size + 1))

-- a number without a width, which has so many decimal digits in front: an `s` and a digit behind them break L1
abbrev pub bare_number : ℕ → List ℕ → Found
bare_number size text = if is_joined 115 size text then Err (L 1) else plain_number text

abbrev pub number_by : ℕ → List ℕ → Found
number_by size text =
    if is_joined 119 size text then wide_number (value_of Decimal (take size text)) (size + 1) (drop (size + 1) text)
    else bare_number size text

-- a number, where decimal digits and `w` before a digit are its width
abbrev pub number : List ℕ → Found
number text = number_by (prefix_len is_decimal text) text

-- a `"` behind so many octets, the first of which is a letter
abbrev pub is_closed : ℕ → List ℕ → Bool
is_closed size inside = nat_eq (slice_index inside size) 34 && is_letter (slice_index inside 0)

-- a string, from behind its first quote: so many octets of a word and a `"`; anything else breaks L1
abbrev pub quoted_by : ℕ → List ℕ → Found
quoted_by size inside = if is_closed size inside then token kind.Quoted (size + 2) else Err (L 1)

abbrev pub quoted : List ℕ → Found
quoted text = quoted_by (prefix_len is_word (drop 1 text)) (drop 1 text)

-- the name of this annotation, and behind it no octet of a word
abbrev pub is_annotation : Annotation16 → List ℕ → Bool
is_annotation a text =
    begins text (annotation_text16 a) && not (is_word (slice_index text (length (annotation_text16 a))))

abbrev pub annotation_of : List ℕ → Option Annotation16
annotation_of text =
    if is_annotation annotated.Name text then Some annotated.Name
    else (if is_annotation annotated.FieldList text then Some annotated.FieldList else None)

-- the name of an annotation; an `@` that begins none breaks L1
abbrev pub annotation_found : Option Annotation16 → Found
annotation_found (Some a) = token (kind.At a) (length (annotation_text16 a))
annotation_found None = Err (L 1)

abbrev pub annotation_name : List ℕ → Found
annotation_name text = annotation_found (annotation_of text)

-- the octets of the text that stand before the end of its first line
abbrev pub first_line : List ℕ → List ℕ
first_line text = take (prefix_len is_on_line text) text

-- this include line, and behind it blanks alone
abbrev pub is_include : Include16 → List ℕ → Bool
is_include i line = begins line (include_text16 i) && list_all is_blank (drop (length (include_text16 i)) line)

abbrev pub include_of : List ℕ → Option Include16
include_of line =
    if is_include included.Core line then Some included.Core
    else (if is_include included.V1Model line then Some included.V1Model else None)

-- an include line, without the blanks behind it; a line that is none breaks L4
abbrev pub include_found : Option Include16 → Found
include_found (Some i) = token (kind.Include i) (length (include_text16 i))
include_found None = Err (L 4)

abbrev pub include_line : List ℕ → Found
include_line text = include_found (include_of (first_line text))

-- what may begin with an octet
abbrev pub head_of : ℕ → Head
head_of octet =
    if is_blank octet then head.Blank
    else (if is_letter octet then head.Letter
    else (if is_decimal octet then head.Digit
    else (if nat_eq octet 47 then head.Slash
    else (if nat_eq octet 34 then head.Quote
    else (if nat_eq octet 64 then head.AtSign
    else (if nat_eq octet 35 then head.NumberSign
    else head.Other))))))

-- A `#` begins an include line where nothing but blanks stands before it on its line, and nothing elsewhere.
abbrev pub front_by : Head → Bool → List ℕ → Found
front_by head.Blank is_first text = Ok (record { what = what.Blank; size = 1 })
front_by head.Letter is_first text = token kind.Name (prefix_len is_word text)
front_by head.Digit is_first text = number text
front_by head.Slash is_first text = skipped (comment_size text)
front_by head.Quote is_first text = quoted text
front_by head.AtSign is_first text = annotation_name text
front_by head.NumberSign is_first text = if is_first then include_line text else Err (L 1)
front_by head.Other is_first text = mark text

-- the piece that a P4_16 text begins with, or the rule that it breaks there
abbrev pub front : Bool → List ℕ → Found
front is_first text = front_by (head_of (slice_index text 0)) is_first text
