-- What a P4_14 text begins with: trivia (blanks, comments, line markers and pragma lines) and tokens. Names, numbers
-- with their widths and marks are those of P4_14 1.0.5, "Value Specifications" and "Summary of P4 BNF"; which places
-- take a `_` or a blank, and which rule a text breaks, is this project's own.
use Rattle.std.specs.Prelude.{ℕ, ◌+◌, ◌%◌, ◌^◌, Bool, nat_eq, nat_lt, ◌&&◌, ◌||◌, if◌then◌else◌, List, length, take, drop, Option, Some, None, Result, Ok, Err, slice_index}
use Rattle.std.specs.List.{prefix_len}
use Rattle.p4x_fault.specs.declared.Rule.{Rule}
use Rattle.p4x_fault.specs.declared.Rule.TheVariants.{L}
use Rattle.token_division.specs.declared.division.Piece.{Piece}
use Rattle.token_division.specs.declared.division.What.TheVariants as what
use Rattle.token_division.specs.declared.literals.Base.TheVariants.{Decimal}
use Rattle.token_division.specs.Octets.{is_blank, is_letter, is_decimal, is_word}
use Rattle.token_division.specs.Pieces.{mark_at, comment_size}
use Rattle.token_division.specs.Literals.{literal_value, literal_size, value_of, largest}
use Rattle.p414_syntax.specs.declared.mark.Mark.{Mark}
use Rattle.p414_syntax.specs.Marks.{mark_text, all_marks}
use Rattle.p414_tok.specs.declared.kind.TokenKind14.{TokenKind14}
use Rattle.p414_tok.specs.declared.kind.TokenKind14.TheVariants as kind
use Rattle.p414_tok.specs.declared.front.Head.{Head}
use Rattle.p414_tok.specs.declared.front.Head.TheVariants as head
use Rattle.p414_tok.specs.Lines.{marker_size, pragma_size}

-- a piece, or the rule that the text breaks where one would begin
abbrev pub Found : Type 0
Found = Result (Piece TokenKind14) Rule

abbrev pub token : TokenKind14 → ℕ → Found
token kind size = Ok (record { what = what.Token kind; size = size })

abbrev pub skipped : Result ℕ Rule → Found
skipped (Ok size) = Ok (record { what = what.Skipped; size = size })
skipped (Err rule) = Err rule

-- the longest mark that the text begins with; an octet that begins none breaks L1
abbrev pub mark_found : Option Mark → Found
mark_found (Some m) = token (kind.Mark m) (length (mark_text m))
mark_found None = Err (L 1)

abbrev pub mark : List ℕ → Found
mark text = mark_found (mark_at mark_text all_marks text)

-- the token class of a number
abbrev pub number_kind : Option ℕ → ℕ → TokenKind14
number_kind width value = kind.Number (record { width = width; value = value })

-- a number without a width: one over 2 ^ 128 - 1 breaks L3
abbrev pub plain_number : List ℕ → Found
plain_number text =
    if nat_lt largest (literal_value text) then Err (L 3)
    else token (number_kind None (literal_value text)) (literal_size text)

-- A number of this width, of which so many octets stand before the value. Its value is kept modulo
-- 2 ^ width. A width outside 1 to 128 breaks L3, and so does a written value over 2 ^ 128 - 1.
abbrev pub wide_number : ℕ → ℕ → List ℕ → Found
wide_number width before text =
    if nat_lt width 1 || (nat_lt 128 width || nat_lt largest (literal_value text)) then Err (L 3)
    else token (number_kind (Some width) (literal_value text % 2 ^ width)) (before + literal_size text)

-- a `'` behind so many octets, and a digit behind it
abbrev pub is_quoted : ℕ → List ℕ → Bool
is_quoted size text = nat_eq (slice_index text size) 39 && is_decimal (slice_index text (size + 1))

abbrev pub number_by : ℕ → List ℕ → Found
number_by size text =
    if is_quoted size text then wide_number (value_of Decimal (take size text)) (size + 1) (drop (size + 1) text)
    else plain_number text

-- a number, where decimal digits and `'` before a digit are its width
abbrev pub number : List ℕ → Found
number text = number_by (prefix_len is_decimal text) text

-- what may begin with an octet
abbrev pub head_of : ℕ → Head
head_of octet =
    if is_blank octet then head.Blank
    else (if is_letter octet then head.Letter
    else (if is_decimal octet then head.Digit
    else (if nat_eq octet 47 then head.Slash
    else (if nat_eq octet 64 then head.AtSign
    else (if nat_eq octet 35 then head.NumberSign
    else head.Other)))))

-- A `#` begins a line marker where nothing but blanks stands before it on its line, and nothing
-- elsewhere.
abbrev pub front_by : Head → Bool → List ℕ → Found
front_by head.Blank is_first text = Ok (record { what = what.Blank; size = 1 })
front_by head.Letter is_first text = token kind.Name (prefix_len is_word text)
front_by head.Digit is_first text = number text
front_by head.Slash is_first text = skipped (comment_size text)
front_by head.AtSign is_first text = skipped (pragma_size text)
front_by head.NumberSign is_first text = skipped (if is_first then marker_size text else Err (L 1))
front_by head.Other is_first text = mark text

-- the piece that a P4_14 text begins with, or the rule that it breaks there
abbrev pub front : Bool → List ℕ → Found
front is_first text = front_by (head_of (slice_index text 0)) is_first text
