-- Lines that are trivia: line markers and pragma lines (this project's own; P4_14 1.0.5 leaves them to the
-- preprocessor).
use Rattle.std.specs.Prelude.{ℕ, ◌+◌, Bool, not, nat_eq, nat_lt, ◌||◌, ◌&&◌, if◌then◌else◌, List, length, take, drop, codes, Result, Ok, Err, slice_index}
use Rattle.std.specs.List.{prefix_len, list_all}
use Rattle.p4x_fault.specs.declared.Rule.{Rule}
use Rattle.p4x_fault.specs.declared.Rule.TheVariants.{L}
use Rattle.token_division.specs.Octets.{is_blank, is_decimal, is_word, is_on_line}
use Rattle.token_division.specs.Pieces.{begins}

-- what stands behind the octets at the front that pass the test
abbrev pub behind_run : (ℕ → Bool) → List ℕ → List ℕ
behind_run test line = drop (prefix_len test line) line

abbrev pub is_not_quote : ℕ → Bool
is_not_quote octet = not (nat_eq octet 34)

abbrev pub is_blank_or_decimal : ℕ → Bool
is_blank_or_decimal octet = is_blank octet || is_decimal octet

-- the rest of a marker behind its first number and its name: further numbers
abbrev pub check_numbers : List ℕ → Result (Unit {0}) Rule
check_numbers line = if list_all is_blank_or_decimal line then Ok tt else Err (L 4)

-- the rest behind the quote that opens a name, of which so many octets stand before the next quote
abbrev pub check_closed : ℕ → List ℕ → Result (Unit {0}) Rule
check_closed size line = if nat_lt size (length line) then check_numbers (drop (size + 1) line) else Err (L 2)

-- the rest behind the first number: a name in quotes, without escapes, or further numbers
abbrev pub check_name : List ℕ → Result (Unit {0}) Rule
check_name line =
    if nat_eq (slice_index line 0) 34 then check_closed (prefix_len is_not_quote (drop 1 line)) (drop 1 line)
    else check_numbers line

-- the rest behind the word and blanks: the first number
abbrev pub check_number : List ℕ → Result (Unit {0}) Rule
check_number line =
    if is_decimal (slice_index line 0) then check_name (behind_run is_blank (behind_run is_decimal line)) else Err (L 4)

-- the word that a marker begins with
abbrev pub marker_word_size : List ℕ → ℕ
marker_word_size line = if begins line (codes "#line") then 5 else 1

-- A line marker is `#` or `#line`, a number, maybe a name in double quotes, and maybe further numbers,
-- with blanks between them. A name that isn't closed on its line breaks L2, any other line L4.
abbrev pub check_marker : List ℕ → Result (Unit {0}) Rule
check_marker line = check_number (behind_run is_blank (drop (marker_word_size line) line))

-- the octets of the text that stand before the end of its first line
abbrev pub first_line : List ℕ → List ℕ
first_line text = take (prefix_len is_on_line text) text

abbrev pub sized : Result (Unit {0}) Rule → ℕ → Result ℕ Rule
sized (Ok checked) size = Ok size
sized (Err rule) size = Err rule

-- How many octets the line marker has that the text begins with. It doesn't reach to the next line.
abbrev pub marker_size : List ℕ → Result ℕ Rule
marker_size text = sized (check_marker (first_line text)) (prefix_len is_on_line text)

-- `@pragma`, and behind it no octet of a word
abbrev pub is_pragma : List ℕ → Bool
is_pragma text = begins text (codes "@pragma") && not (is_word (slice_index text 7))

-- How many octets `@pragma` and the rest of its line have, whatever stands there. Any other `@`
-- breaks L1.
abbrev pub pragma_size : List ℕ → Result ℕ Rule
pragma_size text = if is_pragma text then Ok (prefix_len is_on_line text) else Err (L 1)
