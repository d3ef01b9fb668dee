-- How a text is divided into pieces, from the left, in a language that says what a text may begin with; its token
-- classes are the kinds K (this project's own; the rules are those of both languages).
use Rattle.std.specs.Prelude.{◌≡◌, ℕ, zero, suc, ◌+◌, ◌-◌, Bool, true, false, ◌||◌, List, [], ◌∷◌, ◌++◌, length, Some, Result, Ok, Err}
use Rattle.std.specs.List.{count_by, suffix_len}
use Rattle.p4x_fault.specs.declared.Rule.{Rule}
use Rattle.p4x_fault.specs.declared.Place.{Place}
use Rattle.p4x_fault.specs.declared.Fault.{Fault}
use Rattle.token_division.specs.declared.division.Token.{Token}
use Rattle.token_division.specs.declared.division.Piece.{Piece}
use Rattle.token_division.specs.declared.division.What.{What}
use Rattle.token_division.specs.declared.division.What.TheVariants as what
use Rattle.token_division.specs.declared.division.Lex.{Lex}
use Rattle.token_division.specs.declared.division.Lex.TheVariants.{Memory, Refused}
use Rattle.token_division.specs.Octets.{is_line_feed, is_on_line}

-- The place behind these octets. Lines and columns are counted in octets from 1: the line is one more
-- than the line feeds among the octets, the column one more than the octets behind the last of them.
abbrev pub place_after : List ℕ → Place
place_after before = record { line = 1 + count_by is_line_feed before; column = 1 + suffix_len is_on_line before }

-- Whether nothing but blanks stands on its line before what follows the piece, where `is_first` says
-- so of the piece, and `octet` is the first of the piece.
abbrev pub first_after : {K : Type 0} → What K → Bool → ℕ → Bool
first_after what.Blank is_first octet = is_line_feed octet || is_first
first_after what.Skipped is_first octet = false
first_after (what.Token kind) is_first octet = false

-- the token that so many octets behind `before` are, if they are one
abbrev pub token_of : {K : Type 0} → List ℕ → What K → ℕ → List (Token K)
token_of before what.Blank size = []
token_of before what.Skipped size = []
token_of before (what.Token kind) size =
    record { kind = kind; «from» = length before; to = length before + size; place = place_after before } ∷ []

-- What the texts of a language with tokens of the kinds K begin with: the piece at the front of a text
-- that isn't empty, or the rule that the text breaks there. The truth value says whether nothing but
-- blanks stands before it on its line.
abbrev pub Front : Type 0 → Type 0
Front K = Bool → List ℕ → Result (Piece K) Rule

-- these tokens, and those that follow
abbrev pub behind : {K : Type 0} → List (Token K) → Result (List (Token K)) Fault → Result (List (Token K)) Fault
behind tokens (Ok more) = Ok (tokens ++ more)
behind tokens (Err fault) = Err fault

-- the token of the piece at the front and those of the rest, or the fault at the place where the piece
-- would begin
abbrev pub goes_on : {K : Type 0} → List ℕ → Result (Piece K) Rule → (Piece K → Result (List (Token K)) Fault)
    → Result (List (Token K)) Fault
goes_on before (Ok piece) rest = behind (token_of before piece.what piece.size) (rest piece)
goes_on before (Err rule) rest = Err (record { rule = rule; place = Some (place_after before) })

-- The tokens of a text before which `before` stands, and of which `left` octets still belong to the
-- last piece there.
abbrev pub divided : {K : Type 0} → Front K → List ℕ → Bool → ℕ → List ℕ → Result (List (Token K)) Fault
divided front before is_first left [] = Ok []
divided front before is_first (suc left) (octet ∷ text) = divided front (before ++ octet ∷ []) is_first left text
divided front before is_first zero (octet ∷ text) =
    goes_on before (front is_first (octet ∷ text)) (λ piece.
    divided front (before ++ octet ∷ []) (first_after piece.what is_first octet) (piece.size - 1) text)

-- the tokens of a whole text, or the fault at which the division stops
abbrev pub division : {K : Type 0} → Front K → List ℕ → Result (List (Token K)) Fault
division front text = divided front [] true 0 text

-- the answer is the division of the text, unless memory ran out
abbrev pub IsDivision : {K : Type 0} → Front K → List ℕ → Result (List (Token K)) Lex → Type 0
IsDivision front text (Ok tokens) = division front text ≡ Ok tokens
IsDivision front text (Err (Refused fault)) = division front text ≡ Err fault
IsDivision front text (Err Memory) = Unit {0}
