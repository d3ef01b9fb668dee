-- The pieces that a text is divided into, in the order in which they stand, and what is known between two of them
-- (this project's own; the rules are those of both languages).
use Rattle.std.specs.Prelude.{◌≡◌, ◌<◌, ◌≤◌, ◌+◌, ℕ, Bool, true, List, [], ◌∷◌, ◌++◌, length, take, drop, Some, Result, Ok, Err, slice_index}
use Rattle.p4x_fault.specs.declared.Fault.{Fault}
use Rattle.token_division.specs.declared.division.Token.{Token}
use Rattle.token_division.specs.declared.division.Piece.{Piece}
use Rattle.token_division.specs.declared.division.Lex.{Lex}
use Rattle.token_division.specs.declared.division.Lex.TheVariants.{Memory, Refused}
use Rattle.token_division.specs.Division.{Front, first_after, token_of, place_after}

-- Between two pieces: the tokens so far, the octet at which the next piece begins, and whether nothing but blanks
-- stands before it on its line.
pub record Between (K : Type 0) : Type 0 where
  pub tokens : List (Token K)
  pub at : ℕ
  pub is_first : Bool

-- a piece, and what is known before it
pub record Step (K : Type 0) : Type 0 where
  pub before : Between K
  pub piece : Piece K

-- what is known before the first piece
abbrev pub at_start : {K : Type 0} → Between K
at_start = record { tokens = []; at = 0; is_first = true }

-- what is known behind a piece
abbrev pub behind_step : {K : Type 0} → List ℕ → Step K → Between K
behind_step text step = record {
  tokens = step.before.tokens ++ token_of (take step.before.at text) step.piece.what step.piece.size;
  at = step.before.at + step.piece.size;
  is_first = first_after step.piece.what step.before.is_first (slice_index text step.before.at);
}

-- The piece is what the text begins with there. It has an octet, and none that the text doesn't have.
pub record IsStep {K : Type 0} (front : Front K) (text : List ℕ) (step : Step K) : Type 0 where
  pub found : front step.before.is_first (drop step.before.at text) ≡ Ok step.piece
  pub some : 0 < step.piece.size
  pub within : step.before.at + step.piece.size ≤ length text

-- these pieces, the last of them first, lead from the beginning of the text to what is known here
abbrev pub LeadsTo : {K : Type 0} → Front K → List ℕ → List (Step K) → Between K → Type 0
LeadsTo front text [] here = here ≡ at_start
LeadsTo front text (step ∷ earlier) here =
    IsStep front text step × (here ≡ behind_step text step) × LeadsTo front text earlier step.before

-- pieces lead from the beginning of the text to what is known here
abbrev pub IsReached : {K : Type 0} → Front K → List ℕ → Between K → Type 0
IsReached {K} front text here = (steps : List (Step K)) × LeadsTo front text steps here

-- pieces lead to the end of the text, and these are the tokens among them
abbrev pub IsWalkedThrough : {K : Type 0} → Front K → List ℕ → List (Token K) → Type 0
IsWalkedThrough {K} front text tokens =
    (here : Between K) × IsReached front text here × (here.at ≡ length text) × (here.tokens ≡ tokens)

-- Pieces lead to an octet of the text at which no further piece begins. The fault has its place, and the rule that
-- the text breaks there.
pub record IsStopped {K : Type 0} (front : Front K) (text : List ℕ) (fault : Fault) : Type 0 where
  pub here : Between K
  pub reached : IsReached front text here
  pub inside : here.at < length text
  pub found : front here.is_first (drop here.at text) ≡ Err fault.rule
  pub placed : fault.place ≡ Some (place_after (take here.at text))

-- pieces lead through the text, or up to the fault, unless memory ran out
abbrev pub IsWalk : {K : Type 0} → Front K → List ℕ → Result (List (Token K)) Lex → Type 0
IsWalk front text (Ok tokens) = IsWalkedThrough front text tokens
IsWalk front text (Err (Refused fault)) = IsStopped front text fault
IsWalk front text (Err Memory) = Unit {0}
