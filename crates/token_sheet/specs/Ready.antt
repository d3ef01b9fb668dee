-- A text that is divided by itself as it is divided where more follows.
use Rattle.std.specs.Prelude.{◌≡◌, ◌<◌, ◌≤◌, ℕ, zero, Bool, true, List, [], ◌∷◌, ◌++◌, length, drop, Option, Some, None, slice_index}
use Rattle.token_division.specs.declared.division.Token.{Token}
use Rattle.token_division.specs.Division.{Front, divided, behind}
use Rattle.token_sheet.specs.Spelling.{Parts}
use Rattle.token_sheet.specs.Blanks.{may_follow}

-- each token lies within so many octets
abbrev pub AreWithin : {K : Type 0} → ℕ → List (Token K) → Type 0
AreWithin n [] = Unit {0}
AreWithin n (token ∷ tokens) = (token.to ≤ n) × AreWithin n tokens

-- the last of the tokens, or the one before them
abbrev pub last_of : {K : Type 0} → Option (Token K) → List (Token K) → Option (Token K)
last_of before [] = before
last_of before (token ∷ tokens) = last_of (Some token) tokens

-- the last token has this class and ends the text of so many octets; or it ends earlier, or there is none
abbrev pub Ends : {K : Type 0} → ℕ → Option (Token K) → Option K → Type 0
Ends n None None = Unit {0}
Ends n None (Some kind) = ⊥
Ends n (Some token) None = token.to < n
Ends n (Some token) (Some kind) = (token.kind ≡ kind) × (token.to ≡ n)

-- The text has these tokens, whatever follows that may. The last one may go on: it begins at `start`.
pub record HasTokens {K : Type 0} (front : Front K) (parts : Parts K) (text : List ℕ) (tokens : List (Token K)) (last : Option K) (start : ℕ) (is_first : Bool) : Type 0 where
  pub within : AreWithin (length text) tokens
  pub ends : Ends (length text) (last_of None tokens) last
  pub starts : start ≤ length text
  pub feeds : may_follow parts last (drop start text) 10 ≡ true
  pub goes : (rest : List ℕ) → may_follow parts last (drop start text) (slice_index rest 0) ≡ true
      → divided front [] true zero (text ++ rest) ≡ behind tokens (divided front text is_first zero rest)

pub record IsReady {K : Type 0} (front : Front K) (parts : Parts K) (text : List ℕ) (last : Option K) (start : ℕ) (is_first : Bool) : Type 0 where
  pub tokens : List (Token K)
  pub has : HasTokens front parts text tokens last start is_first
