-- How the tokens of a text lie in it.
use Rattle.std.specs.Prelude.{◌≡◌, ◌<◌, ◌≤◌, ◌⊎◌, ◌-◌, ℕ, Bool, List, length, take, drop, Ok, All, AllPairs}
use Rattle.p4x_fault.specs.declared.Place.{Place}
use Rattle.token_division.specs.declared.division.Token.{Token}
use Rattle.token_division.specs.declared.division.What.TheVariants as what
use Rattle.token_division.specs.Division.{Front, place_after}

-- the first place is on an earlier line, or on the same line in an earlier column
abbrev pub IsBefore : Place → Place → Type 0
IsBefore first second = (first.line < second.line) ⊎ ((first.line ≡ second.line) × (first.column < second.column))

-- Each token has octets of the text, each stands behind those before it, each has the place of its
-- first octet, and the places rise.
pub record IsLaidOut {K : Type 0} (text : List ℕ) (tokens : List (Token K)) : Type 0 where
  pub inside : All (λ token. (token.from < token.to) × (token.to ≤ length text)) tokens
  pub apart : AllPairs (λ first second. first.to ≤ second.from) tokens
  pub placed : All (λ token. token.place ≡ place_after (take token.from text)) tokens
  pub rising : AllPairs (λ first second. IsBefore first.place second.place) tokens

-- the token is what the text begins with where the token begins
abbrev pub IsPieceOf : {K : Type 0} → Front K → List ℕ → Token K → Type 0
IsPieceOf front text token =
    (is_first : Bool) × (front is_first (drop token.from text)
    ≡ Ok (record { what = what.Token token.kind; size = token.to - token.from }))
