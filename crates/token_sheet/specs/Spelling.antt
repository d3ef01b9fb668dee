-- What a language owes, so that its words can be put on a sheet (this project's own).
use Rattle.std.specs.Prelude.{◌≡◌, ◌<◌, ℕ, Bool, true, List, ◌∷◌, ◌++◌, length, Ok, slice_index, IsTrue}
use Rattle.token_division.specs.declared.division.What.TheVariants as what
use Rattle.token_division.specs.Octets.{is_blank}
use Rattle.token_division.specs.Division.{Front}

-- which octets a token of this class may be written with
abbrev pub Spells : Type 0 → Type 1
Spells K = K → List ℕ → Type 0

-- whether an octet that stands right behind a token of this class, which has these octets, is no part of it
abbrev pub Parts : Type 0 → Type 0
Parts K = K → List ℕ → ℕ → Bool

-- The division agrees. A text that begins with a token and what parts from it begins with that token; where the token
-- has to be the first of its line, only there. A token has an octet. A line feed parts from each, and a blank is
-- a piece by itself.
pub record IsSpelling {K : Type 0} (front : Front K) (spells : Spells K) (parts : Parts K) (begins_line : K → Bool) : Type 0 where
  pub again : (is_first : Bool) (kind : K) (octets rest : List ℕ) → spells kind octets → (begins_line kind ≡ true → is_first ≡ true)
      → IsTrue (parts kind octets (slice_index rest 0))
      → front is_first (octets ++ rest) ≡ Ok (record { what = what.Token kind; size = length octets })
  pub some : (kind : K) (octets : List ℕ) → spells kind octets → 0 < length octets
  pub feeds : (kind : K) (octets : List ℕ) → spells kind octets → IsTrue (parts kind octets 10)
  pub blanks : (is_first : Bool) (octet : ℕ) (rest : List ℕ) → IsTrue (is_blank octet)
      → front is_first (octet ∷ rest) ≡ Ok (record { what = what.Blank; size = 1 })
