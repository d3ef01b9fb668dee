-- Where each name stands in `main`, kept where the first name equal to it stands.
use Rattle.std.specs.Prelude.{◌≡◌, ℕ, nat_lt, if◌then◌else◌, List, [], ◌∷◌, ◌++◌, length, Option, Some, None, slice_index_or, slice_set}
use Rattle.name_numbers.specs.Names.{find_name}
use Rattle.p416_syntax.specs.Names.{Name}
use Rattle.p416_syntax.specs.Main.{positions_from}

-- the places of each name, by the number of the first that is equal to it
pub record ArePlaces (names : List Name) (places : List (List ℕ)) : Type 0 where
  pub each : (text : Name) (n : ℕ) → find_name names text ≡ Some n → slice_index_or places n [] ≡ positions_from 0 names text

-- with one place more of the name with this number
abbrev pub added : Option ℕ → ℕ → List (List ℕ) → List (List ℕ)
added None place places = places
added (Some n) place places =
    if nat_lt n (length places) then slice_set places n (slice_index_or places n [] ++ place ∷ []) else places
