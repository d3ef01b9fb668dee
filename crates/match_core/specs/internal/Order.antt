-- The order in which the entries of a table are asked.
use Rattle.std.specs.Prelude.{◌≡◌, ℕ, ◌+◌, ◌*◌, ◌^◌, ◌<◌, List, length, All}
use Rattle.std.specs.List.{Contains}
use Rattle.std.specs.List.Sorted.{IsNonDecreasing}
use Rattle.match_core.specs.Best.{Filled, rank_at}

-- where an entry stands in the order: its rank, and then its number
abbrev pub place_of : Filled → ℕ → ℕ
place_of table n = rank_at table n * 2 ^ 32 + n

-- it is the place of an entry
pub record IsPlace (table : Filled) (place : ℕ) : Type 0 where
  pub number : ℕ
  pub within : number < length table.entries
  pub is : place ≡ place_of table number

-- the places of all entries, the one that counts first at the front
pub record IsOrder (table : Filled) (order : List ℕ) : Type 0 where
  pub each : All (IsPlace table) order
  pub has : (n : ℕ) → n < length table.entries → Contains order (place_of table n)
  pub rises : IsNonDecreasing order
