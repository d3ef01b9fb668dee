-- Which entry of a table a key finds.
use Rattle.std.specs.Prelude.{◌≡◌, ℕ, zero, suc, ◌<◌, ◌≤◌, nat_lt, Bool, true, false, if◌then◌else◌, Option, Some, None, List, [], length, slice_index_or}
use Rattle.match_core.specs.declared.signatures.KeySpec.{KeySpec}
use Rattle.match_core.specs.declared.entries.Entry.{Entry}
use Rattle.match_core.specs.Matching.{matches, rank_of}

-- what a table is built of
pub record Filled : Type 0 where
  pub specs : List KeySpec
  pub entries : List Entry

-- of the numbers below count that pass the test, this one has the least rank, and is the first with it
pub record Leads (test : ℕ → Bool) (rank : ℕ → ℕ) (count n : ℕ) : Type 0 where
  pub within : n < count
  pub passes : test n ≡ true
  pub least : (i : ℕ) → i < count → test i ≡ true → rank n ≤ rank i
  pub first : (i : ℕ) → i < count → test i ≡ true → rank i ≡ rank n → n ≤ i

-- the leading number, or that none passes
abbrev pub IsLeader : (ℕ → Bool) → (ℕ → ℕ) → ℕ → Option ℕ → Type 0
IsLeader test rank count None = (i : ℕ) → i < count → test i ≡ false
IsLeader test rank count (Some n) = Leads test rank count n

-- the entry with this number
abbrev pub entry_at : List Entry → ℕ → Entry
entry_at entries n = slice_index_or entries n (record { keys = []; priority = 0; action = 0; arguments = [] })

-- the entry with this number matches the key
abbrev pub hits : Filled → List ℕ → ℕ → Bool
hits table key n = matches table.specs (entry_at table.entries n).keys key

abbrev pub rank_at : Filled → ℕ → ℕ
rank_at table n = rank_of table.specs (entry_at table.entries n)

-- the best entry: it matches, and of those that match it counts first, the earlier one where two count
-- the same; none where no entry matches
abbrev pub IsBest : Filled → List ℕ → Option ℕ → Type 0
IsBest table key found = IsLeader (hits table key) (rank_at table) (length table.entries) found

-- the same, computed by a scan of all entries: a later one takes the place of the best so far where its
-- rank is smaller
abbrev pub lead : (ℕ → ℕ) → Option ℕ → ℕ → Option ℕ
lead rank None i = Some i
lead rank (Some n) i = if nat_lt (rank i) (rank n) then Some i else Some n

abbrev pub leader : (ℕ → Bool) → (ℕ → ℕ) → ℕ → Option ℕ
leader test rank zero = None
leader test rank (suc i) = if test i then lead rank (leader test rank i) i else leader test rank i

abbrev pub best : Filled → List ℕ → Option ℕ
best table key = leader (hits table key) (rank_at table) (length table.entries)
