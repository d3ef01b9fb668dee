-- The keys of entries, each behind the number of its table.
use Rattle.std.specs.Prelude.{ℕ, ◌==◌, ◌&&◌, nat_lt, Bool, if◌then◌else◌, List, [], ◌∷◌, length, Option, Some, None, slice_index_or}
use Rattle.std.specs.Ordering.{nat_cmp}
use Rattle.std.specs.Cmp.Lexicographic.{slice_cmp}
use Rattle.std.specs.BTreeSet.{BTreeSet, contains}
use Rattle.entries_file.specs.declared.key_set.KeySet.{KeySet}

-- the table and the number of a key that is a single number without a priority, of one of so many tables
abbrev pub number_of : ℕ → List ℕ → Option (ℕ × ℕ)
number_of tables (table ∷ priority ∷ number ∷ second ∷ []) =
    if nat_lt table tables && (priority == 0 && second == 0) then Some (table, number) else None
number_of tables _ = None

abbrev pub no_numbers : BTreeSet ℕ
no_numbers = record { keys = [] }

-- the key is there: as a number of its table, or as it is
abbrev pub has_at : KeySet → List ℕ → Option (ℕ × ℕ) → Bool
has_at set key (Some at) = contains nat_cmp (slice_index_or set.numbers.items at.0 no_numbers) at.1
has_at set key None = contains (slice_cmp nat_cmp) set.others key

abbrev pub has_key : KeySet → List ℕ → Bool
has_key set key = has_at set key (number_of (length set.numbers.items) key)
