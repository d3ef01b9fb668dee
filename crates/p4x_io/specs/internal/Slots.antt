-- Where a name stands among those that a desk in memory holds: this project's own.
use Rattle.std.specs.Prelude.{◌≡◌, ◌≢◌, slice_set, ◌<◌, ℕ, List, length, slice_index_or, Some}
use Rattle.p4x_io.specs.Memory.{Named, known_at}

-- The first of this name stands at an index, and does so still after a change that keeps its name.
pub record IsFirst (name : List ℕ) (names : List Named) (i : ℕ) : Type 0 where
  pub inside : i < length names
  pub is : (d : Named) → known_at names name ≡ Some (slice_index_or names i d).known
  pub after : (d t : Named) → t.name ≡ (slice_index_or names i d).name →
      known_at (slice_set names i t) name ≡ Some t.known
  pub others : (d t : Named) → t.name ≡ (slice_index_or names i d).name → (n : List ℕ) → n ≢ name →
      known_at (slice_set names i t) n ≡ known_at names n
