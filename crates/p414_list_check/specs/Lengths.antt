-- How many items each field list of a program has when it is expanded.
use Rattle.std.specs.Prelude.{◌≡◌, ℕ, min, List, length, slice_index, Some}
use Rattle.p414_syntax.specs.declared.calculations.Item.{Item}
use Rattle.p414_syntax.specs.declared.syntax.Decl.{Decl}
use Rattle.p414_syntax.specs.Expansion.{lists, items_at, Expands}

-- each list comes to some items, and to so many, but at most 65,537
pub record AreLengths (ds : List Decl) (lengths : List ℕ) : Type 0 where
  pub each : length lengths ≡ length (lists ds)
  pub comes : (l : ℕ) (items : List Item) → items_at ds l ≡ Some items → (all : List Item) × Expands ds items all
  pub long : (l : ℕ) (items all : List Item) → items_at ds l ≡ Some items → Expands ds items all
      → slice_index lengths l ≡ min 65537 (length all)
