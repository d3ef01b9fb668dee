-- What becomes of the shapes of the objects while the tables are gone through.
use Rattle.std.specs.Prelude.{ℕ, Option, None, Some, List, slice_index_or, slice_set}
use Rattle.state_store.specs.declared.shapes.Shape.{Shape}
use Rattle.state_store.specs.declared.shapes.Shape.TheVariants.{Meter}
use Rattle.match_core.specs.Stores.{sized}

-- the shapes, where the direct counter of a table has so many cells
abbrev pub resized : List Shape → Option ℕ → ℕ → List Shape
resized shapes None entries = shapes
resized shapes (Some object) entries = slice_set shapes object (sized (slice_index_or shapes object (Meter 0)) entries)
