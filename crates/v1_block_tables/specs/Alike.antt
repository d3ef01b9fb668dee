-- Tables and what fills them (this project's own).
use Rattle.std.specs.Prelude.{◌≡◌, ℕ, List, slice_index_or}
use Rattle.match_core.specs.Best.{Filled}
use Rattle.match_core.specs.declared.entries.TableFill.{TableFill}
use Rattle.v1_ready_blocks.specs.Tables.{no_fill, no_table}

-- each table has the entries that were set for it
pub record AreAlike (tables : List Filled) (fills : List TableFill) : Type 0 where
  pub entries : (n : ℕ) → (slice_index_or fills n no_fill).entries ≡ (slice_index_or tables n no_table).entries
