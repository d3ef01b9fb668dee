-- Which calculation a row is (P4_14 1.0.5, "Field List Calculations": its items, its algorithm and its output width).
use Rattle.std.specs.Prelude.{◌≡◌, ℕ, ◌<◌, List, [], length, map, slice_index_or, unwrap_or}
use Rattle.p414_syntax.specs.declared.calculations.Item.{Item}
use Rattle.p414_syntax.specs.declared.calculations.Item.TheVariants as old
use Rattle.p414_syntax.specs.declared.syntax.Decl.{Decl}
use Rattle.p414_syntax.specs.Names.{Name}
use Rattle.p414_sem.specs.Expanded.{Expanded}
use Rattle.p414_sem.specs.Slots.{slot_of}
use Rattle.p414_sem.specs.Calculations.{Calculation, calculation_named}
use Rattle.p414_slots.specs.Shown.{kept_slot}
use Rattle.p414_ready_actions.specs.Words.{calculation_number}
use Rattle.lower_rows.specs.declared.calculations.HashItem.{HashItem}
use Rattle.lower_rows.specs.declared.calculations.HashItem.TheVariants as item
use Rattle.lower_rows.specs.declared.calculations.CalculationRow.{CalculationRow}

abbrev pub kept_item : List Decl → Item → HashItem
kept_item ds (old.Number n) = item.Number (unwrap_or n.width 0) n.value
kept_item ds (old.Field r) = item.Field (kept_slot (slot_of ds r))
kept_item ds _ = item.Other

abbrev pub kept_calculation : List Decl → Calculation → CalculationRow
kept_calculation ds c = record { algorithm = c.algorithm; width = c.width; items = map (kept_item ds) c.items }

abbrev pub no_calculation_row : CalculationRow
no_calculation_row = record { algorithm = []; width = 0; items = [] }

-- the row with this number
abbrev pub calculation_at : List CalculationRow → ℕ → CalculationRow
calculation_at rows number = slice_index_or rows number no_calculation_row

-- the calculations of a program in the order of declaration, and behind them one row for a name that none has
pub record HasCalculations (ds : List Decl) (x : Expanded) (rows : List CalculationRow) : Type 0 where
  pub within : (name : Name) → calculation_number ds name < length rows
  pub each : (name : Name) → calculation_at rows (calculation_number ds name) ≡ kept_calculation ds (calculation_named ds x name)
