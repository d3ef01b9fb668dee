-- What rows do with a packet's state (P4_14 1.0.5, "Checksums and Hash-value Generators"). `sums` gives the result of each
-- calculation, by its number.
use Rattle.std.specs.Prelude.{ℕ, ◌%◌, ◌^◌, Bool, true, false, not, ◌&&◌, ◌==◌, if◌then◌else◌, List, [], ◌∷◌, fold, Option, Some, None}
use Rattle.std.specs.List.{list_any}
use Rattle.std.specs.Option.{option_map_or}
use Rattle.p414_sem.specs.State.{State, is_valid, read, is_live, written}
use Rattle.p414_layout.specs.declared.shape.Shape.{Shape}
use Rattle.p414_slots.specs.Shown.{slot_in}
use Rattle.p414_act_run.specs.Fits.{bits_at}
use Rattle.p414_calculated_fields.specs.declared.rows.EntryTest.{EntryTest}
use Rattle.p414_calculated_fields.specs.declared.rows.EntryTest.TheVariants as test
use Rattle.p414_calculated_fields.specs.declared.rows.EntryRow.{EntryRow}
use Rattle.p414_calculated_fields.specs.declared.rows.CalculatedRow.{CalculatedRow}

abbrev pub test_holds : State → EntryTest → Bool
test_holds s test.Always = true
test_holds s (test.Valid instance element) = is_valid s instance element
test_holds s (test.Equal slot n) = read s (slot_in slot) == n

-- the calculation of the first entry whose condition holds
abbrev pub first_sum : State → List EntryRow → Option ℕ
first_sum s [] = None
first_sum s (entry ∷ entries) = if test_holds s entry.test then Some entry.calculation else first_sum s entries

-- a field isn't what its calculation gives
abbrev pub row_fails : (ℕ → State → ℕ) → State → CalculatedRow → Bool
row_fails sums s row =
    is_live s (slot_in row.slot)
    && option_map_or (λ (calculation : ℕ). not (sums calculation s == read s (slot_in row.slot))) (first_sum s row.verify) false

abbrev pub rows_fail : (ℕ → State → ℕ) → State → List CalculatedRow → Bool
rows_fail sums s rows = list_any (row_fails sums s) rows

-- a field becomes what its calculation gives, modulo its width in this layout
abbrev pub sum_written : List Shape → (ℕ → State → ℕ) → State → CalculatedRow → Option ℕ → State
sum_written layout sums s row None = s
sum_written layout sums s row (Some calculation) =
    written s (slot_in row.slot) (sums calculation s % 2 ^ bits_at layout row.slot)

abbrev pub row_updated : List Shape → (ℕ → State → ℕ) → State → CalculatedRow → State
row_updated layout sums s row =
    if is_live s (slot_in row.slot) then sum_written layout sums s row (first_sum s row.update) else s

abbrev pub rows_updated : List Shape → (ℕ → State → ℕ) → State → List CalculatedRow → State
rows_updated layout sums s rows = fold (row_updated layout sums) s rows
