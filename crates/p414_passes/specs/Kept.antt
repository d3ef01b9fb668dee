-- What is preserved of a packet's metadata, by the layout of a program (P4_14 1.0.5, "Clone", "Resubmit", "Recirculate").
use Rattle.std.specs.Prelude.{◌≡◌, ℕ, if◌then◌else◌, List, [], fold, length, map, replicate, slice_index_or, slice_set, Option, Some, None, MatchBool}
use Rattle.std.specs.List.{AllZip}
use Rattle.p414_sem.specs.Passes.{Preserved, preserving_slot}
use Rattle.p414_sem.specs.Fitting.{FitWidths}
use Rattle.p414_sem.specs.State.{State}
use Rattle.p414_slots.specs.Shown.{slot_in}
use Rattle.p414_layout.specs.declared.shape.Shape.{Shape}
use Rattle.p414_field_lists.specs.declared.rows.ItemRow.{ItemRow}
use Rattle.p414_field_lists.specs.declared.rows.ItemRow.TheVariants as row
use Rattle.p414_field_lists.specs.Rows.{rows_at}

-- where nothing is preserved, each field of metadata has the number 0
abbrev pub nothing_of : Shape → List ℕ
nothing_of s = if s.metadata then replicate (length s.widths) 0 else []

abbrev pub nothing_kept : List Shape → Preserved
nothing_kept layout = map nothing_of layout

-- a number that is preserved of a field
abbrev pub kept_at : Preserved → ℕ → ℕ → ℕ → Preserved
kept_at q instance field value = slice_set q instance (slice_set (slice_index_or q instance []) field value)

-- a row of a field list: a field is preserved as it stands
abbrev pub keeping_row : State → Preserved → ItemRow → Preserved
keeping_row s q (row.Field slot width) = preserving_slot s q (slot_in slot)
keeping_row s q _ = q

abbrev pub list_rows : List (List ItemRow) → Option ℕ → List ItemRow
list_rows lists (Some n) = rows_at lists n
list_rows lists None = []

-- what a list preserves
abbrev pub kept_by : List Shape → List (List ItemRow) → State → Option ℕ → Preserved
kept_by layout lists s list = fold (keeping_row s) (nothing_kept layout) (list_rows lists list)

-- each field of metadata has a number of its width, and headers have none
abbrev pub FitsNumbers : Shape → List ℕ → Type 0
FitsNumbers s numbers = MatchBool s.metadata (FitWidths s.widths numbers) (numbers ≡ [])

abbrev pub FitsKept : List Shape → Preserved → Type 0
FitsKept layout q = AllZip FitsNumbers layout q
