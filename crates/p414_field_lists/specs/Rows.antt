-- The rows of field lists (P4_14 1.0.5, "Field Lists"): fields stand by number, and lists are expanded.
use Rattle.std.specs.Prelude.{ℕ, Bool, List, [], ◌∷◌, flat_map, slice_index_or, unwrap_or}
use Rattle.p4x_bits.specs.BitLists.{bits, octet_bits}
use Rattle.p414_syntax.specs.declared.calculations.Item.{Item}
use Rattle.p414_syntax.specs.declared.calculations.Item.TheVariants as item
use Rattle.p414_syntax.specs.declared.parts.Ref.{Ref}
use Rattle.p414_syntax.specs.declared.syntax.Decl.{Decl}
use Rattle.p414_sem.specs.Slots.{slot_of, bits_of_ref}
use Rattle.p414_sem.specs.State.{State, read}
use Rattle.p414_slots.specs.Shown.{slot_in, kept_slot}
use Rattle.p414_field_lists.specs.declared.rows.ItemRow.{ItemRow}
use Rattle.p414_field_lists.specs.declared.rows.ItemRow.TheVariants as row

-- the row of an item; an expanded list has no instances, but their fields

abbrev pub field_row : List Decl → Ref → ItemRow
field_row ds r = row.Field (kept_slot (slot_of ds r)) (bits_of_ref ds r)

abbrev pub item_rows : List Decl → Item → List ItemRow
item_rows ds item.Payload = row.Payload ∷ []
item_rows ds (item.Number n) = row.Number (unwrap_or n.width 0) n.value ∷ []
item_rows ds (item.Field r) = field_row ds r ∷ []
item_rows ds (item.Instance i) = []

-- the rows of an expanded list
abbrev pub rows_of : List Decl → List Item → List ItemRow
rows_of ds items = flat_map (item_rows ds) items

-- the bits of rows in a state, row after row
abbrev pub row_bits : State → ItemRow → List Bool
row_bits s row.Payload = octet_bits s.unparsed
row_bits s (row.Number width value) = bits width value
row_bits s (row.Field slot width) = bits width (read s (slot_in slot))

abbrev pub rows_bits : State → List ItemRow → List Bool
rows_bits s rows = flat_map (row_bits s) rows

-- the rows of the list with this number; none of one that isn't there
abbrev pub rows_at : List (List ItemRow) → ℕ → List ItemRow
rows_at lists n = slice_index_or lists n []
