-- The rows of a list whose inner lists are ready.
use Rattle.std.specs.Prelude.{ℕ, List, [], flat_map, slice_get, Option, Some, None}
use Rattle.std.specs.Option.{option_map_or}
use Rattle.p414_syntax.specs.declared.calculations.FieldList.{FieldList}
use Rattle.p414_syntax.specs.declared.calculations.Item.{Item}
use Rattle.p414_syntax.specs.declared.parts.Inst.{Inst}
use Rattle.p414_syntax.specs.declared.syntax.Decl.{Decl}
use Rattle.p414_syntax.specs.Names.{Name}
use Rattle.p414_syntax.specs.Expansion.{lists, inner_number, own_items}
use Rattle.p414_field_lists.specs.declared.rows.ItemRow.{ItemRow}
use Rattle.p414_field_lists.specs.Rows.{field_row, rows_of, rows_at}

-- the field of an instance with this name
abbrev pub named_row : List Decl → Inst → Name → ItemRow
named_row ds i field = field_row ds (record { instance = i; field = field })

-- the rows of an item by itself
abbrev pub own_rows : List Decl → Item → List ItemRow
own_rows ds i = rows_of ds (own_items ds i)

-- or those of the list that it stands for
abbrev pub rows_by : List Decl → List (List ItemRow) → Item → Option ℕ → List ItemRow
rows_by ds ready i (Some n) = rows_at ready n
rows_by ds ready i None = own_rows ds i

abbrev pub expanded_rows : List Decl → List (List ItemRow) → Item → List ItemRow
expanded_rows ds ready i = rows_by ds ready i (inner_number ds i)

-- the rows of these items, and those of the list with this number
abbrev pub list_rows : List Decl → List (List ItemRow) → List Item → List ItemRow
list_rows ds ready items = flat_map (expanded_rows ds ready) items

abbrev pub list_rows_in : List Decl → List (List ItemRow) → FieldList → List ItemRow
list_rows_in ds ready l = list_rows ds ready l.items

abbrev pub list_rows_at : List Decl → List (List ItemRow) → ℕ → List ItemRow
list_rows_at ds ready n = option_map_or (list_rows_in ds ready) (slice_get (lists ds) n) []
