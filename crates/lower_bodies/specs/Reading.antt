-- The fields that calculations read, and which bodies need copies (this project's own).
use Rattle.std.specs.Prelude.{◌≡◌, Bool, false, not, List, [], ◌∷◌, map, flat_map}
use Rattle.std.specs.Global.{Vec}
use Rattle.p414_syntax.specs.declared.syntax.Rule14.{Rule14}
use Rattle.p414_syntax.specs.declared.syntax.Rule14.TheVariants.{Sequential, Parallel}
use Rattle.p414_slots.specs.declared.slot.FieldSlot.{FieldSlot}
use Rattle.p414_ready_actions.specs.declared.rows.ReadyPrimitive.{ReadyPrimitive}
use Rattle.lower_laws_actions.specs.Apart.{Part}
use Rattle.lower_bodies.specs.Apart.{number_in, rows_apart}
use Rattle.lower_rows.specs.declared.calculations.HashItem.{HashItem}
use Rattle.lower_rows.specs.declared.calculations.HashItem.TheVariants as item
use Rattle.lower_rows.specs.declared.calculations.CalculationRow.{CalculationRow}
use Rattle.lower_expressions.specs.declared.table.WordsTable.{WordsTable}

-- the field that an item is
abbrev pub item_parts : HashItem → List Part
item_parts (item.Field slot) = number_in slot ∷ []
item_parts _ = []

-- the fields of a calculation
abbrev pub row_parts : CalculationRow → List Part
row_parts row = flat_map item_parts row.items

-- the fields in these slots
abbrev pub slots_parts : Vec FieldSlot → List Part
slots_parts slots = map number_in slots.items

-- these are the fields that the calculations of the table read, by number
abbrev pub AreRead : WordsTable → List (Vec FieldSlot) → Type 0
AreRead t read = map slots_parts read ≡ map row_parts t.calculations.now

-- rows whose operands are to be read at copies, as `needs_copies` says it of primitives
abbrev pub rows_need : List (Vec FieldSlot) → Rule14 → List ReadyPrimitive → Bool
rows_need read Sequential rows = false
rows_need read Parallel rows = not (rows_apart read rows)
