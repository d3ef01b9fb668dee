-- What is kept of tables (P4_14 1.0.5, "Table Declarations"): fields, actions and the direct counter stand by number.
use Rattle.std.specs.Prelude.{◌≡◌, ℕ, bit_and, List, map, Option, Some, None, option_map, All}
use Rattle.std.specs.List.{AllZip}
use Rattle.state_store.specs.declared.shapes.Shape as objects
use Rattle.state_store.specs.State.{IsCounterAt}
use Rattle.match_core.specs.declared.entries.DefaultCall.{DefaultCall}
use Rattle.p414_syntax.specs.declared.lexeme.Literal.{Literal}
use Rattle.p414_syntax.specs.declared.tables.ReadKey.{ReadKey}
use Rattle.p414_syntax.specs.declared.tables.ReadKey.TheVariants as read_key
use Rattle.p414_syntax.specs.declared.tables.Read.{Read}
use Rattle.p414_syntax.specs.declared.tables.Table.{Table}
use Rattle.p414_syntax.specs.declared.syntax.Decl.{Decl}
use Rattle.p414_syntax.specs.Attributes.{reads_of, default_action_of}
use Rattle.p414_syntax.specs.Arguments.{action_number}
use Rattle.p4x_bits.specs.BitLists.{bit}
use Rattle.p414_sem.specs.Slots.{slot_of, Element, element_of}
use Rattle.p414_sem.specs.State.{State, is_valid, read}
use Rattle.p414_sem.specs.Signatures.{actions_in_order, direct_counter, tables_in_order}
use Rattle.p414_sem.specs.Controls.{Chosen, default_of, program_default}
use Rattle.p414_slots.specs.Shown.{slot_in, kept_slot}
use Rattle.p414_ready_tables.specs.declared.tables.KeyRow.{KeyRow}
use Rattle.p414_ready_tables.specs.declared.tables.KeyRow.TheVariants as row
use Rattle.p414_ready_tables.specs.declared.tables.ReadyTable.{ReadyTable}

-- keys

abbrev pub valid_row : Element → KeyRow
valid_row at = row.Valid at.instance at.element

abbrev pub row_by : List Decl → ReadKey → Option Literal → KeyRow
row_by ds (read_key.Field f) None = row.Field (kept_slot (slot_of ds f))
row_by ds (read_key.Field f) (Some mask) = row.Masked (kept_slot (slot_of ds f)) mask.value
row_by ds (read_key.Instance i) mask = valid_row (element_of ds i)

abbrev pub key_row : List Decl → Read → KeyRow
key_row ds r = row_by ds r.key r.mask

-- what a key is in a state
abbrev pub row_value : State → KeyRow → ℕ
row_value s (row.Field slot) = read s (slot_in slot)
row_value s (row.Masked slot mask) = bit_and (read s (slot_in slot)) mask
row_value s (row.Valid instance element) = bit (is_valid s instance element)

-- tables

abbrev pub some_number : ℕ → Option ℕ
some_number n = Some n

-- what is kept of a table; the arguments of the program's default are kept modulo the widths of the parameters
pub record IsReadyTable (ds : List Decl) (t : Table) (r : ReadyTable) : Type 0 where
  pub keys : r.keys ≡ map (key_row ds) (reads_of t.attributes)
  -- each action that the table lists is declared
  pub actions : map some_number r.actions ≡ map (action_number ds) (actions_in_order t)
  pub direct : r.direct ≡ direct_counter ds t.name
  pub default : option_map default_of r.default ≡ option_map (program_default ds t) (default_action_of t.attributes)

-- all tables, in the order of their names
abbrev pub AreReadyTables : List Decl → List ReadyTable → Type 0
AreReadyTables ds rs = AllZip (IsReadyTable ds) (tables_in_order ds) rs

-- what counts the entries of a table is a counter
abbrev pub FitsDirect : List objects.Shape → Option ℕ → Type 0
FitsDirect shapes None = Unit {0}
FitsDirect shapes (Some counter) = IsCounterAt shapes counter

abbrev pub FitsTable : List objects.Shape → ReadyTable → Type 0
FitsTable shapes r = FitsDirect shapes r.direct
