-- What stands by number in the rows of a parser is in the table (this project's own).
use Rattle.std.specs.Prelude.{ℕ, ◌<◌, length, List, [], ◌∷◌}
use Rattle.p414_slots.specs.Shown.{slot_in}
use Rattle.p414_ready_parser.specs.declared.rows.ReadyValue.{ReadyValue}
use Rattle.p414_ready_parser.specs.declared.rows.ReadyValue.TheVariants as ready_value
use Rattle.p414_ready_parser.specs.declared.rows.ReadyStatement.{ReadyStatement}
use Rattle.p414_ready_parser.specs.declared.rows.ReadyStatement.TheVariants as ready_statement
use Rattle.p414_ready_parser.specs.declared.rows.SelectPart.{SelectPart}
use Rattle.p414_ready_parser.specs.declared.rows.ReadyState.{ReadyState}
use Rattle.p414_ready_parser.specs.declared.rows.InitialRow.{InitialRow}
use Rattle.agreement_of_meanings.specs.Shown.{fields_of, shown_at}
use Rattle.lower_laws_base.specs.Context.{Words}
use Rattle.lower_expressions.specs.Has.{SlotHas}
use Rattle.lower_parser.specs.Rows.{parts_in}

-- an instance is in the table
abbrev pub InstanceHas : Words → ℕ → Type 0
InstanceHas w instance = instance < length w.names.instances

-- a field of an instance is in the table
abbrev pub FieldHas : Words → ℕ → ℕ → Type 0
FieldHas w instance field = (instance < length w.names.instances) × (field < length (fields_of (shown_at w.names.instances instance)))

-- what a value names is in the table
abbrev pub ValueHas : Words → ReadyValue → Type 0
ValueHas w (ready_value.Current offset bits) = Unit {0}
ValueHas w (ready_value.Latest instance field) = FieldHas w instance field
ValueHas w (ready_value.Field slot) = SlotHas w (slot_in slot)
ValueHas w (ready_value.Number n) = Unit {0}

-- what a statement names is in the table
abbrev pub StatementHas : Words → ReadyStatement → Type 0
StatementHas w (ready_statement.Extract instance fixed bits) = InstanceHas w instance
StatementHas w (ready_statement.Set slot width v) = SlotHas w (slot_in slot) × ValueHas w v

-- the same of statements
abbrev pub StatementsHave : Words → List ReadyStatement → Type 0
StatementsHave w [] = Unit {0}
StatementsHave w (row ∷ rows) = StatementHas w row × StatementsHave w rows

-- the same of the values of a key
abbrev pub PartsHave : Words → List SelectPart → Type 0
PartsHave w [] = Unit {0}
PartsHave w (part ∷ parts) = ValueHas w part.value × PartsHave w parts

-- the same of a state
pub record StateHas (w : Words) (row : ReadyState) : Type 0 where
  pub statements : StatementsHave w row.statements
  pub parts : PartsHave w (parts_in row.end)

-- the same of states
abbrev pub StatesHave : Words → List ReadyState → Type 0
StatesHave w [] = Unit {0}
StatesHave w (row ∷ rows) = StateHas w row × StatesHave w rows

-- the same of initial values
abbrev pub InitialsHave : Words → List InitialRow → Type 0
InitialsHave w [] = Unit {0}
InitialsHave w (row ∷ rows) = SlotHas w (slot_in row.slot) × InitialsHave w rows
