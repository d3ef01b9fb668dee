-- What rows are like so that each number in them is kept as the layout and 128 bits keep it. What isn't there reads 0 and
-- gets nothing, so nothing is asked of names.
use Rattle.std.specs.Prelude.{◌≡◌, ℕ, ◌^◌, ◌<◌, ◌≤◌, List, Option, None, All}
use Rattle.p414_layout.specs.declared.shape.Shape.{Shape}
use Rattle.p414_layout.specs.Placed.{total}
use Rattle.p414_layout.specs.Shapes.{shape_at, element_count, last_place}
use Rattle.p414_slots.specs.declared.slot.FieldSlot.{FieldSlot}
use Rattle.p414_slots.specs.declared.slot.FieldSlot.TheVariants as by_number
use Rattle.p414_state.specs.Packets.{width_at, standard_bits}
use Rattle.p414_ready_parser.specs.declared.rows.ReadyValue.{ReadyValue}
use Rattle.p414_ready_parser.specs.declared.rows.ReadyValue.TheVariants as ready_value
use Rattle.p414_ready_parser.specs.declared.rows.ReadyStatement.{ReadyStatement}
use Rattle.p414_ready_parser.specs.declared.rows.ReadyStatement.TheVariants as ready_statement
use Rattle.p414_ready_parser.specs.declared.rows.SelectPart.{SelectPart}
use Rattle.p414_ready_parser.specs.declared.rows.ReadyEnd.{ReadyEnd}
use Rattle.p414_ready_parser.specs.declared.rows.ReadyEnd.TheVariants as ready_end
use Rattle.p414_ready_parser.specs.declared.rows.ReadyState.{ReadyState}
use Rattle.p414_ready_parser.specs.declared.rows.InitialRow.{InitialRow}
use Rattle.p414_ready_parser.specs.declared.parser.ReadyParser.{ReadyParser}
use Rattle.p414_ready_parser.specs.Rows.{key_bits}

-- the bits of a field; 0 where it isn't there
abbrev pub bits_at : List Shape → FieldSlot → ℕ
bits_at layout (by_number.Standard field) = standard_bits field
bits_at layout (by_number.Declared instance element field) = width_at layout instance field

-- 128 bits hold a value
abbrev pub FitsValue : ReadyValue → Type 0
FitsValue (ready_value.Current offset width) = width ≤ 128
FitsValue _ = Unit {0}

-- what is extracted has the bits of its fields, and the next element is asked for of a stack alone
pub record FitsExtract (layout : List Shape) (instance : ℕ) (fixed : Option ℕ) (bits : ℕ) : Type 0 where
  pub whole : bits ≡ total (shape_at layout instance).widths
  pub next : fixed ≡ None → element_count (shape_at layout instance) ≤ last_place (shape_at layout instance)

-- what is written has the bits of its field
abbrev pub FitsStatement : List Shape → ReadyStatement → Type 0
FitsStatement layout (ready_statement.Extract instance fixed bits) = FitsExtract layout instance fixed bits
FitsStatement layout (ready_statement.Set slot width value) = (width ≡ bits_at layout slot) × FitsValue value

-- 128 bits hold each value of a select and all of them joined
abbrev pub FitsPart : SelectPart → Type 0
FitsPart p = FitsValue p.value

abbrev pub FitsEnd : ReadyEnd → Type 0
FitsEnd (ready_end.Select parts rows) = All FitsPart parts × (key_bits parts ≤ 128)
FitsEnd (ready_end.To next) = Unit {0}

pub record FitsState (layout : List Shape) (r : ReadyState) : Type 0 where
  pub statements : All (FitsStatement layout) r.statements
  pub end : FitsEnd r.end

abbrev pub FitsInitial : List Shape → InitialRow → Type 0
FitsInitial layout i = i.value < 2 ^ bits_at layout i.slot

pub record FitsParser (layout : List Shape) (r : ReadyParser) : Type 0 where
  pub initials : All (FitsInitial layout) r.initials
  pub states : All (FitsState layout) r.states
