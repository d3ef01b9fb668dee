-- What is written for the rows of a parser, which tell instances and fields by number (this project's own; P4_16 1.2, "Packet
-- parsing").
use Rattle.std.specs.Prelude.{ℕ, ◌+◌, List, [], ◌∷◌, map, Option, Some, None, codes}
use Rattle.p414_sem.specs.Operations.{field}
use Rattle.p414_slots.specs.Shown.{slot_in}
use Rattle.p414_ready_parser.specs.declared.rows.ReadyValue.{ReadyValue}
use Rattle.p414_ready_parser.specs.declared.rows.ReadyValue.TheVariants as ready_value
use Rattle.p414_ready_parser.specs.declared.rows.ReadyStatement.{ReadyStatement}
use Rattle.p414_ready_parser.specs.declared.rows.ReadyStatement.TheVariants as ready_statement
use Rattle.p414_ready_parser.specs.declared.rows.SelectPart.{SelectPart}
use Rattle.p414_ready_parser.specs.declared.rows.ReadyEnd.{ReadyEnd}
use Rattle.p414_ready_parser.specs.declared.rows.ReadyEnd.TheVariants as ready_end
use Rattle.p414_ready_parser.specs.declared.rows.InitialRow.{InitialRow}
use Rattle.p416_syntax.specs.declared.node.BinaryOperator.TheVariants.{Concatenate}
use Rattle.p416_syntax.specs.declared.parts.Type16.TheVariants.{Bit}
use Rattle.p416_syntax.specs.declared.parsers.Target.{Target}
use Rattle.p416_syntax.specs.declared.parsers.Transition.TheVariants as transition
use Rattle.p416_syntax.specs.declared.parsers.State.{State}
use Rattle.p416_syntax.specs.Tree.{Exp16, literal, name, member, call, lookahead, binary, no_arguments, argument, Stmt16, no_statements, then, assign, expression}
use Rattle.p416_syntax.specs.Names.{Name}
use Rattle.agreement_of_meanings.specs.Shown.{NamedField, fields_of, field_at, shown_at}
use Rattle.lower_laws_base.specs.Context.{Words, now}
use Rattle.lower_laws_base.specs.Mirror.{plain, sized, instance_exp, element_exp, slot_exp, width_in, resized, source_exp}
use Rattle.lower_laws_actions.specs.Mirror.{behind_stmts}
use Rattle.lower_laws_program.specs.Program.{packet_called}

-- What is extracted, or what was: an element, or where none is fixed the stack's `next`, or `last`.
abbrev pub row_part : Words → Name → ℕ → Option ℕ → Exp16
row_part w word instance None = member (instance_exp w now (shown_at w.names.instances instance)) word
row_part w word instance (Some element) = element_exp w now (shown_at w.names.instances instance) element

-- a field of an instance
abbrev pub row_field : Words → ℕ → ℕ → NamedField
row_field w instance j = field_at (fields_of (shown_at w.names.instances instance)) j

-- Values, as so many bits; `element` is the element that was extracted last, none where it is the stack's last one.

-- so many bits from where parsing stands
abbrev pub ahead : ℕ → Exp16
ahead bits = lookahead (name packet_called) (Bit (plain bits)) no_arguments

-- a value at a width
abbrev pub row_value : Words → Option ℕ → ℕ → ReadyValue → Exp16
row_value w element width (ready_value.Current offset bits) = resized bits width (resized (offset + bits) bits (ahead (offset + bits)))
row_value w element width (ready_value.Latest instance j) =
    resized (row_field w instance j).width width (member (row_part w (codes "last") instance element) (row_field w instance j).called)
row_value w element width (ready_value.Field slot) = source_exp w now width (field (slot_in slot))
row_value w element width (ready_value.Number n) = literal (sized width n)

-- statements

-- an extraction
abbrev pub extraction : Exp16 → Stmt16
extraction e = expression (call (member (name packet_called) (codes "extract")) (argument no_arguments e))

-- a statement
abbrev pub row_stmt : Words → Option ℕ → ReadyStatement → Stmt16
row_stmt w element (ready_statement.Extract instance fixed bits) = extraction (row_part w (codes "next") instance fixed)
row_stmt w element (ready_statement.Set slot width v) = assign (slot_exp w now (slot_in slot)) (row_value w element width v)

-- the element that was extracted last, behind a statement
abbrev pub element_behind : Option ℕ → ReadyStatement → Option ℕ
element_behind element (ready_statement.Extract instance fixed bits) = fixed
element_behind element (ready_statement.Set slot width v) = element

-- statements, and behind them those of these rows
abbrev pub rows_behind : Words → Option ℕ → Stmt16 → List ReadyStatement → Stmt16
rows_behind w element x [] = x
rows_behind w element x (row ∷ rows) = rows_behind w (element_behind element row) ((then) x (row_stmt w element row)) rows

-- the element that was extracted last, behind statements
abbrev pub element_of : Option ℕ → List ReadyStatement → Option ℕ
element_of element [] = element
element_of element (row ∷ rows) = element_of (element_behind element row) rows

-- the key of a select: all values joined

-- a value of a key at its width
abbrev pub row_key_part : Words → Option ℕ → SelectPart → Exp16
row_key_part w element part = row_value w element part.width part.value

-- what is joined behind an expression
abbrev pub row_key_from : Words → Option ℕ → Exp16 → List SelectPart → Exp16
row_key_from w element e [] = e
row_key_from w element e (part ∷ parts) = row_key_from w element (binary Concatenate e (row_key_part w element part)) parts

-- the key of a select
abbrev pub row_key : Words → Option ℕ → List SelectPart → Exp16
row_key w element [] = no_arguments
row_key w element (part ∷ parts) = row_key_from w element (row_key_part w element part) parts

-- the values that a select joins; none where a state ends without one
abbrev pub parts_in : ReadyEnd → List SelectPart
parts_in (ready_end.Select parts rows) = parts
parts_in (ready_end.To to) = []

-- the initial values of metadata

-- the assignment of an initial value
abbrev pub row_initial : Words → InitialRow → Stmt16
row_initial w row = assign (slot_exp w now (slot_in row.slot)) (literal (sized (width_in w (slot_in row.slot)) row.value))

-- the state in front of all others, which leads to where parsing begins
abbrev pub row_start : Words → List InitialRow → Target → State
row_start w rows to = record {
  name = codes "start";
  body = behind_stmts no_statements (map (row_initial w) rows);
  transition = transition.Go to;
}

-- it stands there where there are initial values
abbrev pub row_front : Words → List InitialRow → Target → List State
row_front w [] to = []
row_front w (row ∷ rows) to = row_start w (row ∷ rows) to ∷ []
