-- What stands around the statements of a block: its actions, its tables and the objects by their numbers, and the slots of
-- standard metadata that externs use (P4_16 1.2, "Name resolution"; `v1model.p4`; the numbers are this project's own).
use Rattle.std.specs.Prelude.{ℕ, suc, ◌+◌, List, [], ◌∷◌, length, filter_map, if◌then◌else◌, Option, Some, None}
use Rattle.std.specs.Str.{bytes_eq}
use Rattle.p416_syntax.specs.declared.controls.Action16.{Action16}
use Rattle.p416_syntax.specs.declared.controls.Table16.{Table16}
use Rattle.p416_syntax.specs.declared.controls.Local.{Local}
use Rattle.p416_syntax.specs.declared.controls.Local.TheVariants as local
use Rattle.p416_syntax.specs.declared.program.Syntax16.{Syntax16}
use Rattle.p416_syntax.specs.Tree.{Exp16}
use Rattle.p416_syntax.specs.Names.{Name}
use Rattle.p416_syntax.specs.Scopes.{Scope}
use Rattle.p416_syntax.specs.Declarations.{table_in}
use Rattle.v1_core.specs.Values.{to_member}
use Rattle.v1_core.specs.Slots.{the_standard, the_variable, part_with, local_kinds}
use Rattle.v1_core.specs.Signatures.{object_number, plane_of_object}
use Rattle.v1_core.specs.Expressions.{name_in}
use Rattle.v1_core.specs.Seats.{Form, slot_form, Seat}
use Rattle.v1_core.specs.Programs.{owner_seat, part_seat}
use Rattle.v1_ready_forms.specs.Named.{NamedSeat, named_seat}

-- an action, with the number of its first parameter among all variables and parameters of the program
pub record ActionPlace : Type 0 where
  pub of : Action16
  pub first : ℕ

-- those of a control, of whose declarations the first variable or parameter has this number
abbrev pub action_places : Scope → ℕ → List Local → List ActionPlace
action_places s n [] = []
action_places s n (local.Action a ∷ locals) =
    record { of = a; first = n } ∷ action_places s (n + length (local_kinds s (local.Action a))) locals
action_places s n (x ∷ locals) = action_places s (n + length (local_kinds s x)) locals

-- A block: for a parser nothing is declared but variables, which have their seats.
pub record Around : Type 0 where
  pub syntax : Syntax16
  pub locals : List Local
  pub actions : List ActionPlace

-- an action with its number among those of the block
pub record Found : Type 0 where
  pub number : ℕ
  pub place : ActionPlace

abbrev pub found_from : ℕ → List ActionPlace → Name → Option Found
found_from n [] text = None
found_from n (a ∷ actions) text =
    if bytes_eq a.of.name text then Some (record { number = n; place = a }) else found_from (suc n) actions text

abbrev pub action_found : Around → Name → Option Found
action_found b text = found_from 0 b.actions text

-- a table by its number among those of the block
abbrev pub number_of_table : ℕ → List Table16 → Name → Option ℕ
number_of_table n [] text = None
number_of_table n (t ∷ tables) text = if bytes_eq t.name text then Some n else number_of_table (suc n) tables text

abbrev pub table_found : Around → Name → Option ℕ
table_found b text = number_of_table 0 (filter_map table_in b.locals) text

-- the number of an object in the signature
abbrev pub object_found : Around → Exp16 → ℕ
object_found b e = object_number b.syntax (plane_of_object b.syntax.decls b.locals (name_in e))

-- seats

abbrev pub variable_seat : Around → ℕ → Option Seat
variable_seat b number = owner_seat b.syntax (the_variable number)

-- a variable that is declared behind others
abbrev pub declared_seat : Around → Name → ℕ → List NamedSeat → List NamedSeat
declared_seat b called number seats = named_seat called (variable_seat b number) ∷ seats

abbrev pub slot_of_seat : Option Seat → Option ℕ
slot_of_seat None = None
slot_of_seat (Some t) = of t.form
  where
    of : Form → Option ℕ
    of (slot_form c) = Some t.start.slot
    of _ = None

-- the slot of a field of standard metadata
abbrev pub standard_slot : Around → Name → Option ℕ
standard_slot b word = slot_of_seat (part_seat b.syntax (part_with the_standard (to_member word ∷ [])))
