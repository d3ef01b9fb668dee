-- What is assigned to an l-value, where tables have these numbers: as `assigned_to` and `assignment_ready` of v1_ready_statements, which
-- ask the block for these numbers alone.
use Rattle.std.specs.Prelude.{ℕ, List, Option, option_map, option_and_then}
use Rattle.p416_syntax.specs.Tree.{Exp16}
use Rattle.p416_syntax.specs.Names.{Name}
use Rattle.p416_syntax.specs.Scopes.{Scope}
use Rattle.p416_syntax.specs.Calls.{Place}
use Rattle.p416_syntax.specs.Expressions.{kind_of}
use Rattle.p416_syntax.specs.Statements.{assigned_place}
use Rattle.v1_core.specs.Seats.{Form, slot_form}
use Rattle.v1_ready_forms.specs.Named.{NamedSeat}
use Rattle.v1_ready_blocks.specs.Statements.{Deed, Statement, does}
use Rattle.v1_place_laws.specs.Places.{Meant, meant_by, slot_place_of}
use Rattle.v1_ready_statements.specs.Targets.{parts_meant}
use Rattle.v1_ready_statements.specs.Tested.{ready_test, ready_source}
use Rattle.v1_ready_statements.specs.Statements.{assigns, assigns_parts}

abbrev pub assigned_by : Scope → List NamedSeat → (Name → Option ℕ) → Place → Exp16 → Meant → Option Deed
assigned_by s seats tables p e x = of x.spot.seat.form
  where
    of : Form → Option Deed
    of (slot_form content) = assigns x.slice (slot_place_of x.spot) (ready_test s seats tables p e)
    of _ = assigns_parts (parts_meant s.layouts x) (ready_source s seats tables e)

abbrev pub assignment_by : Scope → List NamedSeat → (Name → Option ℕ) → Exp16 → Exp16 → Option Statement
assignment_by s seats tables target e =
    option_map does
    (option_and_then (assigned_by s seats tables (assigned_place (kind_of s target)) e) (meant_by s seats target))
