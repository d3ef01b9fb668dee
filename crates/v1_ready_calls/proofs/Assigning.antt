-- Of a block an assignment asks for the numbers of its tables alone.
use Rattle.std.proofs.Common.{◌≡◌, List, refl, ap}
use Rattle.std.proofs.Math.Path.{fun_ext}
use Rattle.std.specs.Prelude.{option_map, option_and_then}
use Rattle.p416_syntax.specs.Tree.{Exp16}
use Rattle.p416_syntax.specs.Scopes.{Scope}
use Rattle.p416_syntax.specs.Calls.{Place}
use Rattle.p416_syntax.specs.Expressions.{kind_of}
use Rattle.p416_syntax.specs.Statements.{assigned_place}
use Rattle.v1_core.specs.Seats.{Form, slot_form, header_form, stack_form, struct_form, no_form}
use Rattle.v1_ready_forms.specs.Named.{NamedSeat}
use Rattle.v1_ready_blocks.specs.Statements.{does}
use Rattle.v1_place_laws.specs.Places.{Meant, meant_by}
use Rattle.v1_ready_statements.specs.Around.{Around, table_found}
use Rattle.v1_ready_statements.specs.Statements.{assigned_to, assignment_ready}
use Rattle.v1_ready_calls.specs.Assigned.{assigned_by, assignment_by}

pub assigned_in : (b : Around) (s : Scope) (seats : List NamedSeat) (p : Place) (e : Exp16) (x : Meant) → assigned_by s seats (table_found b) p e x ≡ assigned_to b s seats p e x
assigned_in b s seats p e x = by x.spot.seat.form where
  by : (form : Form) → (let y : Meant = record x { spot = record x.spot { seat = record x.spot.seat { form = form } } } in assigned_by s seats (table_found b) p e y ≡ assigned_to b s seats p e y)
  by (slot_form content) = refl
  by (header_form type) = refl
  by (stack_form type size) = refl
  by (struct_form type) = refl
  by no_form = refl

pub assignment_in : (b : Around) (s : Scope) (seats : List NamedSeat) (target e : Exp16) → assignment_by s seats (table_found b) target e ≡ assignment_ready b s seats target e
assignment_in b s seats target e =
    ap (λ f. option_map does (option_and_then f (meant_by s seats target))) (fun_ext (λ x. assigned_in b s seats (assigned_place (kind_of s target)) e x))
