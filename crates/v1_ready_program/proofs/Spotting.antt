-- An element has no stack in it.
use Rattle.std.proofs.Common.{◌≡◌, Some, None, List, refl}
use Rattle.p416_syntax.specs.Scopes.{Layout}
use Rattle.v1_core.specs.Seats.{Form, slot_form, header_form, stack_form, struct_form, no_form, Seat}
use Rattle.v1_core.specs.declared.node.Which.{Which}
use Rattle.v1_ready_forms.specs.Spots.{Told, told_spot}

pub told_once : (types : List Layout) (which : Which) (x : Seat) (t : Told) → None ≡ told_spot types which (record { seat = x; told = Some t })
told_once types which x t = by x.form where
  by : (form : Form) → None ≡ told_spot types which (record { seat = record x { form = form }; told = Some t })
  by (slot_form of) = refl
  by (header_form type) = refl
  by (stack_form type size) = refl
  by (struct_form type) = refl
  by no_form = refl
