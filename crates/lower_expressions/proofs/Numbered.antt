-- What is read of the table by number.
use Rattle.std.proofs.Common.{◌≡◌, ℕ, ◌<◌, List, length, map, get_or, refl, sym}
use Rattle.std.proofs.lemmas.List.{get_or-map, get_or_default}
use Rattle.agreement_of_meanings.specs.Shown.{NamedField, fields_of, name_of, owner_of, field_at, no_field, nothing_shown, shown_at}
use Rattle.lower_laws_base.specs.Context.{object_at, no_object}
use Rattle.lower_rows.specs.declared.instances.FieldRow.{FieldRow}
use Rattle.lower_rows.specs.declared.instances.Form.{Form}
use Rattle.lower_rows.specs.declared.instances.Form.TheVariants as form
use Rattle.lower_rows.specs.declared.instances.InstanceRow.{InstanceRow}
use Rattle.lower_rows.specs.declared.objects.ObjectRow.{ObjectRow}
use Rattle.lower_rows.specs.declared.calculations.CalculationRow.{CalculationRow}
use Rattle.lower_rows.specs.Named.{named_field, shown_as, instance_shown, object_named, size_of_row}
use Rattle.lower_rows.specs.Calculations.{calculation_at, no_calculation_row}
use Rattle.lower_expressions.specs.Table.{owner_of_form}
use Rattle.std.specs.Prelude.{slice_index}

pub field_is : (fields : List FieldRow) (k : ℕ) (d : FieldRow) → k < length fields → named_field (get_or fields k d) ≡ field_at (map named_field fields) k
field_is fields k d lt = sym (get_or-map named_field fields k d no_field lt)

pub instance_is : (xs : List InstanceRow) (k : ℕ) (d : InstanceRow) → k < length xs → instance_shown (get_or xs k d) ≡ shown_at (map instance_shown xs) k
instance_is xs k d lt = sym (get_or-map instance_shown xs k d nothing_shown lt)

pub object_is : (xs : List ObjectRow) (k : ℕ) (d : ObjectRow) → k < length xs → object_named (get_or xs k d) ≡ object_at (map object_named xs) k
object_is xs k d lt = sym (get_or-map object_named xs k d no_object lt)

fields_as : (x : Form) (called : List ℕ) (fields : List NamedField) → fields_of (shown_as x called fields) ≡ fields
fields_as form.Header called fields = refl
fields_as form.Stack called fields = refl
fields_as form.Metadata called fields = refl

pub fields_are : (x : InstanceRow) → fields_of (instance_shown x) ≡ map named_field x.fields
fields_are x = fields_as x.form x.called (map named_field x.fields)

called_as : (x : Form) (called : List ℕ) (fields : List NamedField) → name_of (shown_as x called fields) ≡ called
called_as form.Header called fields = refl
called_as form.Stack called fields = refl
called_as form.Metadata called fields = refl

pub called_is : (x : InstanceRow) → name_of (instance_shown x) ≡ x.called
called_is x = called_as x.form x.called (map named_field x.fields)

owner_as : (x : Form) (called : List ℕ) (fields : List NamedField) → owner_of (shown_as x called fields) ≡ owner_of_form x
owner_as form.Header called fields = refl
owner_as form.Stack called fields = refl
owner_as form.Metadata called fields = refl

pub owner_is : (x : InstanceRow) → owner_of (instance_shown x) ≡ owner_of_form x.form
owner_is x = owner_as x.form x.called (map named_field x.fields)

pub calculation_is : (xs : List CalculationRow) (k : ℕ) (d : CalculationRow) → k < length xs → get_or xs k d ≡ calculation_at xs k
calculation_is xs k d lt = get_or_default xs k d no_calculation_row lt

pub size_is : (xs : List InstanceRow) (k : ℕ) (d : InstanceRow) → k < length xs → (get_or xs k d).size ≡ slice_index (map size_of_row xs) k
size_is xs k d lt = sym (get_or-map size_of_row xs k d 0 lt)
