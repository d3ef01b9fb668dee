-- Which instances, fields, objects and marks rows are (this project's own; P4_14 1.0.5, "Header and Metadata Instances").
use Rattle.std.specs.Prelude.{ℕ, ◌+◌, List, [], ◌∷◌, map, Option, Some, None}
use Rattle.p416_syntax.specs.Names.{Name}
use Rattle.p416_syntax.specs.Kinds.{ObjectKind, counter, direct_counter, register, meter}
use Rattle.agreement_of_meanings.specs.Shown.{NamedField, Shown, as_header, as_stack, as_metadata}
use Rattle.agreement_of_meanings.specs.Agrees.{Marked}
use Rattle.lower_laws_base.specs.Context.{ObjectName}
use Rattle.lower_rows.specs.declared.instances.FieldRow.{FieldRow}
use Rattle.lower_rows.specs.declared.instances.Form.{Form}
use Rattle.lower_rows.specs.declared.instances.Form.TheVariants as form
use Rattle.lower_rows.specs.declared.instances.InstanceRow.{InstanceRow}
use Rattle.lower_rows.specs.declared.objects.ObjectForm.{ObjectForm}
use Rattle.lower_rows.specs.declared.objects.ObjectForm.TheVariants as object
use Rattle.lower_rows.specs.declared.objects.ObjectRow.{ObjectRow}

-- a field by its new name, with its bits
abbrev pub named_field : FieldRow → NamedField
named_field f = record { called = f.called; width = f.width }

-- an instance by the form in which it stands
abbrev pub shown_as : Form → Name → List NamedField → Shown
shown_as form.Header called fields = as_header called fields
shown_as form.Stack called fields = as_stack called fields
shown_as form.Metadata called fields = as_metadata called fields

-- the instance that a row is
abbrev pub instance_shown : InstanceRow → Shown
instance_shown x = shown_as x.form x.called (map named_field x.fields)

-- how many elements it has
abbrev pub size_of_row : InstanceRow → ℕ
size_of_row x = x.size

-- the kind of an object
abbrev pub kind_of_form : ObjectForm → ObjectKind
kind_of_form object.Counter = counter
kind_of_form object.DirectCounter = direct_counter
kind_of_form object.Register = register
kind_of_form object.Meter = meter

-- the object that a row is
abbrev pub object_named : ObjectRow → ObjectName
object_named o = record { called = o.called; kind = kind_of_form o.form; width = o.width }

-- the lists that have a mark, of which the first row has this number
abbrev pub marked_lists : ℕ → List (Option ℕ) → List Marked
marked_lists list [] = []
marked_lists list (None ∷ rows) = marked_lists (list + 1) rows
marked_lists list (Some number ∷ rows) = record { list = list; number = number } ∷ marked_lists (list + 1) rows
