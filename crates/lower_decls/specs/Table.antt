-- What the rows of instances mean (this project's own; P4_14 1.0.5, "Header and Metadata Instances"; P4_16 1.2, "Struct types",
-- "Header types", "Header stacks").
use Rattle.std.specs.Prelude.{ℕ, List, map, Option, Some, None}
use Rattle.p414_syntax.specs.declared.lexeme.Literal.{Literal}
use Rattle.p414_syntax.specs.declared.headers.Field.{Field}
use Rattle.p414_syntax.specs.declared.headers.Header.{Header}
use Rattle.p414_syntax.specs.declared.headers.Metadata.{Metadata}
use Rattle.p414_syntax.specs.declared.syntax.Decl.{Decl}
use Rattle.p414_syntax.specs.declared.syntax.Sort.TheVariants as sort
use Rattle.p414_syntax.specs.Names.{Name}
use Rattle.p414_syntax.specs.Fields.{field_bits}
use Rattle.p414_syntax.specs.Totals.{elements_of}
use Rattle.agreement_of_meanings.specs.Shown.{NamedField, Shown, as_header, as_stack, as_metadata}
use Rattle.lower_laws_names.specs.Made.{called}
use Rattle.lower_laws_names.specs.NewNames.{field_thing, new_name, struct_thing}
use Rattle.lower_laws_names.specs.Instances.{named_fields, shown_header}
use Rattle.lower_laws_names.specs.Types.{Member}
use Rattle.lower_rows.specs.declared.instances.FieldRow.{FieldRow}
use Rattle.lower_rows.specs.declared.instances.InstanceRow.{InstanceRow}
use Rattle.lower_rows.specs.declared.instances.Form.{Form}
use Rattle.lower_rows.specs.declared.instances.Form.TheVariants as form
use Rattle.lower_rows.specs.Named.{instance_shown}
use Rattle.lower_decls.specs.declared.rows.MemberRow.{MemberRow}

-- a field with this number, under its new name
abbrev pub field_named : ℕ → Field → NamedField
field_named number f = record { called = called (field_thing number f.name); width = field_bits f }

-- an instance by its number, with the new name of its type
abbrev pub member_in : MemberRow → Member
member_in r =
    record { number = r.number; shown = instance_shown r.instance; type = r.type_called; size = r.instance.size }

-- a header, or a stack where its size is written
abbrev pub form_of : Option Literal → Form
form_of None = form.Header
form_of (Some size) = form.Stack

-- the instance with this number
abbrev pub header_in : List Decl → ℕ → Header → Member
header_in ds k x = record {
  number = k;
  shown = shown_header ds x.header_type x.name x.size;
  type = new_name ds sort.HeaderType x.header_type;
  size = elements_of x.size;
}

-- the same of metadata, with its number among the metadata
abbrev pub metadata_in : List Decl → ℕ → ℕ → Metadata → Member
metadata_in ds k m x = record {
  number = k;
  shown = as_metadata (new_name ds sort.Instance x.name) (named_fields ds x.header_type);
  type = called (struct_thing m x.header_type);
  size = 1;
}
