-- The new names of the fields of all instances (this project's own; P4_14 1.0.5, "Header Type Declarations", "Header and Metadata Instances").
use Rattle.std.specs.Prelude.{ℕ, ◌+◌, List, [], ◌∷◌, ◌++◌, Option, Some, None}
use Rattle.std.specs.Option.{option_map_or}
use Rattle.p414_syntax.specs.declared.headers.Field.{Field}
use Rattle.p414_syntax.specs.declared.syntax.Decl.{Decl}
use Rattle.p414_syntax.specs.Views.{HeaderTypeTree}
use Rattle.p414_syntax.specs.Fields.{type_name_in, type_of}
use Rattle.p414_syntax.specs.Names.{Name}
use Rattle.lower_laws_names.specs.Made.{called}
use Rattle.lower_laws_names.specs.NewNames.{field_thing}
use Rattle.lower_names.specs.declared.fields.FieldName.{FieldName}

-- the fields of the header type of this name
abbrev pub fields_named : List Decl → Name → List Field
fields_named ds type = option_map_or (λ (t : HeaderTypeTree). t.fields) (type_of ds type) []

-- the new names of the fields of an instance, of which the first has this number
abbrev pub field_names_from : ℕ → ℕ → List Field → List FieldName
field_names_from instance number [] = []
field_names_from instance number (f ∷ fields) =
    record { instance = instance; field = number; name = called (field_thing number f.name) }
    ∷ field_names_from instance (number + 1) fields

-- those of an instance of a type, if there is one, and those that follow, of which the first instance has a number
abbrev pub names_by : List Decl → ℕ → Option Name → (ℕ → List FieldName) → List FieldName
names_by ds instance (Some type) rest = field_names_from instance 0 (fields_named ds type) ++ rest (instance + 1)
names_by ds instance None rest = rest instance

-- those of the instances among these declarations, of which the first has this number
abbrev pub instance_names_from : List Decl → ℕ → List Decl → List FieldName
instance_names_from ds instance [] = []
instance_names_from ds instance (d ∷ es) = names_by ds instance (type_name_in d) (λ k. instance_names_from ds k es)

-- the new names of the fields of all instances
abbrev pub new_field_names : List Decl → List FieldName
new_field_names ds = instance_names_from ds 0 ds
