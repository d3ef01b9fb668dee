-- Where the fields of an instance are found.
use Rattle.std.specs.Prelude.{◌≡◌, ℕ, List, length, map, slice_get, slice_index, sum, Option, Some, None, option_and_then, unwrap_or, if◌then◌else◌}
use Rattle.std.specs.Option.{option_map_or}
use Rattle.p414_syntax.specs.declared.parts.Index.{Index}
use Rattle.p414_syntax.specs.declared.parts.Ref.{Ref}
use Rattle.p414_syntax.specs.declared.syntax.Decl.{Decl}
use Rattle.p414_syntax.specs.declared.syntax.Sort.TheVariants as sort
use Rattle.p414_syntax.specs.Views.{HeaderTypeTree}
use Rattle.p414_syntax.specs.Primitives.{is_standard}
use Rattle.p414_syntax.specs.Names.{Name, find_name, names_in, number_of}
use Rattle.p414_syntax.specs.Expansion.{type_fields}
use Rattle.p414_syntax.specs.Fields.{instance_of, type_name_in, types}
use Rattle.p414_sem.specs.declared.standard.Standard.{Standard}
use Rattle.p414_sem.specs.Packing.{type_widths}
use Rattle.p414_sem.specs.Slots.{Slot, standard, declared_slot, standard_field}

-- the bits that the fields of a header type have together
abbrev pub bits_together : HeaderTypeTree → ℕ
bits_together t = sum (type_widths t)

-- the fields of each header type and their bits together, and the names of all instances
pub record AreFound (ds : List Decl) (of_types : List (List Name)) (bits : List ℕ) (of_instances : List Name) : Type 0 where
  pub fields : of_types ≡ map type_fields (types ds)
  pub bits_are : bits ≡ map bits_together (types ds)
  pub instances : of_instances ≡ names_in sort.Instance ds

-- the name of the type of an instance
abbrev pub type_named : List Decl → Name → Option Name
type_named ds instance = option_and_then type_name_in (instance_of ds instance)

-- the fields of an instance, if it has a type
abbrev pub fields_at : List Decl → List (List Name) → Name → Option (List Name)
fields_at ds fields instance =
    option_and_then (slice_get fields) (option_and_then (number_of sort.HeaderType ds) (type_named ds instance))

-- the bits of the fields of an instance together, by those of all types; 0 where it has no type
abbrev pub bits_by : List ℕ → Option ℕ → ℕ
bits_by bits o = option_map_or (slice_index bits) o 0

abbrev pub type_number : List Decl → Name → Option ℕ
type_number ds instance = option_and_then (number_of sort.HeaderType ds) (type_named ds instance)

-- the number of a name among these, or how many there are
abbrev pub number_among : List Name → Name → ℕ
number_among names name = unwrap_or (find_name names name) (length names)

-- the field of standard metadata with these names, if it is one
abbrev pub standard_named : Name → Name → Option Standard
standard_named instance field = if is_standard instance then standard_field field else None

-- the number of a field of an instance, by the fields of all types; 0 where it has no type
abbrev pub number_in : List Decl → List (List Name) → Name → Name → ℕ
number_in ds fields instance field =
    option_map_or (λ (names : List Name). number_among names field) (fields_at ds fields instance) 0

-- where the field stands that a reference names: one of standard metadata, or one that is declared

abbrev pub slot_by : Option Standard → Slot → Slot
slot_by (Some which) other = standard which
slot_by None other = other

abbrev pub ref_to : Name → Option Index → Name → Ref
ref_to instance index field =
    record { instance = record { name = instance; index = index }; field = field }

abbrev pub slot_found : List Decl → Ref → Slot
slot_found ds r = slot_by (standard_named r.instance.name r.field) (declared_slot ds r)
