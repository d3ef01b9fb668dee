-- The tables that names are found in.
use Rattle.std.specs.Prelude.{◌≡◌, ℕ, Bool, true, false, if◌then◌else◌, List, [], map, filter, slice_get, option_and_then, Option, None, codes}
use Rattle.std.specs.Option.{option_map, option_map_or}
use Rattle.std.specs.Str.{bytes_eq}
use Rattle.p416_syntax.specs.declared.parts.BitField.{BitField}
use Rattle.p416_syntax.specs.declared.parts.StructField.{StructField}
use Rattle.p416_syntax.specs.declared.program.Decl16.{Decl16}
use Rattle.p416_syntax.specs.declared.program.Decl16.TheVariants as decl
use Rattle.name_numbers.specs.Names.{find_name}
use Rattle.p416_syntax.specs.Names.{Name}
use Rattle.p416_syntax.specs.Kinds.{Kind, bits, hash_algorithm, counter_type, meter_type, clone_type}
use Rattle.p416_syntax.specs.Scopes.{Sort, an_enumeration, Known, FieldKind, sort_in, kind_of_type, known, a_function}
use Rattle.p416_syntax.specs.BuiltIn.{functions, standard_layout}
use Rattle.p416_syntax.specs.Expressions.{field_kind_in}
use Rattle.p416_syntax.specs.Declarations.{top_name, top_names, bit_field, struct_field, field_name, member_name}
use Rattle.p416_syntax.specs.Unknown.{declared_name}

-- the built-in names, from the functions on, and from the enumerations on
abbrev pub function_behind : Name → Sort
function_behind text = sort_in (map (known a_function) functions) text

abbrev pub enumeration_behind : Name → Sort
enumeration_behind text =
    if bytes_eq (codes "HashAlgorithm") text then an_enumeration hash_algorithm else
    if bytes_eq (codes "CounterType") text then an_enumeration counter_type else
    if bytes_eq (codes "MeterType") text then an_enumeration meter_type else
    if bytes_eq (codes "CloneType") text then an_enumeration clone_type else
    function_behind text

-- the field of the standard metadata with this name
abbrev pub standard_field : Name → Option Kind
standard_field text = field_kind_in standard_layout.fields text

-- types and their fields

abbrev pub is_type : Decl16 → Bool
is_type (decl.Header h) = true
is_type (decl.Struct x) = true
is_type _ = false

abbrev pub field_names : Decl16 → List Name
field_names (decl.Header h) = map field_name h.fields
field_names (decl.Struct x) = map member_name x.fields
field_names _ = []

abbrev pub fields_of : List Known → Decl16 → List FieldKind
fields_of names (decl.Header h) = map bit_field h.fields
fields_of names (decl.Struct x) = map (struct_field names) x.fields
fields_of names _ = []

abbrev pub bits_of_field : BitField → Kind
bits_of_field f = bits f.width.value

abbrev pub kind_of_field : List Known → StructField → Kind
kind_of_field names f = kind_of_type names f.of

-- the field of a declaration at a place
abbrev pub kind_at : List Known → Decl16 → ℕ → Option Kind
kind_at names (decl.Header h) place = option_map bits_of_field (slice_get h.fields place)
kind_at names (decl.Struct x) place = option_map (kind_of_field names) (slice_get x.fields place)
kind_at names _ place = None

-- the field with this name of the type at a place
abbrev pub field_in : List Known → Name → Decl16 → Option Kind
field_in names text d = field_kind_in (fields_of names d) text

abbrev pub field_at : List Decl16 → ℕ → Name → Option Kind
field_at ds place text = option_and_then (field_in (top_names ds) text) (slice_get (filter is_type ds) place)

-- the fields of the type at a place
abbrev pub fields_at : List Decl16 → ℕ → List FieldKind
fields_at ds place = option_map_or (fields_of (top_names ds)) (slice_get (filter is_type ds) place) []

-- what the declaration at a place declares, and the first with this name
abbrev pub sort_of_decl : Decl16 → Sort
sort_of_decl d = (top_name d).sort

abbrev pub sort_at : List Decl16 → ℕ → Option Sort
sort_at ds place = option_map sort_of_decl (slice_get ds place)

abbrev pub declared_sort : List Decl16 → Name → Option Sort
declared_sort ds text = option_and_then (sort_at ds) (find_name (map declared_name ds) text)

-- the tables of a program
pub record AreTables (ds : List Decl16) (names types : List Name) (layouts : List Decl16) : Type 0 where
  pub names_are : names ≡ map declared_name ds
  pub types_are : types ≡ map declared_name (filter is_type ds)
  pub layouts_are : layouts ≡ filter is_type ds
