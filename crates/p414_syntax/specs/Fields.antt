-- What instances and fields a name stands for, and how wide they are (P4_14 1.0.5, "Headers and Fields", "Standard
-- Intrinsic Metadata").
use Rattle.std.specs.Prelude.{ℕ, Bool, true, false, ◌||◌, if◌then◌else◌, List, map, filter_map, sum_by, slice_get, Option, Some, None, option_and_then, option_map}
use Rattle.std.specs.List.{list_any}
use Rattle.std.specs.Option.{option_map_or}
use Rattle.p414_syntax.specs.declared.lexeme.Literal.{Literal}
use Rattle.p414_syntax.specs.declared.parts.Ref.{Ref}
use Rattle.p414_syntax.specs.declared.headers.FieldWidth.{FieldWidth}
use Rattle.p414_syntax.specs.declared.headers.FieldWidth.TheVariants.{Bits, Rest}
use Rattle.p414_syntax.specs.declared.headers.Field.{Field}
use Rattle.p414_syntax.specs.declared.syntax.Decl.{Decl}
use Rattle.p414_syntax.specs.declared.syntax.Decl.TheVariants as decl
use Rattle.p414_syntax.specs.declared.syntax.Sort.TheVariants as sort
use Rattle.p414_syntax.specs.Views.{HeaderTypeTree}
use Rattle.p414_syntax.specs.Names.{Name, find_name, field_name, number_of, declaration_of, is_declared}
use Rattle.p414_syntax.specs.Primitives.{is_standard, standard_width}

-- the header types of a program, in order, and the one with a name
abbrev pub header_type_in : Decl → Option HeaderTypeTree
header_type_in (decl.HeaderType x) = Some x
header_type_in _ = None

abbrev pub types : List Decl → List HeaderTypeTree
types ds = filter_map header_type_in ds

abbrev pub type_of : List Decl → Name → Option HeaderTypeTree
type_of ds name = option_and_then (slice_get (types ds)) (number_of sort.HeaderType ds name)

-- the name of the type of an instance, and the number of elements of a stack
abbrev pub type_name_in : Decl → Option Name
type_name_in (decl.Header x) = Some x.header_type
type_name_in (decl.Metadata x) = Some x.header_type
type_name_in _ = None

abbrev pub size_in : Decl → Option Literal
size_in (decl.Header x) = x.size
size_in _ = None

abbrev pub is_header_in : Decl → Bool
is_header_in (decl.Header x) = true
is_header_in _ = false

-- the instance with this name
abbrev pub instance_of : List Decl → Name → Option Decl
instance_of ds name = declaration_of sort.Instance ds name

-- an instance has the name; every program has `standard_metadata`
abbrev pub is_instance : List Decl → Name → Bool
is_instance ds name = is_standard name || is_declared sort.Instance ds name

-- the instance with this name is a header or a header stack
abbrev pub is_header : List Decl → Name → Bool
is_header ds name = option_map_or is_header_in (instance_of ds name) false

-- the number of elements of the stack with this name
abbrev pub stack_size : List Decl → Name → Option Literal
stack_size ds name = option_and_then size_in (instance_of ds name)

-- the type of the instance with this name; that of `standard_metadata` isn't declared
abbrev pub instance_type : List Decl → Name → Option HeaderTypeTree
instance_type ds name = option_and_then (type_of ds) (option_and_then type_name_in (instance_of ds name))

-- the bits of a field; a field of width `*` counts as 0
abbrev pub bits_of : FieldWidth → ℕ
bits_of (Bits n) = n.value
bits_of Rest = 0

abbrev pub field_bits : Field → ℕ
field_bits f = bits_of f.width

-- the field of this name, and its bits
abbrev pub field_in : HeaderTypeTree → Name → Option Field
field_in t name = option_and_then (slice_get t.fields) (find_name (map field_name t.fields) name)

abbrev pub width_in : HeaderTypeTree → Name → Option ℕ
width_in t name = option_map field_bits (field_in t name)

-- the bits of the field of this name in a header type, if it has one
abbrev pub width_in_type : List Decl → Name → Name → Option ℕ
width_in_type ds header_type field = option_and_then (λ t. width_in t field) (type_of ds header_type)

-- the bits of the field of this name in an instance, if it has one
abbrev pub width_of : List Decl → Name → Name → Option ℕ
width_of ds instance field =
    if is_standard instance then standard_width field
    else option_and_then (λ t. width_in t field) (instance_type ds instance)

-- the bits of the field that a reference names, if there is one
abbrev pub ref_width : List Decl → Ref → Option ℕ
ref_width ds r = width_of ds r.instance.name r.field

-- the bits of a header type together, and whether one of its fields has the width `*`
abbrev pub type_bits : HeaderTypeTree → ℕ
type_bits t = sum_by field_bits t.fields

abbrev pub is_rest : FieldWidth → Bool
is_rest (Bits n) = false
is_rest Rest = true

abbrev pub is_rest_field : Field → Bool
is_rest_field f = is_rest f.width

abbrev pub has_rest : HeaderTypeTree → Bool
has_rest t = list_any is_rest_field t.fields
