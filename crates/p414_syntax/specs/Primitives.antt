-- The primitive actions with what their arguments stand for, and standard metadata (P4_14 1.0.5, "Primitive Actions",
-- "Standard Intrinsic Metadata"; which of them are left out is this project's own).
use Rattle.std.specs.Prelude.{ℕ, Bool, ◌||◌, is_some, if◌then◌else◌, List, [], ◌∷◌, Option, Some, None, codes, unwrap_or}
use Rattle.std.specs.Str.{bytes_eq}
use Rattle.p414_syntax.specs.Names.{Name, has_name}
use Rattle.p414_syntax.specs.declared.place.ArgumentPlace.{ArgumentPlace}
use Rattle.p414_syntax.specs.declared.place.ArgumentPlace.TheVariants.{Target, Source, Unsigned, Header, Stack, Elements, Counter, Register, Meter, Calculation, List as AList}

-- primitives whose arguments have the same places
abbrev pub two_sources : List Name
two_sources =
    codes "add" ∷ codes "subtract" ∷ codes "bit_and" ∷ codes "bit_or" ∷ codes "bit_xor" ∷ codes "modify_field" ∷ []

abbrev pub shifts : List Name
shifts = codes "shift_left" ∷ codes "shift_right" ∷ []

abbrev pub one_source : List Name
one_source = codes "add_to_field" ∷ codes "subtract_from_field" ∷ []

abbrev pub one_header : List Name
one_header = codes "add_header" ∷ codes "remove_header" ∷ []

abbrev pub stack_moves : List Name
stack_moves = codes "push" ∷ codes "pop" ∷ []

abbrev pub without_arguments : List Name
without_arguments = codes "drop" ∷ codes "no_op" ∷ []

abbrev pub one_list : List Name
one_list = codes "resubmit" ∷ codes "recirculate" ∷ []

abbrev pub clones : List Name
clones =
    codes "clone_ingress_pkt_to_egress" ∷ codes "clone_i2e" ∷ codes "clone_egress_pkt_to_egress"
    ∷ codes "clone_e2e" ∷ []

abbrev pub hash : Name
hash = codes "modify_field_with_hash_based_offset"

-- What the arguments of a primitive stand for, in order. The mask of modify_field, the number of elements of push and
-- pop, and the lists of resubmit, recirculate and clones may be left out.
abbrev pub places_of : Name → Option (List ArgumentPlace)
places_of name =
    if has_name two_sources name then Some (Target ∷ Source ∷ Source ∷ [])
    else if has_name shifts name then Some (Target ∷ Unsigned ∷ Unsigned ∷ [])
    else if has_name one_source name then Some (Target ∷ Source ∷ [])
    else if has_name one_header name then Some (Header ∷ [])
    else if bytes_eq name (codes "copy_header") then Some (Header ∷ Header ∷ [])
    else if has_name stack_moves name then Some (Stack ∷ Elements ∷ [])
    else if bytes_eq name (codes "count") then Some (Counter ∷ Unsigned ∷ [])
    else if bytes_eq name (codes "register_read") then Some (Target ∷ Register ∷ Unsigned ∷ [])
    else if bytes_eq name (codes "register_write") then Some (Register ∷ Unsigned ∷ Source ∷ [])
    else if bytes_eq name (codes "execute_meter") then Some (Meter ∷ Unsigned ∷ Target ∷ [])
    else if bytes_eq name hash then Some (Target ∷ Unsigned ∷ Calculation ∷ Unsigned ∷ [])
    else if has_name without_arguments name then Some []
    else if has_name one_list name then Some (AList ∷ [])
    else if has_name clones name then Some (Unsigned ∷ AList ∷ [])
    else None

abbrev pub is_primitive : Name → Bool
is_primitive name = is_some (places_of name)

-- the primitives that are left out
abbrev pub left_out_primitives : List Name
left_out_primitives =
    codes "truncate" ∷ codes "modify_field_rng_uniform" ∷ codes "generate_digest"
    ∷ codes "clone_ingress_pkt_to_ingress" ∷ codes "clone_egress_pkt_to_ingress" ∷ codes "clone_i2i"
    ∷ codes "clone_e2i" ∷ []

-- a primitive, left out or not
abbrev pub is_any_primitive : Name → Bool
is_any_primitive name = is_primitive name || has_name left_out_primitives name

-- what the arguments of a primitive stand for; of one that is left out nothing is said
abbrev pub primitive_places : Name → List ArgumentPlace
primitive_places name = unwrap_or (places_of name) []

-- the instance that every program has
abbrev pub standard_metadata : Name
standard_metadata = codes "standard_metadata"

abbrev pub is_standard : Name → Bool
is_standard name = bytes_eq name standard_metadata

abbrev pub ports : List Name
ports = codes "ingress_port" ∷ codes "egress_spec" ∷ codes "egress_port" ∷ []

abbrev pub counts : List Name
counts = codes "packet_length" ∷ codes "instance_type" ∷ []

-- the fields of standard metadata that are left out
abbrev pub left_out_fields : List Name
left_out_fields =
    codes "egress_instance" ∷ codes "parser_status" ∷ codes "parser_error_location" ∷ codes "clone_spec" ∷ []

-- The width of a field of standard metadata in bits: ports have 9, counts 32, and those that are left out count as 0.
abbrev pub standard_width : Name → Option ℕ
standard_width field =
    if has_name ports field then Some 9
    else if has_name counts field then Some 32
    else if has_name left_out_fields field then Some 0
    else None
