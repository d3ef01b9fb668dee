-- C7: all instances, each stack element by itself, have over 65,536 fields, or all headers over 32,768 octets (the
-- limits are this project's own). The fields of `standard_metadata` don't count, and fields of width `*` count as 0
-- bits.
use Rattle.std.specs.Prelude.{ℕ, ◌*◌, Bool, ◌||◌, nat_lt, List, length, Option, Some, None, sum_by}
use Rattle.std.specs.Option.{option_map_or}
use Rattle.p414_syntax.specs.declared.lexeme.Literal.{Literal}
use Rattle.p414_syntax.specs.declared.syntax.Decl.{Decl}
use Rattle.p414_syntax.specs.declared.syntax.Decl.TheVariants as decl
use Rattle.p414_syntax.specs.Views.{HeaderTypeTree}
use Rattle.p414_syntax.specs.Names.{Name}
use Rattle.p414_syntax.specs.Fields.{type_of, type_bits}

-- the number of instances: the elements of a stack, or one
abbrev pub elements_of : Option Literal → ℕ
elements_of (Some n) = n.value
elements_of None = 1

abbrev pub field_count : HeaderTypeTree → ℕ
field_count t = length t.fields

-- the fields of a type with this name, and its bits
abbrev pub fields_of_type : List Decl → Name → ℕ
fields_of_type ds name = option_map_or field_count (type_of ds name) 0

abbrev pub bits_of_type : List Decl → Name → ℕ
bits_of_type ds name = option_map_or type_bits (type_of ds name) 0

-- the fields of an instance, each element by itself
abbrev pub instance_fields : List Decl → Decl → ℕ
instance_fields ds (decl.Header x) = elements_of x.size * fields_of_type ds x.header_type
instance_fields ds (decl.Metadata x) = fields_of_type ds x.header_type
instance_fields ds _ = 0

-- the bits of a header, each element by itself
abbrev pub header_bits : List Decl → Decl → ℕ
header_bits ds (decl.Header x) = elements_of x.size * bits_of_type ds x.header_type
header_bits ds _ = 0

abbrev pub has_too_much : List Decl → Bool
has_too_much ds = nat_lt 65536 (sum_by (instance_fields ds) ds) || nat_lt (8 * 32768) (sum_by (header_bits ds) ds)
