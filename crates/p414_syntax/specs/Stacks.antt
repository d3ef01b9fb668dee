-- C4: a stack size is outside 1 to 256, an index isn't below its size, a stack stands without an index where one
-- instance is wanted, or an index follows what is no stack (P4_14 1.0.5, "Header and Metadata Instances"; the limit,
-- and that `next` stands only where something is extracted, are this project's own). One instance is wanted in
-- conditions, keys, items of field lists and headers of primitives, and in front of each field. Where a field or a
-- stack is wanted, a stack without an index isn't judged here.
use Rattle.std.specs.Prelude.{Bool, true, false, ◌||◌, ◌&&◌, nat_lt, nat_le, List, Option, Some, None}
use Rattle.std.specs.List.{list_any}
use Rattle.std.specs.Option.{option_map_or}
use Rattle.p414_syntax.specs.declared.lexeme.Literal.{Literal}
use Rattle.p414_syntax.specs.declared.parts.Inst.{Inst}
use Rattle.p414_syntax.specs.declared.parts.Index.{Index}
use Rattle.p414_syntax.specs.declared.parts.Index.TheVariants.{At, Next, Last}
use Rattle.p414_syntax.specs.declared.syntax.Decl.{Decl}
use Rattle.p414_syntax.specs.Fields.{size_in, is_instance, stack_size}
use Rattle.p414_syntax.specs.Uses.{Use, of_instance, of_extracted, of_item, of_field, uses}

abbrev pub is_bad_size : Literal → Bool
is_bad_size n = nat_lt n.value 1 || nat_lt 256 n.value

abbrev pub declares_bad_size : Decl → Bool
declares_bad_size d = option_map_or is_bad_size (size_in d) false

-- An index that names no one instance, where a stack has this size, if it is a stack. `last` is left out by name, and
-- C25 judges it.
abbrev pub is_bad_index : Option Literal → Option Index → Bool
is_bad_index None None = false
is_bad_index None (Some k) = true
is_bad_index (Some n) None = true
is_bad_index (Some n) (Some (At k)) = nat_le n.value k.value
is_bad_index (Some n) (Some Next) = true
is_bad_index (Some n) (Some Last) = false

-- the same where something is extracted
abbrev pub is_bad_extract : Option Literal → Option Index → Bool
is_bad_extract (Some n) (Some Next) = false
is_bad_extract size index = is_bad_index size index

-- a name that no instance has isn't judged here
abbrev pub is_bad_instance : List Decl → Inst → Bool
is_bad_instance ds i = is_instance ds i.name && is_bad_index (stack_size ds i.name) i.index

abbrev pub is_bad_extracted : List Decl → Inst → Bool
is_bad_extracted ds i = is_instance ds i.name && is_bad_extract (stack_size ds i.name) i.index

abbrev pub is_misplaced : List Decl → Use → Bool
is_misplaced ds (of_instance i) = is_bad_instance ds i
is_misplaced ds (of_extracted i) = is_bad_extracted ds i
is_misplaced ds (of_item i) = is_bad_instance ds i
is_misplaced ds (of_field r) = is_bad_instance ds r.instance
is_misplaced ds _ = false

abbrev pub has_bad_stack : List Decl → Bool
has_bad_stack ds = list_any declares_bad_size ds || list_any (is_misplaced ds) (uses ds)
