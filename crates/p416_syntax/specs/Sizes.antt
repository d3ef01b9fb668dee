-- T2: a bit width is outside 1 to 128, a stack size outside 1 to 256, a header's width is 0 or no multiple of 8, or a slice,
-- an index or `++` leaves the width or size (P4_16 1.2, "Base types", "Header types", "Header stacks", "Operations on
-- `bit` types"; the bounds are this project's own). A header with a width outside is judged for that alone.
use Rattle.std.specs.Prelude.{ℕ, ◌+◌, ◌%◌, Bool, false, not, ◌&&◌, ◌||◌, nat_lt, nat_le, nat_eq, sum_by}
use Rattle.std.specs.List.{list_any}
use Rattle.p416_syntax.specs.declared.lexeme.Literal16.{Literal16}
use Rattle.p416_syntax.specs.declared.parts.BitField.{BitField}
use Rattle.p416_syntax.specs.declared.parts.Header16.{Header16}
use Rattle.p416_syntax.specs.declared.node.BinaryOperator.{BinaryOperator}
use Rattle.p416_syntax.specs.declared.node.BinaryOperator.TheVariants.{Concatenate}
use Rattle.p416_syntax.specs.Tree.{Exp16, index, slice, binary}
use Rattle.p416_syntax.specs.Kinds.{Kind, bits, stack}
use Rattle.p416_syntax.specs.Scopes.{Scope}
use Rattle.p416_syntax.specs.Expressions.{kind_of, leaves_width}
use Rattle.p416_syntax.specs.Uses.{Use, an_expression, a_width, a_size, a_header}

abbrev pub is_outside : ℕ → ℕ → Literal16 → Bool
is_outside least most n = nat_lt n.value least || nat_lt most n.value

abbrev pub is_bad_width : Literal16 → Bool
is_bad_width n = is_outside 1 128 n

abbrev pub is_bad_size : Literal16 → Bool
is_bad_size n = is_outside 1 256 n

-- a header's width

abbrev pub bits_of_field : BitField → ℕ
bits_of_field f = f.width.value

abbrev pub has_bad_width : BitField → Bool
has_bad_width f = is_bad_width f.width

abbrev pub is_no_octets : ℕ → Bool
is_no_octets total = nat_eq total 0 || not (nat_eq (total % 8) 0)

abbrev pub is_bad_header : Header16 → Bool
is_bad_header h = not (list_any has_bad_width h.fields) && is_no_octets (sum_by bits_of_field h.fields)

-- elements, slices and `++`

abbrev pub leaves_stack : Kind → Literal16 → Bool
leaves_stack (stack type size) at = nat_le size at.value
leaves_stack _ at = false

abbrev pub leaves_bits : Kind → Literal16 → Literal16 → Bool
leaves_bits (bits w) high low = leaves_width w high low
leaves_bits _ high low = false

abbrev pub joins_too_many : BinaryOperator → Kind → Kind → Bool
joins_too_many Concatenate (bits v) (bits w) = nat_lt 128 (v + w)
joins_too_many _ _ _ = false

abbrev pub leaves_in : Scope → Exp16 → Bool
leaves_in s (index e at) = leaves_stack (kind_of s e) at
leaves_in s (slice e high low) = leaves_bits (kind_of s e) high low
leaves_in s (binary operator a b) = joins_too_many operator (kind_of s a) (kind_of s b)
leaves_in s _ = false

-- what is judged breaks T2
abbrev pub leaves_size : Use → Bool
leaves_size (an_expression s p e) = leaves_in s e
leaves_size (a_width n) = is_bad_width n
leaves_size (a_size n) = is_bad_size n
leaves_size (a_header h) = is_bad_header h
leaves_size _ = false
