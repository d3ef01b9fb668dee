-- T3: an expression or a type isn't the one that its place asks for (P4_16 1.2, "Expressions", "Statements", "Casts",
-- "Calling convention: call by copy in/copy out", "Select expressions", "Tables"). A number without a width takes the width
-- that its place asks for, and breaks T3 where none does: so on the right of a shift, on both sides of `++`, where something
-- is sliced or cast, as an item of a list, as a key. Headers, stacks, structs and members of enumerations don't compare.
-- What stands in a keyset, as the size of an object, as an argument of a default action, as the count of `push_front` and
-- `pop_front`, or as the number of a field list, is a literal.
use Rattle.std.specs.Prelude.{Bool, true, false, not, ◌&&◌, ◌||◌, nat_eq, List, [], ◌∷◌, length, zip}
use Rattle.std.specs.List.{list_any}
use Rattle.p416_syntax.specs.declared.parts.Member.{Member}
use Rattle.p416_syntax.specs.declared.parts.Member.TheVariants as member_of
use Rattle.p416_syntax.specs.declared.parsers.Simple.{Simple}
use Rattle.p416_syntax.specs.declared.parsers.Simple.TheVariants as simple
use Rattle.p416_syntax.specs.declared.parsers.Keyset.{Keyset}
use Rattle.p416_syntax.specs.declared.parsers.Keyset.TheVariants as keyset
use Rattle.p416_syntax.specs.Tree.{Exp16, literal, truth, name, member}
use Rattle.p416_syntax.specs.Kinds.{Enumeration, hash_algorithm, counter_type, meter_type, clone_type, is_same_enumeration, Kind, bits, error_code, items, one_of, unknown, is_same_kind, is_bits, is_unsized, is_boolean, is_header, is_stack, is_packet, is_plain}
use Rattle.p416_syntax.specs.Scopes.{kind_of_type}
use Rattle.p416_syntax.specs.Calls.{Place, value, written, any_bits, written_bits, one_bit, bits_or_boolean, written_header, emitted, literal_of, any_literal, item_list, member_place, select_key, table_key, target, owner, written_owner, a_stack, callee, statement, unasked}
use Rattle.p416_syntax.specs.Expressions.{kind_of}
use Rattle.p416_syntax.specs.Uses.{Use, an_expression, a_type, a_member, a_keyset, TypePlace, of_field, of_variable, of_action_parameter, of_block_parameter, of_lookahead}

-- a number or a truth value as it is written
abbrev pub is_literal : Exp16 → Bool
is_literal (literal n) = true
is_literal (truth b) = true
is_literal _ = false

-- only actions, functions and methods are called
abbrev pub is_named_callee : Exp16 → Bool
is_named_callee (name text) = true
is_named_callee (member e word) = true
is_named_callee _ = false

abbrev pub is_items : Kind → Bool
is_items items = true
is_items _ = false

abbrev pub is_error_code : Kind → Bool
is_error_code error_code = true
is_error_code _ = false

-- a place for values of the first kind takes one of the second; a number without a width takes that of its place
abbrev pub takes_kind : Kind → Kind → Bool
takes_kind wanted given = is_same_kind wanted given || (is_bits wanted && is_unsized given)

-- the place takes this expression, which is of this kind; whether it can be written is left to T5
abbrev pub takes : Place → Exp16 → Kind → Bool
takes (value wanted) e k = takes_kind wanted k
takes (written wanted) e k = takes_kind wanted k
takes any_bits e k = is_bits k
takes written_bits e k = is_bits k || is_unsized k
takes one_bit e k = is_same_kind (bits 1) k
takes bits_or_boolean e k = is_bits k || is_boolean k
takes written_header e k = is_header k
takes emitted e k = is_header k || is_stack k
takes (literal_of wanted) e k = is_literal e && takes_kind wanted k
takes any_literal e k = is_literal e
takes item_list e k = is_items k
takes (member_place wanted) e k = is_same_kind (one_of wanted) k
takes select_key e k = is_bits k || (is_boolean k || is_error_code k)
takes (table_key is_exact) e k = is_bits k || (is_exact && is_boolean k)
takes target e k = true
takes owner e k = not (is_plain k)
takes written_owner e k = not (is_plain k)
takes a_stack e k = is_stack k
takes callee e k = is_named_callee e
takes statement e k = true
takes unasked e k = true

-- types: a stack is one of headers; only a parameter of a parser or a control is a packet; `lookahead` is to bits

abbrev pub is_unknown_kind : Kind → Bool
is_unknown_kind unknown = true
is_unknown_kind _ = false

abbrev pub is_misplaced : TypePlace → Kind → Bool
is_misplaced of_field k = is_unknown_kind k || is_packet k
is_misplaced of_variable k = is_unknown_kind k || is_packet k
is_misplaced of_action_parameter k = is_unknown_kind k || is_packet k
is_misplaced of_block_parameter k = is_unknown_kind k
is_misplaced of_lookahead k = not (is_bits k)

-- members that declarations of objects name

abbrev pub enumeration_of : Member → Enumeration
enumeration_of (member_of.HashAlgorithm m) = hash_algorithm
enumeration_of (member_of.CounterType m) = counter_type
enumeration_of (member_of.MeterType m) = meter_type
enumeration_of (member_of.CloneType m) = clone_type

-- keysets: one for each key, but that `default` and `_` by themselves stand for all; masks and ranges are of bits

abbrev pub is_of_bits : Simple → Bool
is_of_bits (simple.Mask a b) = true
is_of_bits (simple.Range a b) = true
is_of_bits _ = false

abbrev pub compares_other : Kind × Simple → Bool
compares_other pair = is_of_bits pair.1 && not (is_bits pair.0)

abbrev pub is_misfit : List Kind → List Simple → Bool
is_misfit keys parts = not (nat_eq (length keys) (length parts)) || list_any compares_other (zip keys parts)

abbrev pub is_bad_keyset : List Kind → Keyset → Bool
is_bad_keyset keys (keyset.Tuple parts) = is_misfit keys parts
is_bad_keyset keys (keyset.One simple.Default) = false
is_bad_keyset keys (keyset.One simple.Any) = false
is_bad_keyset keys (keyset.One part) = is_misfit keys (part ∷ [])

-- what is judged breaks T3
abbrev pub is_mistyped : Use → Bool
is_mistyped (an_expression s p e) = not (takes p e (kind_of s e))
is_mistyped (a_type s p t) = is_misplaced p (kind_of_type s.names t)
is_mistyped (a_member wanted m) = not (is_same_enumeration wanted (enumeration_of m))
is_mistyped (a_keyset keys k) = is_bad_keyset keys k
is_mistyped _ = false
