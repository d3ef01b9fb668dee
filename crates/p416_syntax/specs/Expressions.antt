-- What each expression is, by what it is built of and the names in scope; what is called; what can be written; and how many
-- arguments there are (P4_16 1.2, "Expressions", "L-values"). An expression whose parts don't fit each other, or whose width
-- isn't one that T2 allows, is `unknown`; but a comparison, `!`, `&&` and `||` are truth values, whatever they are built of.
-- No parentheses stand in the trees of a program, so nothing is said of them.
use Rattle.std.specs.Prelude.{ℕ, suc, ◌+◌, ◌-◌, Bool, true, false, ◌||◌, if◌then◌else◌, nat_eq, nat_lt, nat_le, List, [], ◌∷◌, codes, Option, Some, None}
use Rattle.std.specs.Option.{option_map_or}
use Rattle.std.specs.Str.{bytes_eq}
use Rattle.p416_syntax.specs.declared.lexeme.Literal16.{Literal16}
use Rattle.p416_syntax.specs.declared.node.CastType.{CastType}
use Rattle.p416_syntax.specs.declared.node.CastType.TheVariants as cast_to
use Rattle.p416_syntax.specs.declared.node.UnaryOperator.{UnaryOperator}
use Rattle.p416_syntax.specs.declared.node.UnaryOperator.TheVariants.{Not, Complement, Negate}
use Rattle.p416_syntax.specs.declared.node.BinaryOperator.{BinaryOperator}
use Rattle.p416_syntax.specs.declared.node.BinaryOperator.TheVariants.{Multiply, Add, Subtract, SaturatingAdd, SaturatingSubtract, Concatenate, ShiftLeft, ShiftRight, BitAnd, BitXor, BitOr, Less, LessEqual, Greater, GreaterEqual, Equal, NotEqual, And, Or}
use Rattle.p416_syntax.specs.Tree.{Exp16, literal, truth, error, name, member, index, slice, call, lookahead, cast, unary, binary, choice, argument, listed}
use Rattle.p416_syntax.specs.Names.{Name, has_name}
use Rattle.p416_syntax.specs.Kinds.{Kind, bits, unsized, boolean, error_code, header, stack, struct, packet_in, errors, enumeration, one_of, table, applied, object, items, unknown, is_same_kind}
use Rattle.p416_syntax.specs.Scopes.{Sort, a_value, an_enumeration, an_object, an_action, a_table, a_function, Scope, sort_of, kind_of_type, FieldKind, fields_in, Layout}
use Rattle.p416_syntax.specs.BuiltIn.{members_of, error_names}
use Rattle.p416_syntax.specs.Calls.{Signature, function_signature, method_signature, action_signature}

-- names and members

abbrev pub sort_kind : Sort → Kind
sort_kind (a_value k can) = k
sort_kind (an_enumeration e) = enumeration e
sort_kind (an_object o) = object o
sort_kind (a_table actions counters) = table
sort_kind _ = unknown

abbrev pub field_kind_in : List FieldKind → Name → Option Kind
field_kind_in [] word = None
field_kind_in (f ∷ fields) word = if bytes_eq f.called word then Some f.kind else field_kind_in fields word

-- one of these names, each of which stands for this kind
abbrev pub among_names : List Name → Kind → Name → Option Kind
among_names names k word = if has_name names word then Some k else None

-- the member with this word of what stands before it
abbrev pub member_kind : List Layout → Kind → Name → Option Kind
member_kind layouts (header type) word = field_kind_in (fields_in layouts type) word
member_kind layouts (struct type) word = field_kind_in (fields_in layouts type) word
member_kind layouts (stack type size) word = among_names (codes "next" ∷ codes "last" ∷ []) (header type) word
member_kind layouts errors word = among_names error_names error_code word
member_kind layouts (enumeration e) word = among_names (members_of e) (one_of e) word
member_kind layouts applied word = among_names (codes "hit" ∷ codes "miss" ∷ []) boolean word
member_kind layouts _ word = None

abbrev pub known_kind : Option Kind → Kind
known_kind (Some k) = k
known_kind None = unknown

-- operators

-- two operands of one width; a number without a width takes that of the other
abbrev pub joint_bits : Kind → Kind → Kind
joint_bits (bits v) (bits w) = if nat_eq v w then bits v else unknown
joint_bits (bits v) unsized = bits v
joint_bits unsized (bits w) = bits w
joint_bits unsized unsized = unsized
joint_bits _ _ = unknown

-- more than 128 bits together are no width
abbrev pub concatenated : Kind → Kind → Kind
concatenated (bits v) (bits w) = if nat_lt 128 (v + w) then unknown else bits (v + w)
concatenated _ _ = unknown

-- an operand of arithmetic by itself
abbrev pub number_kind : Kind → Kind
number_kind (bits w) = bits w
number_kind unsized = unsized
number_kind _ = unknown

abbrev pub unary_kind : UnaryOperator → Kind → Kind
unary_kind Not k = boolean
unary_kind Complement k = number_kind k
unary_kind Negate k = number_kind k

abbrev pub binary_kind : BinaryOperator → Kind → Kind → Kind
binary_kind Multiply a b = joint_bits a b
binary_kind Add a b = joint_bits a b
binary_kind Subtract a b = joint_bits a b
binary_kind SaturatingAdd a b = joint_bits a b
binary_kind SaturatingSubtract a b = joint_bits a b
binary_kind Concatenate a b = concatenated a b
binary_kind ShiftLeft a b = number_kind a
binary_kind ShiftRight a b = number_kind a
binary_kind BitAnd a b = joint_bits a b
binary_kind BitXor a b = joint_bits a b
binary_kind BitOr a b = joint_bits a b
binary_kind Less a b = boolean
binary_kind LessEqual a b = boolean
binary_kind Greater a b = boolean
binary_kind GreaterEqual a b = boolean
binary_kind Equal a b = boolean
binary_kind NotEqual a b = boolean
binary_kind And a b = boolean
binary_kind Or a b = boolean

-- `c ? a : b`: two values of one type, none of which is a packet or a member of an enumeration
abbrev pub is_chosen : Kind → Bool
is_chosen (bits w) = true
is_chosen boolean = true
is_chosen error_code = true
is_chosen (header type) = true
is_chosen (stack type size) = true
is_chosen (struct type) = true
is_chosen _ = false

abbrev pub same_choice : Kind → Kind → Kind
same_choice a b = if is_same_kind a b then (if is_chosen a then a else unknown) else joint_bits a b

-- elements, slices and casts

abbrev pub element_kind : Kind → Kind
element_kind (stack type size) = header type
element_kind _ = unknown

-- the bits from `high` down to `low` aren't all among so many, counted from 0
abbrev pub leaves_width : ℕ → Literal16 → Literal16 → Bool
leaves_width w high low = nat_lt high.value low.value || nat_le w high.value

abbrev pub slice_kind : Kind → Literal16 → Literal16 → Kind
slice_kind (bits w) high low = if leaves_width w high low then unknown else bits (suc high.value - low.value)
slice_kind _ high low = unknown

abbrev pub cast_kind : CastType → Kind
cast_kind (cast_to.Bit w) = bits w.value
cast_kind cast_to.Bool = boolean

-- calls

abbrev pub sort_signature : Sort → Name → Option Signature
sort_signature (an_action plane parameters) text = Some (action_signature parameters)
sort_signature a_function text = function_signature text
sort_signature _ text = None

abbrev pub call_kind : Option Signature → Kind
call_kind (Some signature) = signature.gives
call_kind None = unknown

-- `p.lookahead<TYPE>()`, where the packet that is read stands before it
abbrev pub lookahead_kind : Kind → Kind → Kind
lookahead_kind packet_in to = to
lookahead_kind _ to = unknown

-- what an expression is
abbrev pub kind_of : Scope → Exp16 → Kind
kind_of s (literal n) = option_map_or bits_of n.width unsized
  where
    bits_of : ℕ → Kind
    bits_of w = bits w
kind_of s (truth value) = boolean
kind_of s error = errors
kind_of s (name text) = sort_kind (sort_of s text)
kind_of s (member e word) = known_kind (member_kind s.layouts (kind_of s e) word)
kind_of s (index e at) = element_kind (kind_of s e)
kind_of s (slice e high low) = slice_kind (kind_of s e) high low
kind_of s (call (name text) given) = call_kind (sort_signature (sort_of s text) text)
kind_of s (call (member e word) given) = call_kind (method_signature (kind_of s e) word)
kind_of s (lookahead e to given) = lookahead_kind (kind_of s e) (kind_of_type s.names to)
kind_of s (cast to e) = cast_kind to
kind_of s (unary operator e) = unary_kind operator (kind_of s e)
kind_of s (binary operator a b) = binary_kind operator (kind_of s a) (kind_of s b)
kind_of s (choice c a b) = same_choice (kind_of s a) (kind_of s b)
kind_of s (listed es) = items
kind_of s _ = unknown

-- what is called, where it is an action, a function or a method
abbrev pub signature_of : Scope → Exp16 → Option Signature
signature_of s (name text) = sort_signature (sort_of s text) text
signature_of s (member e word) = method_signature (kind_of s e) word
signature_of s _ = None

-- a variable or a parameter that can be written, or a part of one ("L-values")
abbrev pub can_write : Scope → Exp16 → Bool
can_write s (name text) = of (sort_of s text)
  where
    of : Sort → Bool
    of (a_value k can) = can
    of _ = false
can_write s (member e word) = can_write s e
can_write s (index e at) = can_write s e
can_write s (slice e high low) = can_write s e
can_write s _ = false

-- how many arguments there are
abbrev pub argument_count : Exp16 → ℕ
argument_count (argument before last) = argument_count before + 1
argument_count _ = 0
