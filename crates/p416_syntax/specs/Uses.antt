-- What the rules judge, one after another: each expression with all within it, each type, number and name of a declaration,
-- with the scope that it stands in and what its place asks for (P4_16 1.2, "Expressions", "Statements"; the division is
-- this project's own). No parentheses stand in the trees of a program, so nothing is said of them.
use Rattle.std.specs.Prelude.{ℕ, ◌&&◌, if◌then◌else◌, nat_eq, List, [], ◌∷◌, ◌++◌, get_or, Option, Some, None}
use Rattle.p416_syntax.specs.declared.lexeme.Literal16.{Literal16}
use Rattle.p416_syntax.specs.declared.parts.Type16.{Type16}
use Rattle.p416_syntax.specs.declared.parts.Type16.TheVariants.{Bit, Bool as BoolType, Named}
use Rattle.p416_syntax.specs.declared.parts.Header16.{Header16}
use Rattle.p416_syntax.specs.declared.parts.Param.{Param}
use Rattle.p416_syntax.specs.declared.parts.Member.{Member}
use Rattle.p416_syntax.specs.declared.node.CastType.{CastType}
use Rattle.p416_syntax.specs.declared.node.CastType.TheVariants as cast_to
use Rattle.p416_syntax.specs.declared.node.CaseLabel.{CaseLabel}
use Rattle.p416_syntax.specs.declared.node.UnaryOperator.{UnaryOperator}
use Rattle.p416_syntax.specs.declared.node.UnaryOperator.TheVariants.{Not, Complement, Negate}
use Rattle.p416_syntax.specs.declared.node.BinaryOperator.{BinaryOperator}
use Rattle.p416_syntax.specs.declared.node.BinaryOperator.TheVariants.{Multiply, Add, Subtract, SaturatingAdd, SaturatingSubtract, Concatenate, ShiftLeft, ShiftRight, BitAnd, BitXor, BitOr, Less, LessEqual, Greater, GreaterEqual, Equal, NotEqual, And, Or}
use Rattle.p416_syntax.specs.declared.parsers.Keyset.{Keyset}
use Rattle.p416_syntax.specs.declared.controls.Table16.{Table16}
use Rattle.p416_syntax.specs.Tree.{Exp16, member, index, slice, call, lookahead, cast, unary, binary, choice, argument, listed}
use Rattle.p416_syntax.specs.Names.{Name}
use Rattle.p416_syntax.specs.Kinds.{Enumeration, Kind, bits, unsized, boolean, error_code, is_unsized}
use Rattle.p416_syntax.specs.Scopes.{Scope}
use Rattle.p416_syntax.specs.Calls.{Place, value, any_bits, one_bit, bits_or_boolean, owner, written_owner, a_stack, callee, unasked, Signature, method_signature}
use Rattle.p416_syntax.specs.Expressions.{kind_of, signature_of, argument_count, is_chosen}

-- the places of types
pub data TypePlace : Type 0 where
  of_field : TypePlace
  of_variable : TypePlace
  of_action_parameter : TypePlace
  of_block_parameter : TypePlace
  of_lookahead : TypePlace

-- the sort of declaration that the place of a name asks for
pub data WantedSort : Type 0 where
  some_action : WantedSort
  some_table : WantedSort
  some_state : WantedSort
  some_direct_counter : WantedSort
  some_block : WantedSort

pub data Use : Type 0 where
  an_expression : (s : Scope) (place : Place) (e : Exp16) → Use
  a_type : (s : Scope) (place : TypePlace) (of : Type16) → Use
  -- a name of another sort than values
  a_name : (s : Scope) (wanted : WantedSort) (text : Name) → Use
  -- the names that one scope declares
  names_of_scope : (names : List Name) → Use
  -- the width of bits; the size of a stack; another number
  a_width : (n : Literal16) → Use
  a_size : (n : Literal16) → Use
  a_number : (n : Literal16) → Use
  a_header : (h : Header16) → Use
  -- a member of an enumeration that a declaration of an object names
  a_member : (wanted : Enumeration) (m : Member) → Use
  -- what the keys of `select` are, and what they are compared with
  a_keyset : (keys : List Kind) (k : Keyset) → Use
  -- so many arguments are wanted, and so many given
  a_count : (wanted given : ℕ) → Use
  a_switch : (s : Scope) (text : Name) (labels : List CaseLabel) → Use
  some_parameters : (parameters : List Param) → Use
  -- the names of the direct counters of one control's tables
  some_counters : (names : List Name) → Use
  a_table_of : (s : Scope) (t : Table16) → Use
  -- statements whose blocks nest so deep
  a_body : (depth : ℕ) → Use

-- the places of the parts of expressions

-- operands that have to have one width: that of the first that has one; where both are numbers without a width, that of the
-- place of the whole
abbrev pub joint_place : Place → Kind → Kind → Place
joint_place p (bits v) b = value (bits v)
joint_place p a (bits w) = value (bits w)
joint_place p unsized unsized = p
joint_place p a b = any_bits

-- the same for `==` and `!=`, which compare truth values and errors too
abbrev pub compared_place : Kind → Kind → Place
compared_place (bits v) b = value (bits v)
compared_place boolean b = value boolean
compared_place error_code b = value error_code
compared_place a b = joint_place any_bits a b

-- the same for `c ? a : b`; what is no value can't be chosen
abbrev pub chosen_place : Place → Kind → Kind → Place
chosen_place p a b =
    if is_chosen a then value a else if is_chosen b then value b
    else if is_unsized a && is_unsized b then p else any_bits

abbrev pub unary_place : Place → UnaryOperator → Kind → Place
unary_place p Not k = value boolean
unary_place p Complement k = joint_place p k k
unary_place p Negate k = joint_place p k k

-- the place of the left operand, given that of the whole and what the operands are
abbrev pub left_place : Place → BinaryOperator → Kind → Kind → Place
left_place p Multiply a b = joint_place p a b
left_place p Add a b = joint_place p a b
left_place p Subtract a b = joint_place p a b
left_place p SaturatingAdd a b = joint_place p a b
left_place p SaturatingSubtract a b = joint_place p a b
left_place p Concatenate a b = any_bits
left_place p ShiftLeft a b = joint_place p a a
left_place p ShiftRight a b = joint_place p a a
left_place p BitAnd a b = joint_place p a b
left_place p BitXor a b = joint_place p a b
left_place p BitOr a b = joint_place p a b
left_place p Less a b = joint_place any_bits a b
left_place p LessEqual a b = joint_place any_bits a b
left_place p Greater a b = joint_place any_bits a b
left_place p GreaterEqual a b = joint_place any_bits a b
left_place p Equal a b = compared_place a b
left_place p NotEqual a b = compared_place a b
left_place p And a b = value boolean
left_place p Or a b = value boolean

-- the right operand has the place of the left one, but for shifts: their right side has any width
abbrev pub right_place : Place → BinaryOperator → Kind → Kind → Place
right_place p ShiftLeft a b = any_bits
right_place p ShiftRight a b = any_bits
right_place p operator a b = left_place p operator a b

-- a cast to `bit<1>` may be of a truth value, and one to `bool` is of one bit
abbrev pub cast_place : CastType → Place
cast_place (cast_to.Bit w) = if nat_eq w.value 1 then bits_or_boolean else any_bits
cast_place cast_to.Bool = one_bit

-- what stands before a member: before a method that is called and that writes it, it is written
abbrev pub owner_by : Option Signature → Place
owner_by (Some signature) = if signature.writes_owner then written_owner else owner
owner_by None = owner

abbrev pub owner_place : Place → Option Signature → Place
owner_place callee signature = owner_by signature
owner_place p signature = owner

abbrev pub wanted_by : Option Signature → List Place
wanted_by (Some signature) = signature.wanted
wanted_by None = []

-- the place of one expression; or of the arguments of an argument list, the first one's first, and the place of each
-- argument behind these
pub data Places : Type 0 where
  one : (place : Place) → Places
  many : (wanted : List Place) (otherwise : Place) → Places

-- types with their numbers

abbrev pub type_numbers : Type16 → List Use
type_numbers (Bit w) = a_width w ∷ []
type_numbers BoolType = []
type_numbers (Named text None) = []
type_numbers (Named text (Some size)) = a_size size ∷ []

abbrev pub type_uses : Scope → TypePlace → Type16 → List Use
type_uses s place t = a_type s place t ∷ type_numbers t

abbrev pub cast_numbers : CastType → List Use
cast_numbers (cast_to.Bit w) = a_width w ∷ []
cast_numbers cast_to.Bool = []

-- an expression at its place, and all within it at theirs
abbrev pub uses_at : Scope → Places → Exp16 → List Use
uses_at s (one p) (member e word) =
    an_expression s p (member e word) ∷ uses_at s (one (owner_place p (method_signature (kind_of s e) word))) e
uses_at s (one p) (index e at) = an_expression s p (index e at) ∷ a_number at ∷ uses_at s (one a_stack) e
uses_at s (one p) (slice e high low) =
    an_expression s p (slice e high low) ∷ a_number high ∷ a_number low ∷ uses_at s (one any_bits) e
uses_at s (one p) (call e given) =
    an_expression s p (call e given) ∷ uses_at s (one callee) e
    ++ uses_at s (many (wanted_by (signature_of s e)) unasked) given
uses_at s (one p) (lookahead e to given) =
    an_expression s p (lookahead e to given) ∷ type_uses s of_lookahead to ++ uses_at s (one owner) e
    ++ uses_at s (many [] unasked) given
uses_at s (one p) (cast to e) =
    an_expression s p (cast to e) ∷ cast_numbers to ++ uses_at s (one (cast_place to)) e
uses_at s (one p) (unary operator e) =
    an_expression s p (unary operator e) ∷ uses_at s (one (unary_place p operator (kind_of s e))) e
uses_at s (one p) (binary operator a b) =
    an_expression s p (binary operator a b) ∷ uses_at s (one (left_place p operator (kind_of s a) (kind_of s b))) a
    ++ uses_at s (one (right_place p operator (kind_of s a) (kind_of s b))) b
uses_at s (one p) (choice c a b) =
    an_expression s p (choice c a b) ∷ uses_at s (one (value boolean)) c
    ++ uses_at s (one (chosen_place p (kind_of s a) (kind_of s b))) a
    ++ uses_at s (one (chosen_place p (kind_of s a) (kind_of s b))) b
uses_at s (one p) (listed es) = an_expression s p (listed es) ∷ uses_at s (many [] any_bits) es
uses_at s (one p) e = an_expression s p e ∷ []
uses_at s (many wanted otherwise) (argument before last) =
    uses_at s (many wanted otherwise) before ++ uses_at s (one (get_or wanted (argument_count before) otherwise)) last
uses_at s (many wanted otherwise) e = []

abbrev pub uses : Scope → Place → Exp16 → List Use
uses s p e = uses_at s (one p) e

-- the arguments in order
abbrev pub arguments_of : Exp16 → List Exp16
arguments_of (argument before last) = arguments_of before ++ last ∷ []
arguments_of _ = []
