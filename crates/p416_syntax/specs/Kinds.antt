-- What an expression is: a value of some type, or something else that a name or a call stands for (P4_16 1.2, "P4 data
-- types"; `core.p4`; `v1model.p4`; which types and enumerations there are is this project's own).
use Rattle.std.specs.Prelude.{ℕ, Bool, true, false, ◌&&◌, nat_eq}
use Rattle.std.specs.Str.{bytes_eq}
use Rattle.p416_syntax.specs.Names.{Name}

-- the enumerations of `v1model.p4`
pub data Enumeration : Type 0 where
  hash_algorithm : Enumeration
  counter_type : Enumeration
  meter_type : Enumeration
  clone_type : Enumeration

-- the stateful objects of `v1model.p4`
pub data ObjectKind : Type 0 where
  counter : ObjectKind
  direct_counter : ObjectKind
  register : ObjectKind
  meter : ObjectKind

pub data Kind : Type 0 where
  -- values: bits of a width; a number without a width, which takes that of its place; a truth value; an error; a header
  -- and a header stack, by the name of the header's type; a struct by the name of its type; a packet that is read, and
  -- one that is written
  bits : (width : ℕ) → Kind
  unsized : Kind
  boolean : Kind
  error_code : Kind
  header : (type : Name) → Kind
  stack : (type : Name) (size : ℕ) → Kind
  struct : (type : Name) → Kind
  packet_in : Kind
  packet_out : Kind
  -- no values: the word `error`, the name of an enumeration, a member of one, a table, what applying a table gives, an
  -- object, a list in braces, a call that gives nothing, and what none of these is
  errors : Kind
  enumeration : (of : Enumeration) → Kind
  one_of : (of : Enumeration) → Kind
  table : Kind
  applied : Kind
  object : (of : ObjectKind) → Kind
  items : Kind
  nothing : Kind
  unknown : Kind

abbrev pub enumeration_number : Enumeration → ℕ
enumeration_number hash_algorithm = 0
enumeration_number counter_type = 1
enumeration_number meter_type = 2
enumeration_number clone_type = 3

abbrev pub is_same_enumeration : Enumeration → Enumeration → Bool
is_same_enumeration a b = nat_eq (enumeration_number a) (enumeration_number b)

-- two kinds are the same type of values, or members of one enumeration; not where one is a packet, which is never handed
-- on as a value, or a number without a width
abbrev pub is_same_kind : Kind → Kind → Bool
is_same_kind (bits v) (bits w) = nat_eq v w
is_same_kind boolean boolean = true
is_same_kind error_code error_code = true
is_same_kind (header a) (header b) = bytes_eq a b
is_same_kind (stack a m) (stack b n) = bytes_eq a b && nat_eq m n
is_same_kind (struct a) (struct b) = bytes_eq a b
is_same_kind (one_of a) (one_of b) = is_same_enumeration a b
is_same_kind _ _ = false

abbrev pub is_bits : Kind → Bool
is_bits (bits w) = true
is_bits _ = false

abbrev pub is_unsized : Kind → Bool
is_unsized unsized = true
is_unsized _ = false

abbrev pub is_boolean : Kind → Bool
is_boolean boolean = true
is_boolean _ = false

abbrev pub is_header : Kind → Bool
is_header (header type) = true
is_header _ = false

abbrev pub is_stack : Kind → Bool
is_stack (stack type size) = true
is_stack _ = false

abbrev pub is_struct : Kind → Bool
is_struct (struct type) = true
is_struct _ = false

-- a packet, which no variable, field or action parameter holds
abbrev pub is_packet : Kind → Bool
is_packet packet_in = true
is_packet packet_out = true
is_packet _ = false

-- what has no members at all: a number, a truth value, an error, a member of an enumeration, a list in braces, a call that
-- gives nothing, and what is unknown
abbrev pub is_plain : Kind → Bool
is_plain (bits w) = true
is_plain unsized = true
is_plain boolean = true
is_plain error_code = true
is_plain (one_of e) = true
is_plain items = true
is_plain nothing = true
is_plain unknown = true
is_plain _ = false
