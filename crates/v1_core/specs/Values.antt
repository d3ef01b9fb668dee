-- The values that variables hold, and their parts (P4_16 1.2, "P4 data types", "Operations on headers", "Operations on
-- header stacks", "Operations on struct types", "Reading uninitialized values and writing fields of invalid headers":
-- what the standard leaves open there is this project's own).
use Rattle.std.specs.Prelude.{ℕ, zero, suc, ◌+◌, ◌-◌, ◌*◌, ◌/◌, ◌%◌, ◌^◌, Bool, true, false, if◌then◌else◌, List, [], ◌∷◌, length, map, replicate, slice_index_or, slice_set, Option, Some, None}
use Rattle.std.specs.Str.{bytes_eq}
use Rattle.p4x_bits.specs.BitLists.{bit}
use Rattle.p416_syntax.specs.Names.{Name}
use Rattle.p416_syntax.specs.Kinds.{Kind, bits, boolean, error_code, header, stack, struct}
use Rattle.p416_syntax.specs.Scopes.{Layout, FieldKind, fields_in}
use Rattle.p416_syntax.specs.Totals.{bits_in}

-- a field of a header: its name, how many bits it has, and its number
pub record Field : Type 0 where
  pub called : Name
  pub width : ℕ
  pub number : ℕ

-- a header, or an element of a stack
pub record Header : Type 0 where
  pub valid : Bool
  pub fields : List Field

pub data Value : Type 0 where
  -- bits of a width, by their number
  a_number : (width number : ℕ) → Value
  a_truth : (holds : Bool) → Value
  -- an error, by its number in the order of `error`
  an_error : (number : ℕ) → Value
  a_header : (of : Header) → Value
  -- the place of the element that is extracted next, and the elements
  a_stack : (place : ℕ) (elements : List Header) → Value
  -- a struct: one without members, or its first member and what has the others
  no_members : Value
  a_member : (called : Name) (of rest : Value) → Value
  -- what no variable holds: a member of an enumeration, the items of a list in braces as bits, and nothing
  a_symbol : (word : Name) → Value
  some_bits : (items : List Bool) → Value
  no_value : Value

-- what a value is, where it is that, and else 0, false or nothing: no accepted program asks for anything else

abbrev pub number_in : Value → ℕ
number_in (a_number width number) = number
number_in _ = 0

abbrev pub width_in : Value → ℕ
width_in (a_number width number) = width
width_in _ = 0

-- a value as one number: a truth value is 1 or 0, and an error its number in the order of `error`
abbrev pub as_number : Value → ℕ
as_number (a_truth holds) = bit holds
as_number (an_error number) = number
as_number v = number_in v

abbrev pub is_true : Value → Bool
is_true (a_truth holds) = holds
is_true _ = false

abbrev pub no_header : Header
no_header = record { valid = false; fields = [] }

abbrev pub header_in : Value → Header
header_in (a_header h) = h
header_in _ = no_header

abbrev pub place_in : Value → ℕ
place_in (a_stack place elements) = place
place_in _ = 0

abbrev pub elements_in : Value → List Header
elements_in (a_stack place elements) = elements
elements_in _ = []

abbrev pub symbol_in : Value → Name
symbol_in (a_symbol word) = word
symbol_in _ = []

abbrev pub bits_of_list : Value → List Bool
bits_of_list (some_bits items) = items
bits_of_list _ = []

-- parts

-- what leads from a value to a part of it: a field of a header or of a struct, an element of a stack
pub data Step : Type 0 where
  to_member : (word : Name) → Step
  to_element : (number : ℕ) → Step

abbrev pub field_in : List Field → Name → Option Field
field_in [] word = None
field_in (f ∷ fields) word = if bytes_eq f.called word then Some f else field_in fields word

-- a field of an invalid header reads 0 (the standard leaves open what it reads)
abbrev pub field_value : Bool → Option Field → Value
field_value valid None = no_value
field_value valid (Some f) = a_number f.width (if valid then f.number else 0)

abbrev pub member_in : Value → Name → Value
member_in (a_member called of rest) word = if bytes_eq called word then of else member_in rest word
member_in _ word = no_value

abbrev pub has_member : Value → Name → Bool
has_member (a_member called of rest) word = if bytes_eq called word then true else has_member rest word
has_member _ word = false

abbrev pub part_of : Value → Step → Value
part_of (a_header h) (to_member word) = field_value h.valid (field_in h.fields word)
part_of (a_stack place elements) (to_element n) = a_header (slice_index_or elements n no_header)
part_of v (to_member word) = member_in v word
part_of v (to_element n) = no_value

-- the part that steps lead to
abbrev pub part_at : List Step → Value → Value
part_at [] v = v
part_at (step ∷ steps) v = part_at steps (part_of v step)

-- writing

abbrev pub with_number : Field → ℕ → Field
with_number f n = record { called = f.called; width = f.width; number = n }

abbrev pub with_field : List Field → Name → ℕ → List Field
with_field [] word n = []
with_field (f ∷ fields) word n =
    if bytes_eq f.called word then with_number f n ∷ fields else f ∷ with_field fields word n

-- a write to a field of an invalid header does nothing (the standard leaves open what it does to that header)
abbrev pub with_header_field : Header → Name → Value → Header
with_header_field h word v =
    if h.valid then record { valid = true; fields = with_field h.fields word (number_in v) } else h

abbrev pub with_member : Value → Name → Value → Value
with_member (a_member called of rest) word v =
    if bytes_eq called word then a_member called v rest else a_member called of (with_member rest word v)
with_member other word v = other

abbrev pub with_part : Value → Step → Value → Value
with_part (a_header h) (to_member word) v = a_header (with_header_field h word v)
with_part (a_stack place elements) (to_element n) v = a_stack place (slice_set elements n (header_in v))
with_part old (to_member word) v = with_member old word v
with_part old (to_element n) v = old

-- A value as it stands where another one stood: bits keep the width that was there, so that a number is cut or extended to
-- it; a header, a stack or a struct is taken as it is, with its validity ("Assignment statement"). That a stack takes its
-- place with it is this project's own.
abbrev pub fitted : Value → Value → Value
fitted (a_number width old) v = a_number width (number_in v % 2 ^ width)
fitted old v = v

-- a value with another one written to the part that steps lead to
abbrev pub with_part_at : List Step → Value → Value → Value
with_part_at [] v old = fitted old v
with_part_at (step ∷ steps) v old = with_part old step (with_part_at steps v (part_of old step))

-- slices

-- so many bits of a number, of which the least significant one has this place, counted from 0
pub record Slice : Type 0 where
  pub low : ℕ
  pub width : ℕ

abbrev pub sliced : Slice → ℕ → ℕ
sliced s n = n / 2 ^ s.low % 2 ^ s.width

-- a number with other bits in a slice of it
abbrev pub spliced : Slice → ℕ → ℕ → ℕ
spliced s old n = old - old % 2 ^ (s.low + s.width) + n % 2 ^ s.width * 2 ^ s.low + old % 2 ^ s.low

-- values as they start: numbers are 0, truth values false, errors NoError, headers invalid, stacks at place 0 ("Default
-- values"; the standard leaves what a variable starts as open)

abbrev pub zero_field : FieldKind → Field
zero_field f = record { called = f.called; width = bits_in f.kind; number = 0 }

-- an invalid header of this type, with all fields 0
abbrev pub zero_header : List Layout → Name → Header
zero_header layouts type = record { valid = false; fields = map zero_field (fields_in layouts type) }

abbrev pub members_from : (Kind → Value) → List FieldKind → Value
members_from value [] = no_members
members_from value (f ∷ fields) = a_member f.called (value f.kind) (members_from value fields)

-- through so many structs within each other; in a program that keeps T1 as many as there are types are all
abbrev pub zero_within : List Layout → ℕ → Kind → Value
zero_within layouts n (bits width) = a_number width 0
zero_within layouts n boolean = a_truth false
zero_within layouts n error_code = an_error 0
zero_within layouts n (header type) = a_header (zero_header layouts type)
zero_within layouts n (stack type size) = a_stack 0 (replicate size (zero_header layouts type))
zero_within layouts zero (struct type) = no_members
zero_within layouts (suc n) (struct type) = members_from (λ k. zero_within layouts n k) (fields_in layouts type)
zero_within layouts n _ = no_value

abbrev pub zero_value : List Layout → Kind → Value
zero_value layouts k = zero_within layouts (length layouts) k

-- a header with all fields 0, valid or not
abbrev pub cleared_field : Field → Field
cleared_field f = with_number f 0

abbrev pub cleared : Bool → Header → Header
cleared valid h = record { valid = valid; fields = map cleared_field h.fields }
