-- Ready expressions, and their values over a packed frame (P4_16 1.2, "Expressions", "Operations on headers", "Operations on
-- header stacks", "Packet lookahead"). They are evaluated from left to right; `&&`, `||` and `? :` evaluate what they need;
-- and the first error ends that.
use Rattle.std.specs.Prelude.{ℕ, ◌+◌, ◌-◌, ◌*◌, ◌==◌, Bool, not, nat_lt, if◌then◌else◌, List, length, take, slice_index}
use Rattle.p4x_bits.specs.BitLists.{num, octet_bits}
use Rattle.p416_syntax.specs.declared.node.UnaryOperator.{UnaryOperator}
use Rattle.p416_syntax.specs.declared.node.BinaryOperator.{BinaryOperator}
use Rattle.v1_core.specs.declared.parser_error.ParserError.{ParserError}
use Rattle.v1_core.specs.declared.parser_error.ParserError.TheVariants.{PacketTooShort, StackOutOfBounds}
use Rattle.v1_core.specs.Values.{Value, a_number, a_truth, an_error, number_in, is_true, Slice, sliced}
use Rattle.v1_core.specs.Numbers.{unary_value}
use Rattle.v1_core.specs.Cells.{Cells, slot_value, header_valid, stack_place, stack_size}
use Rattle.v1_core.specs.declared.node.Content.{Content}
use Rattle.v1_core.specs.declared.node.Content.TheVariants as content
use Rattle.v1_core.specs.declared.node.Which.{Which}
use Rattle.v1_core.specs.declared.node.Which.TheVariants.{Next, Last}
use Rattle.v1_core.specs.declared.node.Element.{Element}
use Rattle.v1_core.specs.Scalars.{bits_value, truth_value, pair_value}

pub data Ready : Type 0 where
  constant : (value : Value) → Ready
  slot : (of : Content) (number : ℕ) → Ready
  -- a field of an element of a stack, and whether the element is valid
  element_slot : (of : Element) → Ready
  valid : (header : ℕ) → Ready
  element_valid : (of : Element) → Ready
  ahead : (width : ℕ) → Ready
  slice : (of : Ready) (place width : ℕ) → Ready
  to_bits : (width : ℕ) (operand : Ready) → Ready
  to_truth : (operand : Ready) → Ready
  unary : (operator : UnaryOperator) (operand : Ready) → Ready
  both : (left right : Ready) → Ready
  either : (left right : Ready) → Ready
  binary : (operator : BinaryOperator) (left right : Ready) → Ready
  choice : (condition positive negative : Ready) → Ready

-- a value, or the error that ended its evaluation
pub data Ended : Type 0 where
  given : (value : Value) → Ended
  failed : (error : ParserError) → Ended

abbrev pub and_then : Ended → (Value → Ended) → Ended
and_then (given v) further = further v
and_then (failed e) further = failed e

-- parts of a frame

abbrev pub content_value : Content → ℕ → ℕ → Value
content_value content.Bits width n = a_number width n
content_value content.Truth width n = a_truth (not (n == 0))
content_value content.Error width n = an_error n

-- what stands in a slot; bits have the width of the slot
abbrev pub value_in : Cells → Content → ℕ → Value
value_in c of number = content_value of (slice_index c.layout.widths number) (slot_value c number)

-- `next` is the element at the stack's place, `last` the one before it
abbrev pub element_by : Which → ℕ → ℕ
element_by Next place = place
element_by Last place = place - 1

-- `next` of a full stack, and `last` of one at place 0, is none
abbrev pub is_past : Which → ℕ → ℕ → Bool
is_past Next place size = not (nat_lt place size)
is_past Last place size = place == 0

-- the number of the part of the element that the place of the stack tells
abbrev pub part_number : Cells → Element → ℕ
part_number c e = e.first + element_by e.which (stack_place c e.stack) * e.apart

abbrev pub within_stack : Cells → Element → Value → Ended
within_stack c e v =
    if is_past e.which (stack_place c e.stack) (stack_size c e.stack) then failed StackOutOfBounds else given v

-- the bits in front of the octets that aren't parsed, where there are so many
abbrev pub bits_ahead : List ℕ → ℕ → Ended
bits_ahead left width =
    if nat_lt width (8 * length left + 1) then given (a_number width (num (take width (octet_bits left))))
    else failed PacketTooShort

-- the value of an expression, where these octets aren't parsed

abbrev pub slice_at : ℕ → ℕ → Slice
slice_at place width = record { low = place; width = width }

abbrev pub ready_value : Cells → List ℕ → Ready → Ended
ready_value c left (constant v) = given v
ready_value c left (slot of number) = given (value_in c of number)
ready_value c left (element_slot of) = within_stack c of (value_in c content.Bits (part_number c of))
ready_value c left (valid header) = given (a_truth (header_valid c header))
ready_value c left (element_valid of) = within_stack c of (a_truth (header_valid c (part_number c of)))
ready_value c left (ahead width) = bits_ahead left width
ready_value c left (slice e place width) =
    and_then (ready_value c left e) (λ x. given (a_number width (sliced (slice_at place width) (number_in x))))
ready_value c left (to_bits width e) = and_then (ready_value c left e) (λ x. given (bits_value width x))
ready_value c left (to_truth e) = and_then (ready_value c left e) (λ x. given (truth_value x))
ready_value c left (unary operator e) = and_then (ready_value c left e) (λ x. given (unary_value operator x))
ready_value c left (both a b) =
    and_then (ready_value c left a) (λ x. if is_true x then ready_value c left b else given x)
ready_value c left (either a b) =
    and_then (ready_value c left a) (λ x. if is_true x then given x else ready_value c left b)
ready_value c left (binary operator a b) =
    and_then (ready_value c left a) (λ x. and_then (ready_value c left b) (λ y. given (pair_value operator x y)))
ready_value c left (choice condition positive negative) =
    and_then (ready_value c left condition) (λ x. if is_true x then ready_value c left positive else ready_value c left negative)
