-- Ready expressions give numbers below 2 ^ their widths.
use Rattle.std.proofs.Common.{◌≡◌, ◌⊎◌, inl, inr, ℕ, ◌+◌, ◌-◌, ◌*◌, ◌/◌, ◌%◌, ◌^◌, ◌<◌, ◌≤◌, min, nat_lt, nat_le, nat_eq, Bool, true, false, cond, bit_and, Option, Some, None, IfSome, List, ◌∷◌, ◌++◌, length, take, get_or, refl, sym, ap, ◌∙◌, subst, arith, pow_pos}
use Rattle.std.specs.Prelude.{option_map}
use Rattle.std.specs.List.{list_any}
use Rattle.std.proofs.lemmas.Nat.{and_le_l, mul-add-lt, or_lt, pow-add, xor_lt}
use Rattle.std.proofs.lemmas.Bool.{ltb-false, eqb-true}
use Rattle.std.proofs.Math.Pow.{pow_mono}
use Rattle.std.proofs.lemmas.List.{get_or_past}
use Rattle.std.proofs.Math.Nat.{mod-lt, div-le_self}
use Rattle.p4x_bits.specs.BitLists.{bit, num, octet_bits}
use Rattle.p4x_bits.proofs.BitLists.{num_of_take_below}
use Rattle.p416_syntax.specs.declared.node.CastType.{CastType}
use Rattle.p416_syntax.specs.declared.node.CastType.TheVariants as cast_to
use Rattle.p416_syntax.specs.declared.node.UnaryOperator.{UnaryOperator}
use Rattle.p416_syntax.specs.declared.node.UnaryOperator.TheVariants.{Not, Complement, Negate}
use Rattle.p416_syntax.specs.declared.node.BinaryOperator.{BinaryOperator}
use Rattle.p416_syntax.specs.declared.node.BinaryOperator.TheVariants.{Multiply, Add, Subtract, SaturatingAdd, SaturatingSubtract, Concatenate, ShiftLeft, ShiftRight, BitAnd, BitXor, BitOr, Less, LessEqual, Greater, GreaterEqual, Equal, NotEqual, And, Or}
use Rattle.p416_syntax.specs.Tree.{Exp16, literal, truth, error, name, member, index, slice, call, lookahead, cast, unary, binary, choice, parenthesized, no_arguments, argument, listed}
use Rattle.p416_syntax.specs.Names.{Name}
use Rattle.p416_syntax.specs.Kinds.{Kind, bits, unsized, boolean, error_code, header, stack, struct, packet_in, packet_out, errors, enumeration, one_of, table, applied, object, items, nothing, unknown}
use Rattle.p416_syntax.specs.Scopes.{Layout, Scope, kind_of_type}
use Rattle.p416_syntax.specs.Calls.{Place, value, any_bits, owner, a_stack, callee, unasked, method_signature}
use Rattle.p416_syntax.specs.Expressions.{kind_of, signature_of}
use Rattle.p416_syntax.specs.Uses.{Use, an_expression, a_number as number_use, one, many, unary_place, left_place, right_place, cast_place, cast_numbers, chosen_place, owner_place, wanted_by, uses_at}
use Rattle.p416_syntax.specs.Sizes.{leaves_size, is_bad_width}
use Rattle.v1_core.specs.Values.{Value, a_number, a_truth, an_error, a_header, a_stack, no_members, a_member, a_symbol, some_bits, no_value, number_in, is_true, sliced, to_member, to_element}
use Rattle.v1_core.specs.Numbers.{unary_value, of_truths, of_errors}
use Rattle.v1_core.specs.Expressions.{literal_number, literal_width, number_of_error}
use Rattle.v1_core.specs.declared.parser_error.ParserError.TheVariants.{PacketTooShort, StackOutOfBounds}
use Rattle.v1_core.specs.Cells.{Cells, is_live, slot_value, header_valid, stack_place, stack_size, AreWhole}
use Rattle.v1_core.specs.Seats.{Form, slot_form, header_form, stack_form, struct_form, no_form, some_bits as bits_content, a_truth as truth_content, an_error as error_content}
use Rattle.v1_core.specs.declared.node.Content.{Content}
use Rattle.v1_core.specs.declared.node.Content.TheVariants as content
use Rattle.v1_core.specs.declared.node.Element.{Element}
use Rattle.v1_core.specs.Scalars.{apart_value, word_value, joint_value, is_joint, pair_value, bits_value, truth_value}
use Rattle.v1_core.specs.Ready as ready
use Rattle.v1_core.specs.Ready.{Ready, Ended, given, failed, and_then, value_in, part_number, within_stack, bits_ahead, slice_at, is_past, ready_value}
use Rattle.v1_ready_forms.specs.Named.{NamedSeat, seat_of_name}
use Rattle.v1_ready_forms.specs.Ways.{Way, its_value, its_validity, through_member, through_element, through_told, which_of}
use Rattle.v1_ready_forms.specs.Spots.{Told, Spot, spot_with, spot_behind, told_spot, value_ready, validity_ready, ready_behind, way_ready}
use Rattle.v1_ready_forms.specs.Expressions.{alone, with_two, with_three, only_error, member_ready, method_ready, slice_ready, lookahead_ready, cast_ready, binary_ready, asked_ready}
use Rattle.v1_ready_laws.proofs.Rules.{first_false, second_false, front_none, rest_none}
use Rattle.v1_parser_laws.proofs.Parts.{below_or}
use Rattle.v1_call_laws.specs.Telling.{IsBelow}

-- what an expression gives, where it gives a value
abbrev pub IfBelow : Ended → Type 0
IfBelow (given v) = IsBelow v
IfBelow (failed e) = Unit {0}

positive : (w : ℕ) → 0 < 2 ^ w
positive w = pow_pos w

under : (a b n : ℕ) → a ≤ b → b < n → a < n
under a b n le lt = omega (arith, le, lt)

less : (n a : ℕ) → 0 < n → n - 1 - a < n
less n a h = omega (arith, h)

most : (a n : ℕ) → 0 < n → min a (n - 1) < n
most a n h = omega (arith, h)

left : (a b n : ℕ) → a < n → a - b < n
left a b n h = omega (arith, h)

divided : (a b : ℕ) → a / b ≤ a
divided a b = div-le_self a b

a_bit : (w : ℕ) (holds : Bool) → 0 < w → bit holds < 2 ^ w
a_bit w holds h = let p : 2 ^ 1 ≤ 2 ^ w = pow_mono {j = w} h in by (2 ^ w) holds (omega (arith, p)) where
  by : (n : ℕ) (b : Bool) → 2 ≤ n → bit b < n
  by n false le = omega (arith, le)
  by n true le = omega (arith, le)

-- operators

pub unary_below : (operator : UnaryOperator) (v : Value) → IsBelow v → IsBelow (unary_value operator v)
unary_below Not (a_number v a) h = tt
unary_below Not (a_truth a) h = tt
unary_below Not (an_error a) h = tt
unary_below Not (a_header j) h = tt
unary_below Not (a_stack place elements) h = tt
unary_below Not no_members h = tt
unary_below Not (a_member called of rest) h = tt
unary_below Not (a_symbol word) h = tt
unary_below Not (some_bits list) h = tt
unary_below Not no_value h = tt
unary_below Complement (a_number v a) h = less (2 ^ v) a (positive v)
unary_below Complement (a_truth a) h = tt
unary_below Complement (an_error a) h = tt
unary_below Complement (a_header j) h = tt
unary_below Complement (a_stack place elements) h = tt
unary_below Complement no_members h = tt
unary_below Complement (a_member called of rest) h = tt
unary_below Complement (a_symbol word) h = tt
unary_below Complement (some_bits list) h = tt
unary_below Complement no_value h = tt
unary_below Negate (a_number v a) h = mod-lt (2 ^ v - a) (positive v)
unary_below Negate (a_truth a) h = tt
unary_below Negate (an_error a) h = tt
unary_below Negate (a_header j) h = tt
unary_below Negate (a_stack place elements) h = tt
unary_below Negate no_members h = tt
unary_below Negate (a_member called of rest) h = tt
unary_below Negate (a_symbol word) h = tt
unary_below Negate (some_bits list) h = tt
unary_below Negate no_value h = tt

-- a number and one of its width
joint_below : (operator : BinaryOperator) (w a b : ℕ) → a < 2 ^ w → b < 2 ^ w → IsBelow (joint_value operator w a b)
joint_below Multiply w a b h g = mod-lt (a * b) (positive w)
joint_below Add w a b h g = mod-lt (a + b) (positive w)
joint_below Subtract w a b h g = mod-lt (a + 2 ^ w - b) (positive w)
joint_below SaturatingAdd w a b h g = most (a + b) (2 ^ w) (positive w)
joint_below SaturatingSubtract w a b h g = left a b (2 ^ w) h
joint_below Concatenate w a b h g = tt
joint_below ShiftLeft w a b h g = tt
joint_below ShiftRight w a b h g = tt
joint_below BitAnd w a b h g = under (bit_and a b) a (2 ^ w) (and_le_l a b) h
joint_below BitXor w a b h g = xor_lt w a b h g
joint_below BitOr w a b h g = or_lt w a b h g
joint_below Less w a b h g = tt
joint_below LessEqual w a b h g = tt
joint_below Greater w a b h g = tt
joint_below GreaterEqual w a b h g = tt
joint_below Equal w a b h g = tt
joint_below NotEqual w a b h g = tt
joint_below And w a b h g = tt
joint_below Or w a b h g = tt

joined_below : (w a v b : ℕ) → a < 2 ^ w → b < 2 ^ v → a * 2 ^ v + b < 2 ^ (w + v)
joined_below w a v b h g =
    let turned_round : w + v ≡ v + w = omega arith in
    subst (λ (k : ℕ). a * 2 ^ v + b < k) (sym (ap (λ (k : ℕ). 2 ^ k) turned_round ∙ pow-add 2 v w)) (mul-add-lt a (2 ^ v) b (2 ^ w) h g)

either_below : (t : Bool) (x y : Value) → IsBelow x → IsBelow y → IsBelow (cond t x y)
either_below true x y h g = h
either_below false x y h g = g

shift_below : (t : Bool) (n w : ℕ) → n < 2 ^ w → cond t 0 n < 2 ^ w
shift_below true n w h = positive w
shift_below false n w h = h

apart_below : (operator : BinaryOperator) (w a v b : ℕ) → a < 2 ^ w → b < 2 ^ v → IsBelow (apart_value operator w a v b)
apart_below Multiply w a v b h g = tt
apart_below Add w a v b h g = tt
apart_below Subtract w a v b h g = tt
apart_below SaturatingAdd w a v b h g = tt
apart_below SaturatingSubtract w a v b h g = tt
apart_below Concatenate w a v b h g = either_below (nat_le (w + v) 128) (a_number (w + v) (a * 2 ^ v + b)) no_value (joined_below w a v b h g) tt
apart_below ShiftLeft w a v b h g = shift_below (nat_le w b) (a * 2 ^ b % 2 ^ w) w (mod-lt (a * 2 ^ b) (positive w))
apart_below ShiftRight w a v b h g = shift_below (nat_le w b) (a / 2 ^ b) w (under (a / 2 ^ b) a (2 ^ w) (divided a (2 ^ b)) h)
apart_below BitAnd w a v b h g = tt
apart_below BitXor w a v b h g = tt
apart_below BitOr w a v b h g = tt
apart_below Less w a v b h g = tt
apart_below LessEqual w a v b h g = tt
apart_below Greater w a v b h g = tt
apart_below GreaterEqual w a v b h g = tt
apart_below Equal w a v b h g = tt
apart_below NotEqual w a v b h g = tt
apart_below And w a v b h g = tt
apart_below Or w a v b h g = tt

words_below : (operator : BinaryOperator) (w a v b : ℕ) → a < 2 ^ w → b < 2 ^ v → IsBelow (word_value operator w a v b)
words_below operator w a v b h g = by (is_joint operator) (nat_eq w v) refl where
  by : (t u : Bool) → nat_eq w v ≡ u → IsBelow (cond t (cond u (joint_value operator w a b) no_value) (apart_value operator w a v b))
  by true true e = joint_below operator w a b h (subst (λ (k : ℕ). b < 2 ^ k) (sym (eqb-true w v e)) g)
  by true false e = tt
  by false u e = apart_below operator w a v b h g

truths_below : (operator : BinaryOperator) (a b : Bool) → IsBelow (of_truths operator a b)
truths_below Multiply a b = tt
truths_below Add a b = tt
truths_below Subtract a b = tt
truths_below SaturatingAdd a b = tt
truths_below SaturatingSubtract a b = tt
truths_below Concatenate a b = tt
truths_below ShiftLeft a b = tt
truths_below ShiftRight a b = tt
truths_below BitAnd a b = tt
truths_below BitXor a b = tt
truths_below BitOr a b = tt
truths_below Less a b = tt
truths_below LessEqual a b = tt
truths_below Greater a b = tt
truths_below GreaterEqual a b = tt
truths_below Equal a b = tt
truths_below NotEqual a b = tt
truths_below And a b = tt
truths_below Or a b = tt

errors_below : (operator : BinaryOperator) (a b : ℕ) → IsBelow (of_errors operator a b)
errors_below Multiply a b = tt
errors_below Add a b = tt
errors_below Subtract a b = tt
errors_below SaturatingAdd a b = tt
errors_below SaturatingSubtract a b = tt
errors_below Concatenate a b = tt
errors_below ShiftLeft a b = tt
errors_below ShiftRight a b = tt
errors_below BitAnd a b = tt
errors_below BitXor a b = tt
errors_below BitOr a b = tt
errors_below Less a b = tt
errors_below LessEqual a b = tt
errors_below Greater a b = tt
errors_below GreaterEqual a b = tt
errors_below Equal a b = tt
errors_below NotEqual a b = tt
errors_below And a b = tt
errors_below Or a b = tt

pub pair_below : (operator : BinaryOperator) (x y : Value) → IsBelow x → IsBelow y → IsBelow (pair_value operator x y)
pair_below operator (a_number v a) (a_number u d) h g = words_below operator v a u d h g
pair_below operator (a_number v a) (a_truth d) h g = tt
pair_below operator (a_number v a) (an_error d) h g = tt
pair_below operator (a_number v a) (a_header i) h g = tt
pair_below operator (a_number v a) (a_stack other more) h g = tt
pair_below operator (a_number v a) no_members h g = tt
pair_below operator (a_number v a) (a_member named it others) h g = tt
pair_below operator (a_number v a) (a_symbol term) h g = tt
pair_below operator (a_number v a) (some_bits row) h g = tt
pair_below operator (a_number v a) no_value h g = tt
pair_below operator (a_truth a) (a_number u d) h g = tt
pair_below operator (a_truth a) (a_truth d) h g = truths_below operator a d
pair_below operator (a_truth a) (an_error d) h g = tt
pair_below operator (a_truth a) (a_header i) h g = tt
pair_below operator (a_truth a) (a_stack other more) h g = tt
pair_below operator (a_truth a) no_members h g = tt
pair_below operator (a_truth a) (a_member named it others) h g = tt
pair_below operator (a_truth a) (a_symbol term) h g = tt
pair_below operator (a_truth a) (some_bits row) h g = tt
pair_below operator (a_truth a) no_value h g = tt
pair_below operator (an_error a) (a_number u d) h g = tt
pair_below operator (an_error a) (a_truth d) h g = tt
pair_below operator (an_error a) (an_error d) h g = errors_below operator a d
pair_below operator (an_error a) (a_header i) h g = tt
pair_below operator (an_error a) (a_stack other more) h g = tt
pair_below operator (an_error a) no_members h g = tt
pair_below operator (an_error a) (a_member named it others) h g = tt
pair_below operator (an_error a) (a_symbol term) h g = tt
pair_below operator (an_error a) (some_bits row) h g = tt
pair_below operator (an_error a) no_value h g = tt
pair_below operator (a_header j) (a_number u d) h g = tt
pair_below operator (a_header j) (a_truth d) h g = tt
pair_below operator (a_header j) (an_error d) h g = tt
pair_below operator (a_header j) (a_header i) h g = tt
pair_below operator (a_header j) (a_stack other more) h g = tt
pair_below operator (a_header j) no_members h g = tt
pair_below operator (a_header j) (a_member named it others) h g = tt
pair_below operator (a_header j) (a_symbol term) h g = tt
pair_below operator (a_header j) (some_bits row) h g = tt
pair_below operator (a_header j) no_value h g = tt
pair_below operator (a_stack place elements) (a_number u d) h g = tt
pair_below operator (a_stack place elements) (a_truth d) h g = tt
pair_below operator (a_stack place elements) (an_error d) h g = tt
pair_below operator (a_stack place elements) (a_header i) h g = tt
pair_below operator (a_stack place elements) (a_stack other more) h g = tt
pair_below operator (a_stack place elements) no_members h g = tt
pair_below operator (a_stack place elements) (a_member named it others) h g = tt
pair_below operator (a_stack place elements) (a_symbol term) h g = tt
pair_below operator (a_stack place elements) (some_bits row) h g = tt
pair_below operator (a_stack place elements) no_value h g = tt
pair_below operator no_members (a_number u d) h g = tt
pair_below operator no_members (a_truth d) h g = tt
pair_below operator no_members (an_error d) h g = tt
pair_below operator no_members (a_header i) h g = tt
pair_below operator no_members (a_stack other more) h g = tt
pair_below operator no_members no_members h g = tt
pair_below operator no_members (a_member named it others) h g = tt
pair_below operator no_members (a_symbol term) h g = tt
pair_below operator no_members (some_bits row) h g = tt
pair_below operator no_members no_value h g = tt
pair_below operator (a_member called of rest) (a_number u d) h g = tt
pair_below operator (a_member called of rest) (a_truth d) h g = tt
pair_below operator (a_member called of rest) (an_error d) h g = tt
pair_below operator (a_member called of rest) (a_header i) h g = tt
pair_below operator (a_member called of rest) (a_stack other more) h g = tt
pair_below operator (a_member called of rest) no_members h g = tt
pair_below operator (a_member called of rest) (a_member named it others) h g = tt
pair_below operator (a_member called of rest) (a_symbol term) h g = tt
pair_below operator (a_member called of rest) (some_bits row) h g = tt
pair_below operator (a_member called of rest) no_value h g = tt
pair_below operator (a_symbol word) (a_number u d) h g = tt
pair_below operator (a_symbol word) (a_truth d) h g = tt
pair_below operator (a_symbol word) (an_error d) h g = tt
pair_below operator (a_symbol word) (a_header i) h g = tt
pair_below operator (a_symbol word) (a_stack other more) h g = tt
pair_below operator (a_symbol word) no_members h g = tt
pair_below operator (a_symbol word) (a_member named it others) h g = tt
pair_below operator (a_symbol word) (a_symbol term) h g = tt
pair_below operator (a_symbol word) (some_bits row) h g = tt
pair_below operator (a_symbol word) no_value h g = tt
pair_below operator (some_bits list) (a_number u d) h g = tt
pair_below operator (some_bits list) (a_truth d) h g = tt
pair_below operator (some_bits list) (an_error d) h g = tt
pair_below operator (some_bits list) (a_header i) h g = tt
pair_below operator (some_bits list) (a_stack other more) h g = tt
pair_below operator (some_bits list) no_members h g = tt
pair_below operator (some_bits list) (a_member named it others) h g = tt
pair_below operator (some_bits list) (a_symbol term) h g = tt
pair_below operator (some_bits list) (some_bits row) h g = tt
pair_below operator (some_bits list) no_value h g = tt
pair_below operator no_value (a_number u d) h g = tt
pair_below operator no_value (a_truth d) h g = tt
pair_below operator no_value (an_error d) h g = tt
pair_below operator no_value (a_header i) h g = tt
pair_below operator no_value (a_stack other more) h g = tt
pair_below operator no_value no_members h g = tt
pair_below operator no_value (a_member named it others) h g = tt
pair_below operator no_value (a_symbol term) h g = tt
pair_below operator no_value (some_bits row) h g = tt
pair_below operator no_value no_value h g = tt

pub to_bits_below : (w : ℕ) (v : Value) → 0 < w → IsBelow (bits_value w v)
to_bits_below w (a_number v a) h = mod-lt a (positive w)
to_bits_below w (a_truth a) h = a_bit w a h
to_bits_below w (an_error a) h = tt
to_bits_below w (a_header j) h = tt
to_bits_below w (a_stack place elements) h = tt
to_bits_below w no_members h = tt
to_bits_below w (a_member called of rest) h = tt
to_bits_below w (a_symbol word) h = tt
to_bits_below w (some_bits list) h = tt
to_bits_below w no_value h = tt

to_truth_below : (v : Value) → IsBelow (truth_value v)
to_truth_below (a_number v a) = tt
to_truth_below (a_truth a) = tt
to_truth_below (an_error a) = tt
to_truth_below (a_header j) = tt
to_truth_below (a_stack place elements) = tt
to_truth_below no_members = tt
to_truth_below (a_member called of rest) = tt
to_truth_below (a_symbol word) = tt
to_truth_below (some_bits list) = tt
to_truth_below no_value = tt

pub slice_below : (place width n : ℕ) → IsBelow (a_number width (sliced (slice_at place width) n))
slice_below place width n = mod-lt (n / 2 ^ place) (positive width)

-- the constants of an expression are below, and what it is cast to has bits
abbrev pub Sane : Ready → Type 0
Sane (ready.constant v) = IsBelow v
Sane (ready.slice e place width) = Sane e
Sane (ready.to_bits width e) = (0 < width) × Sane e
Sane (ready.to_truth e) = Sane e
Sane (ready.unary operator e) = Sane e
Sane (ready.both a b) = Sane a × Sane b
Sane (ready.either a b) = Sane a × Sane b
Sane (ready.binary operator a b) = Sane a × Sane b
Sane (ready.choice c a b) = Sane c × Sane a × Sane b
Sane e = Unit {0}

module _ (c : Cells) (left : List ℕ) (whole : AreWhole c) where
  pub slot_below : (slot : ℕ) → slot_value c slot < 2 ^ get_or c.layout.widths slot 0
  slot_below slot = by (is_live c slot) (below_or slot (length c.layout.widths)) where
    by : (live : Bool) → (slot < length c.layout.widths) ⊎ (length c.layout.widths ≤ slot) → cond live (get_or c.numbers slot 0) 0 < 2 ^ get_or c.layout.widths slot 0
    by true (inl lt) = whole.fits slot lt
    by true (inr le) = subst (λ (k : ℕ). k < 2 ^ get_or c.layout.widths slot 0) (sym (get_or_past c.numbers slot 0 (omega (arith, le, whole.numbers)))) (positive (get_or c.layout.widths slot 0))
    by false place = positive (get_or c.layout.widths slot 0)

  content_below : (of : Content) (slot : ℕ) → IsBelow (value_in c of slot)
  content_below content.Bits slot = slot_below slot
  content_below content.Truth slot = tt
  content_below content.Error slot = tt

  stack_below : (e : Element) (v : Value) → IsBelow v → IfBelow (within_stack c e v)
  stack_below e v h = by (is_past e.which (stack_place c e.stack) (stack_size c e.stack)) where
    by : (past : Bool) → IfBelow (cond past (failed StackOutOfBounds) (given v))
    by true = tt
    by false = h

  ahead_below : (width : ℕ) → IfBelow (bits_ahead left width)
  ahead_below width = by (nat_lt width (8 * length left + 1)) where
    by : (enough : Bool) → IfBelow (cond enough (given (a_number width (num (take width (octet_bits left))))) (failed PacketTooShort))
    by true = num_of_take_below width (octet_bits left)
    by false = tt

  after : (x : Ended) (f : Value → Ended) → IfBelow x → ((v : Value) → IsBelow v → IfBelow (f v)) → IfBelow (and_then x f)
  after (given v) f h g = g v h
  after (failed e) f h g = tt

  chosen : (t : Bool) (x y : Ended) → IfBelow x → IfBelow y → IfBelow (cond t x y)
  chosen true x y h g = h
  chosen false x y h g = g

  pub value_below : (e : Ready) → Sane e → IfBelow (ready_value c left e)
  value_below (ready.constant v) sane = sane
  value_below (ready.slot of number) sane = content_below of number
  value_below (ready.element_slot of) sane = stack_below of (value_in c content.Bits (part_number c of)) (content_below content.Bits (part_number c of))
  value_below (ready.valid at) sane = tt
  value_below (ready.element_valid of) sane = stack_below of (a_truth (header_valid c (part_number c of))) tt
  value_below (ready.ahead width) sane = ahead_below width
  value_below (ready.slice e place width) sane = after (ready_value c left e) (λ x. given (a_number width (sliced (slice_at place width) (number_in x)))) (value_below e sane) (λ v h. slice_below place width (number_in v))
  value_below (ready.to_bits width e) sane = after (ready_value c left e) (λ x. given (bits_value width x)) (value_below e sane.1) (λ v h. to_bits_below width v sane.0)
  value_below (ready.to_truth e) sane = after (ready_value c left e) (λ x. given (truth_value x)) (value_below e sane) (λ v h. to_truth_below v)
  value_below (ready.unary operator e) sane = after (ready_value c left e) (λ x. given (unary_value operator x)) (value_below e sane) (λ v h. unary_below operator v h)
  value_below (ready.both a b) sane = after (ready_value c left a) (λ x. cond (is_true x) (ready_value c left b) (given x)) (value_below a sane.0) (λ v h. chosen (is_true v) (ready_value c left b) (given v) (value_below b sane.1) h)
  value_below (ready.either a b) sane = after (ready_value c left a) (λ x. cond (is_true x) (given x) (ready_value c left b)) (value_below a sane.0) (λ v h. chosen (is_true v) (given v) (ready_value c left b) h (value_below b sane.1))
  value_below (ready.binary operator a b) sane = after (ready_value c left a) (λ x. and_then (ready_value c left b) (λ y. given (pair_value operator x y))) (value_below a sane.0) (λ v h. after (ready_value c left b) (λ y. given (pair_value operator v y)) (value_below b sane.1) (λ u g. pair_below operator v u h g))
  value_below (ready.choice d a b) sane = after (ready_value c left d) (λ x. cond (is_true x) (ready_value c left a) (ready_value c left b)) (value_below d sane.0) (λ v h. chosen (is_true v) (ready_value c left a) (ready_value c left b) (value_below a sane.1) (value_below b sane.2))

-- ready expressions are so

abbrev SomeSane : Option Ready → Type 0
SomeSane o = IfSome o Sane

lone_sane : (way : Way) (o : Option Ready) → SomeSane o → SomeSane (alone way o)
lone_sane its_value o h = h
lone_sane its_validity o h = tt
lone_sane (through_member word way) o h = tt
lone_sane (through_element number way) o h = tt
lone_sane (through_told which way) o h = tt

mapped_sane : (g : Ready → Ready) (o : Option Ready) → ((x : Ready) → Sane x → Sane (g x)) → SomeSane o → SomeSane (option_map g o)
mapped_sane g None f h = tt
mapped_sane g (Some x) f h = f x h

two_sane : (g : Ready → Ready → Ready) (o p : Option Ready) → ((x y : Ready) → Sane x → Sane y → Sane (g x y)) → SomeSane o → SomeSane p → SomeSane (with_two g o p)
two_sane g None p f h k = tt
two_sane g (Some x) None f h k = tt
two_sane g (Some x) (Some y) f h k = f x y h k

three_sane : (o p q : Option Ready) → SomeSane o → SomeSane p → SomeSane q → SomeSane (with_three ready.choice o p q)
three_sane None p q h k l = tt
three_sane (Some x) None q h k l = tt
three_sane (Some x) (Some y) None h k l = tt
three_sane (Some x) (Some y) (Some z) h k l = (h, k, l)

-- what names lead to has no constants
value_sane : (x : Spot) → SomeSane (value_ready x)
value_sane x = by x.seat.form x.told where
  by : (f : Form) (told : Option Told) → SomeSane (value_ready (record { seat = record { depth = x.seat.depth; form = f; start = x.seat.start; owner = x.seat.owner }; told = told }))
  by (slot_form (bits_content width)) None = tt
  by (slot_form truth_content) None = tt
  by (slot_form error_content) None = tt
  by (slot_form (bits_content width)) (Some t) = tt
  by (slot_form truth_content) (Some t) = tt
  by (slot_form error_content) (Some t) = tt
  by (header_form type) None = tt
  by (header_form type) (Some t) = tt
  by (stack_form type size) None = tt
  by (stack_form type size) (Some t) = tt
  by (struct_form type) None = tt
  by (struct_form type) (Some t) = tt
  by no_form None = tt
  by no_form (Some t) = tt

validity_sane : (x : Spot) → SomeSane (validity_ready x)
validity_sane x = by x.seat.form x.told where
  by : (f : Form) (told : Option Told) → SomeSane (validity_ready (record { seat = record { depth = x.seat.depth; form = f; start = x.seat.start; owner = x.seat.owner }; told = told }))
  by (slot_form of) None = tt
  by (slot_form of) (Some t) = tt
  by (header_form type) None = tt
  by (header_form type) (Some t) = tt
  by (stack_form type size) None = tt
  by (stack_form type size) (Some t) = tt
  by (struct_form type) None = tt
  by (struct_form type) (Some t) = tt
  by no_form None = tt
  by no_form (Some t) = tt

behind_sane : (further : Spot → Option Ready) (o : Option Spot) → ((x : Spot) → SomeSane (further x)) → SomeSane (ready_behind further o)
behind_sane further None f = tt
behind_sane further (Some x) f = f x

way_sane : (types : List Layout) (way : Way) (x : Spot) → SomeSane (way_ready types way x)
way_sane types its_value x = value_sane x
way_sane types its_validity x = validity_sane x
way_sane types (through_member word way) x = behind_sane (way_ready types way) (spot_behind types (to_member word) x) (way_sane types way)
way_sane types (through_element number way) x = behind_sane (way_ready types way) (spot_behind types (to_element number) x) (way_sane types way)
way_sane types (through_told which way) x = behind_sane (way_ready types way) (told_spot types which x) (way_sane types way)

error_sane : (e : Exp16) (way : Way) (n : ℕ) → SomeSane (only_error e (alone way (Some (ready.constant (an_error n)))))
error_sane (literal l) way n = tt
error_sane (truth holds) way n = tt
error_sane (name text) way n = tt
error_sane (member e word) way n = tt
error_sane (index e at) way n = tt
error_sane (slice e high low) way n = tt
error_sane (call g other) way n = tt
error_sane (lookahead e to other) way n = tt
error_sane (cast to e) way n = tt
error_sane (unary operator e) way n = tt
error_sane (binary operator a b) way n = tt
error_sane (choice c a d) way n = tt
error_sane (parenthesized e) way n = tt
error_sane no_arguments way n = tt
error_sane (argument before last) way n = tt
error_sane (listed es) way n = tt
error_sane error way n = lone_sane way (Some (ready.constant (an_error n))) tt

members_sane : (k : Kind) (e : Exp16) (word : Name) (way : Way) (ask : Way → Option Ready) → ((further : Way) → SomeSane (ask further)) → SomeSane (member_ready k e word way ask)
members_sane (bits width) e word way ask h = h (through_member word way)
members_sane unsized e word way ask h = h (through_member word way)
members_sane boolean e word way ask h = h (through_member word way)
members_sane error_code e word way ask h = h (through_member word way)
members_sane (header type) e word way ask h = h (through_member word way)
members_sane (stack type size) e word way ask h = h (through_told (which_of word) way)
members_sane (struct type) e word way ask h = h (through_member word way)
members_sane packet_in e word way ask h = h (through_member word way)
members_sane packet_out e word way ask h = h (through_member word way)
members_sane errors e word way ask h = error_sane e way (number_of_error word)
members_sane (enumeration enum) e word way ask h = tt
members_sane (one_of enum) e word way ask h = h (through_member word way)
members_sane table e word way ask h = h (through_member word way)
members_sane applied e word way ask h = h (through_member word way)
members_sane (object obj) e word way ask h = h (through_member word way)
members_sane items e word way ask h = h (through_member word way)
members_sane nothing e word way ask h = h (through_member word way)
members_sane unknown e word way ask h = h (through_member word way)

methods_sane : (k : Kind) (way : Way) (ask : Way → Option Ready) → ((further : Way) → SomeSane (ask further)) → SomeSane (method_ready k way ask)
methods_sane (bits width) way ask h = tt
methods_sane unsized way ask h = tt
methods_sane boolean way ask h = tt
methods_sane error_code way ask h = tt
methods_sane (header type) way ask h = lone_sane way (ask its_validity) (h its_validity)
methods_sane (stack type size) way ask h = tt
methods_sane (struct type) way ask h = tt
methods_sane packet_in way ask h = tt
methods_sane packet_out way ask h = tt
methods_sane errors way ask h = tt
methods_sane (enumeration enum) way ask h = tt
methods_sane (one_of enum) way ask h = tt
methods_sane table way ask h = tt
methods_sane applied way ask h = tt
methods_sane (object obj) way ask h = tt
methods_sane items way ask h = tt
methods_sane nothing way ask h = tt
methods_sane unknown way ask h = tt

ahead_sane : (k : Kind) → SomeSane (lookahead_ready k)
ahead_sane (bits width) = tt
ahead_sane unsized = tt
ahead_sane boolean = tt
ahead_sane error_code = tt
ahead_sane (header type) = tt
ahead_sane (stack type size) = tt
ahead_sane (struct type) = tt
ahead_sane packet_in = tt
ahead_sane packet_out = tt
ahead_sane errors = tt
ahead_sane (enumeration enum) = tt
ahead_sane (one_of enum) = tt
ahead_sane table = tt
ahead_sane applied = tt
ahead_sane (object obj) = tt
ahead_sane items = tt
ahead_sane nothing = tt
ahead_sane unknown = tt

binary_sane : (operator : BinaryOperator) (x y : Ready) → Sane x → Sane y → Sane (binary_ready operator x y)
binary_sane Multiply x y h g = (h, g)
binary_sane Add x y h g = (h, g)
binary_sane Subtract x y h g = (h, g)
binary_sane SaturatingAdd x y h g = (h, g)
binary_sane SaturatingSubtract x y h g = (h, g)
binary_sane Concatenate x y h g = (h, g)
binary_sane ShiftLeft x y h g = (h, g)
binary_sane ShiftRight x y h g = (h, g)
binary_sane BitAnd x y h g = (h, g)
binary_sane BitXor x y h g = (h, g)
binary_sane BitOr x y h g = (h, g)
binary_sane Less x y h g = (h, g)
binary_sane LessEqual x y h g = (h, g)
binary_sane Greater x y h g = (h, g)
binary_sane GreaterEqual x y h g = (h, g)
binary_sane Equal x y h g = (h, g)
binary_sane NotEqual x y h g = (h, g)
binary_sane And x y h g = (h, g)
binary_sane Or x y h g = (h, g)

cast_sane : (to : CastType) (x : Ready) → list_any leaves_size (cast_numbers to) ≡ false → Sane x → Sane (cast_ready to x)
cast_sane (cast_to.Bit n) x kept h = (wide n.value (first_false (nat_lt n.value 1) (nat_lt 128 n.value) (first_false (is_bad_width n) false kept)), h) where
  wide : (k : ℕ) → nat_lt k 1 ≡ false → 0 < k
  wide k e = let le : 1 ≤ k = ltb-false k 1 e in omega (arith, le)
cast_sane cast_to.Bool x kept h = h

module _ (s : Scope) (seats : List NamedSeat) where
  abbrev Fits : List Use → Type 0
  Fits all = list_any leaves_size all ≡ false

  behind_first : (x : Use) (xs : List Use) → Fits (x ∷ xs) → Fits xs
  behind_first x xs kept = second_false (leaves_size x) (list_any leaves_size xs) kept

  pub ready_sane : (q p : Place) (way : Way) (e : Exp16) → Fits (uses_at s (one q) e) → SomeSane (asked_ready s seats p way e)
  ready_sane q p way (literal n) kept = lone_sane way (Some (ready.constant (literal_number p n))) (mod-lt n.value (positive (literal_width p n.width)))
  ready_sane q p way (truth holds) kept = lone_sane way (Some (ready.constant (a_truth holds))) tt
  ready_sane q p way error kept = tt
  ready_sane q p way (name text) kept = behind_sane (way_ready s.layouts way) (spot_with None (seat_of_name seats text)) (way_sane s.layouts way)
  ready_sane q p way (member e word) kept =
      let r = owner_place q (method_signature (kind_of s e) word) in
      members_sane (kind_of s e) e word way (λ further. asked_ready s seats owner further e)
      (λ further. ready_sane r owner further e (behind_first (an_expression s q (member e word)) (uses_at s (one r) e) kept))
  ready_sane q p way (index e at) kept = ready_sane a_stack a_stack (through_element at.value way) e (behind_first (number_use at) (uses_at s (one a_stack) e) (behind_first (an_expression s q (index e at)) (number_use at ∷ uses_at s (one a_stack) e) kept))
  ready_sane q p way (slice e high low) kept =
      lone_sane way (option_map (slice_ready high low) (asked_ready s seats any_bits its_value e))
      (mapped_sane (slice_ready high low) (asked_ready s seats any_bits its_value e) (λ x h. h)
      (ready_sane any_bits any_bits its_value e (behind_first (number_use low) (uses_at s (one any_bits) e) (behind_first (number_use high) (number_use low ∷ uses_at s (one any_bits) e) (behind_first (an_expression s q (slice e high low)) (number_use high ∷ number_use low ∷ uses_at s (one any_bits) e) kept)))))
  ready_sane q p way (call (member e word) other) kept =
      let f = member e word in
      let r = owner_place callee (method_signature (kind_of s e) word) in
      let arguments = uses_at s (many (wanted_by (signature_of s f)) unasked) other in
      methods_sane (kind_of s e) way (λ further. asked_ready s seats owner further e)
      (λ further. ready_sane r owner further e (behind_first (an_expression s callee f) (uses_at s (one r) e) (front_none leaves_size (uses_at s (one callee) f) arguments (behind_first (an_expression s q (call f other)) (uses_at s (one callee) f ++ arguments) kept))))
  ready_sane q p way (call (literal n) other) kept = tt
  ready_sane q p way (call (truth holds) other) kept = tt
  ready_sane q p way (call error other) kept = tt
  ready_sane q p way (call (name text) other) kept = tt
  ready_sane q p way (call (index e at) other) kept = tt
  ready_sane q p way (call (slice e high low) other) kept = tt
  ready_sane q p way (call (call g more) other) kept = tt
  ready_sane q p way (call (lookahead e to more) other) kept = tt
  ready_sane q p way (call (cast to e) other) kept = tt
  ready_sane q p way (call (unary operator e) other) kept = tt
  ready_sane q p way (call (binary operator a b) other) kept = tt
  ready_sane q p way (call (choice c a d) other) kept = tt
  ready_sane q p way (call (parenthesized e) other) kept = tt
  ready_sane q p way (call no_arguments other) kept = tt
  ready_sane q p way (call (argument before last) other) kept = tt
  ready_sane q p way (call (listed es) other) kept = tt
  ready_sane q p way (lookahead e to other) kept = lone_sane way (lookahead_ready (kind_of_type s.names to)) (ahead_sane (kind_of_type s.names to))
  ready_sane q p way (cast to e) kept =
      let both : Fits (cast_numbers to ++ uses_at s (one (cast_place to)) e) = behind_first (an_expression s q (cast to e)) (cast_numbers to ++ uses_at s (one (cast_place to)) e) kept in
      lone_sane way (option_map (cast_ready to) (asked_ready s seats (cast_place to) its_value e))
      (mapped_sane (cast_ready to) (asked_ready s seats (cast_place to) its_value e) (λ x h. cast_sane to x (front_none leaves_size (cast_numbers to) (uses_at s (one (cast_place to)) e) both) h)
      (ready_sane (cast_place to) (cast_place to) its_value e (rest_none leaves_size (cast_numbers to) (uses_at s (one (cast_place to)) e) both)))
  ready_sane q p way (unary operator e) kept =
      let r = unary_place q operator (kind_of s e) in
      let l = unary_place p operator (kind_of s e) in
      lone_sane way (option_map (ready.unary operator) (asked_ready s seats l its_value e))
      (mapped_sane (ready.unary operator) (asked_ready s seats l its_value e) (λ x h. h)
      (ready_sane r l its_value e (behind_first (an_expression s q (unary operator e)) (uses_at s (one r) e) kept)))
  ready_sane q p way (binary operator a b) kept =
      let l = uses_at s (one (left_place q operator (kind_of s a) (kind_of s b))) a in
      let r = uses_at s (one (right_place q operator (kind_of s a) (kind_of s b))) b in
      let both : Fits (l ++ r) = behind_first (an_expression s q (binary operator a b)) (l ++ r) kept in
      let x = asked_ready s seats (left_place p operator (kind_of s a) (kind_of s b)) its_value a in
      let y = asked_ready s seats (right_place p operator (kind_of s a) (kind_of s b)) its_value b in
      lone_sane way (with_two (binary_ready operator) x y)
      (two_sane (binary_ready operator) x y (binary_sane operator)
      (ready_sane (left_place q operator (kind_of s a) (kind_of s b)) (left_place p operator (kind_of s a) (kind_of s b)) its_value a (front_none leaves_size l r both))
      (ready_sane (right_place q operator (kind_of s a) (kind_of s b)) (right_place p operator (kind_of s a) (kind_of s b)) its_value b (rest_none leaves_size l r both)))
  ready_sane q p way (choice d a b) kept =
      let r = chosen_place q (kind_of s a) (kind_of s b) in
      let l = chosen_place p (kind_of s a) (kind_of s b) in
      let x = uses_at s (one (value boolean)) d in
      let y = uses_at s (one r) a in
      let z = uses_at s (one r) b in
      let all : Fits ((x ++ y) ++ z) = behind_first (an_expression s q (choice d a b)) ((x ++ y) ++ z) kept in
      let front : Fits (x ++ y) = front_none leaves_size (x ++ y) z all in
      three_sane (asked_ready s seats (value boolean) its_value d) (asked_ready s seats l way a) (asked_ready s seats l way b)
      (ready_sane (value boolean) (value boolean) its_value d (front_none leaves_size x y front))
      (ready_sane r l way a (rest_none leaves_size x y front))
      (ready_sane r l way b (rest_none leaves_size (x ++ y) z all))
  ready_sane q p way (parenthesized e) kept = tt
  ready_sane q p way no_arguments kept = tt
  ready_sane q p way (argument before last) kept = tt
  ready_sane q p way (listed es) kept = tt
