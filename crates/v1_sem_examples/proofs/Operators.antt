-- Operators at the widths 1, 8, 16, 64, 127 and 128, on the least and the greatest numbers of each.
use Rattle.std.proofs.Common.{◌≡◌, ℕ, ◌-◌, ◌/◌, List, [], ◌∷◌, refl}
use Rattle.std.specs.Prelude.{true, false, map}
use Rattle.p416_syntax.specs.declared.node.CastType.TheVariants.{Bit, Bool as Truth}
use Rattle.p416_syntax.specs.declared.node.UnaryOperator.TheVariants.{Not, Complement, Negate}
use Rattle.p416_syntax.specs.declared.node.BinaryOperator.{BinaryOperator}
use Rattle.p416_syntax.specs.declared.node.BinaryOperator.TheVariants.{Multiply, Add, Subtract, SaturatingAdd, SaturatingSubtract, Concatenate, ShiftLeft, ShiftRight, BitAnd, BitXor, BitOr, Less, LessEqual, Greater, GreaterEqual, Equal, NotEqual}
use Rattle.v1_core.specs.Values.{Value, a_number, a_truth, an_error, Slice, sliced, spliced}
use Rattle.v1_core.specs.Numbers.{unary_value, binary_value, cast_value}
use Rattle.v1_sem_examples.specs.Parts.{number}

-- each width with its greatest number
abbrev greatest : List (ℕ × ℕ)
greatest =
    (1, 1) ∷ (8, 255) ∷ (16, 65535) ∷ (64, 18446744073709551615) ∷ (127, 170141183460469231731687303715884105727)
    ∷ (128, 340282366920938463463374607431768211455) ∷ []

abbrev each : (ℕ → ℕ → Value) → List Value
each f = map (λ (p : ℕ × ℕ). f p.0 p.1) greatest

abbrev both : BinaryOperator → ℕ → ℕ → ℕ → Value
both operator w a b = binary_value operator (a_number w a) (a_number w b)

abbrev shifts : BinaryOperator → ℕ → ℕ → ℕ → Value
shifts operator w a count = binary_value operator (a_number w a) (a_number 8 count)

-- sums, differences and products are modulo 2 ^ width

wraps_past_the_greatest : each (λ w g. both Add w g 1) ≡ each (λ w g. a_number w 0)
wraps_past_the_greatest = refl

adds_0 : each (λ w g. both Add w g 0) ≡ each (λ w g. a_number w g)
adds_0 = refl

wraps_past_0 : each (λ w g. both Subtract w 0 1) ≡ each (λ w g. a_number w g)
wraps_past_0 = refl

subtracts_itself : each (λ w g. both Subtract w g g) ≡ each (λ w g. a_number w 0)
subtracts_itself = refl

-- minus one times minus one is one
multiplies : each (λ w g. both Multiply w g g) ≡ each (λ w g. a_number w 1)
multiplies = refl

-- `|+|` and `|-|` saturate

saturates_at_the_greatest : each (λ w g. both SaturatingAdd w g 1) ≡ each (λ w g. a_number w g)
saturates_at_the_greatest = refl

saturates_far_beyond : each (λ w g. both SaturatingAdd w g g) ≡ each (λ w g. a_number w g)
saturates_far_beyond = refl

saturates_at_0 : each (λ w g. both SaturatingSubtract w 0 g) ≡ each (λ w g. a_number w 0)
saturates_at_0 = refl

subtracts_within : each (λ w g. both SaturatingSubtract w g 1) ≡ a_number 1 0 ∷ a_number 8 254 ∷ a_number 16 65534 ∷ a_number 64 18446744073709551614 ∷ a_number 127 170141183460469231731687303715884105726 ∷ a_number 128 340282366920938463463374607431768211454 ∷ []
subtracts_within = refl

-- a shift by the width or more gives 0

shifts_all_out_left : each (λ w g. shifts ShiftLeft w g w) ≡ each (λ w g. a_number w 0)
shifts_all_out_left = refl

shifts_all_out_right : each (λ w g. shifts ShiftRight w g w) ≡ each (λ w g. a_number w 0)
shifts_all_out_right = refl

shifts_by_more : each (λ w g. shifts ShiftLeft w g 255) ≡ each (λ w g. a_number w 0)
shifts_by_more = refl

shifts_by_0 : each (λ w g. shifts ShiftRight w g 0) ≡ each (λ w g. a_number w g)
shifts_by_0 = refl

shifts_to_the_first_bit : binary_value ShiftLeft (a_number 128 1) (a_number 8 127) ≡ a_number 128 170141183460469231731687303715884105728
shifts_to_the_first_bit = refl

shifts_to_the_last_bit : binary_value ShiftRight (a_number 128 170141183460469231731687303715884105728) (a_number 8 127) ≡ a_number 128 1
shifts_to_the_last_bit = refl

-- bit by bit

conjunction : each (λ w g. both BitAnd w g 1) ≡ each (λ w g. a_number w 1)
conjunction = refl

disjunction : each (λ w g. both BitOr w 0 g) ≡ each (λ w g. a_number w g)
disjunction = refl

exclusive : each (λ w g. both BitXor w g g) ≡ each (λ w g. a_number w 0)
exclusive = refl

complements : each (λ w g. unary_value Complement (a_number w 0)) ≡ each (λ w g. a_number w g)
complements = refl

negates_1 : each (λ w g. unary_value Negate (a_number w 1)) ≡ each (λ w g. a_number w g)
negates_1 = refl

negates_0 : each (λ w g. unary_value Negate (a_number w 0)) ≡ each (λ w g. a_number w 0)
negates_0 = refl

-- comparisons

is_less : each (λ w g. both Less w 0 g) ≡ each (λ w g. a_truth true)
is_less = refl

is_not_less : each (λ w g. both Less w g g) ≡ each (λ w g. a_truth false)
is_not_less = refl

is_at_most : each (λ w g. both LessEqual w g g) ≡ each (λ w g. a_truth true)
is_at_most = refl

is_greater : each (λ w g. both Greater w g 0) ≡ each (λ w g. a_truth true)
is_greater = refl

is_at_least : each (λ w g. both GreaterEqual w 0 g) ≡ each (λ w g. a_truth false)
is_at_least = refl

is_equal : each (λ w g. both Equal w g g) ≡ each (λ w g. a_truth true)
is_equal = refl

is_unequal : each (λ w g. both NotEqual w g g) ≡ each (λ w g. a_truth false)
is_unequal = refl

truths_are_equal : binary_value Equal (a_truth false) (a_truth false) ≡ a_truth true
truths_are_equal = refl

-- truth values

turns_round : unary_value Not (a_truth true) ≡ a_truth false
turns_round = refl

errors_differ : binary_value NotEqual (an_error 0) (an_error 3) ≡ a_truth true
errors_differ = refl

-- widths are joined

concatenates : binary_value Concatenate (a_number 1 1) (a_number 8 5) ≡ a_number 9 261
concatenates = refl

concatenates_halves : binary_value Concatenate (a_number 64 18446744073709551615) (a_number 64 18446744073709551615) ≡ a_number 128 340282366920938463463374607431768211455
concatenates_halves = refl

-- casts

cuts : cast_value (Bit (number 8)) (a_number 16 0x1234) ≡ a_number 8 0x34
cuts = refl

extends : cast_value (Bit (number 128)) (a_number 8 255) ≡ a_number 128 255
extends = refl

to_truth : cast_value Truth (a_number 1 1) ≡ a_truth true
to_truth = refl

from_truth : cast_value (Bit (number 1)) (a_truth true) ≡ a_number 1 1
from_truth = refl

-- slices: [11:4] of 16 bits

abbrev middle : Slice
middle = record { low = 4; width = 8 }

reads_slice : sliced middle 0x1234 ≡ 0x23
reads_slice = refl

writes_slice : spliced middle 0x1234 0xab ≡ 0x1ab4
writes_slice = refl

writes_whole : spliced (record { low = 0; width = 128 }) 340282366920938463463374607431768211455 7 ≡ 7
writes_whole = refl

-- The least and the greatest number of each width, as a table: an operator of 0 and 0, of 0 and g, of g and 0, and of g and g.

abbrev of_limits : BinaryOperator → ℕ → ℕ → List Value
of_limits operator w g = both operator w 0 0 ∷ both operator w 0 g ∷ both operator w g 0 ∷ both operator w g g ∷ []

abbrev Row : Type 0
Row = BinaryOperator × List Value

abbrev numbers : ℕ → List ℕ → List Value
numbers w ns = map (a_number w) ns

abbrev rows : ℕ → ℕ → List Row
rows w g =
    (Add, numbers w (0 ∷ g ∷ g ∷ (g - 1) ∷ []))
    ∷ (Subtract, numbers w (0 ∷ 1 ∷ g ∷ 0 ∷ []))
    ∷ (Multiply, numbers w (0 ∷ 0 ∷ 0 ∷ 1 ∷ []))
    ∷ (SaturatingAdd, numbers w (0 ∷ g ∷ g ∷ g ∷ []))
    ∷ (SaturatingSubtract, numbers w (0 ∷ 0 ∷ g ∷ 0 ∷ []))
    ∷ (BitAnd, numbers w (0 ∷ 0 ∷ 0 ∷ g ∷ []))
    ∷ (BitOr, numbers w (0 ∷ g ∷ g ∷ g ∷ []))
    ∷ (BitXor, numbers w (0 ∷ g ∷ g ∷ 0 ∷ []))
    ∷ (Less, map a_truth (false ∷ true ∷ false ∷ false ∷ []))
    ∷ (LessEqual, map a_truth (true ∷ true ∷ false ∷ true ∷ []))
    ∷ (Greater, map a_truth (false ∷ false ∷ true ∷ false ∷ []))
    ∷ (GreaterEqual, map a_truth (true ∷ false ∷ true ∷ true ∷ []))
    ∷ (Equal, map a_truth (true ∷ false ∷ false ∷ true ∷ []))
    ∷ (NotEqual, map a_truth (false ∷ true ∷ true ∷ false ∷ []))
    ∷ []

abbrev computed : ℕ → ℕ → Row → List Value
computed w g row = of_limits row.0 w g

abbrev told : Row → List Value
told row = row.1

at_the_limits : map (λ (p : ℕ × ℕ). map (computed p.0 p.1) (rows p.0 p.1)) greatest ≡ map (λ (p : ℕ × ℕ). map told (rows p.0 p.1)) greatest
at_the_limits = refl

-- each width with the number of its first bit
abbrev firsts : List (ℕ × ℕ)
firsts =
    (1, 1) ∷ (8, 128) ∷ (16, 32768) ∷ (64, 9223372036854775808) ∷ (127, 85070591730234615865843651857942052864)
    ∷ (128, 170141183460469231731687303715884105728) ∷ []

abbrev at_each : (ℕ → ℕ → Value) → List Value
at_each f = map (λ (p : ℕ × ℕ). f p.0 p.1) firsts

shifts_1_up : at_each (λ w first. shifts ShiftLeft w 1 (w - 1)) ≡ at_each (λ w first. a_number w first)
shifts_1_up = refl

shifts_the_greatest_up : each (λ w g. shifts ShiftLeft w g (w - 1)) ≡ at_each (λ w first. a_number w first)
shifts_the_greatest_up = refl

shifts_the_first_down : at_each (λ w first. shifts ShiftRight w first (w - 1)) ≡ at_each (λ w first. a_number w 1)
shifts_the_first_down = refl

shifts_the_greatest_down : each (λ w g. shifts ShiftRight w g (w - 1)) ≡ each (λ w g. a_number w 1)
shifts_the_greatest_down = refl

shifts_up_by_1 : each (λ w g. shifts ShiftLeft w g 1) ≡ each (λ w g. a_number w (g - 1))
shifts_up_by_1 = refl

shifts_0 : each (λ w g. shifts ShiftLeft w 0 1) ≡ each (λ w g. a_number w 0)
shifts_0 = refl

shifts_up_by_0 : each (λ w g. shifts ShiftLeft w g 0) ≡ each (λ w g. a_number w g)
shifts_up_by_0 = refl

complements_the_greatest : each (λ w g. unary_value Complement (a_number w g)) ≡ each (λ w g. a_number w 0)
complements_the_greatest = refl

negates_the_greatest : each (λ w g. unary_value Negate (a_number w g)) ≡ each (λ w g. a_number w 1)
negates_the_greatest = refl

-- truth values and errors

truths_differ : map (λ operator. binary_value operator (a_truth true) (a_truth false)) (Equal ∷ NotEqual ∷ []) ≡ map a_truth (false ∷ true ∷ [])
truths_differ = refl

is_true_again : unary_value Not (a_truth false) ≡ a_truth true
is_true_again = refl

errors_are_equal : binary_value Equal (an_error 0) (an_error 0) ≡ a_truth true
errors_are_equal = refl

-- `++` of one bit and 127 and of 127 bits and one, the left one in front

joins_to_128 : map (λ (p : Value × Value). binary_value Concatenate p.0 p.1) ((a_number 1 1, a_number 1 0) ∷ (a_number 1 1, a_number 127 0) ∷ (a_number 1 0, a_number 127 170141183460469231731687303715884105727) ∷ (a_number 127 170141183460469231731687303715884105727, a_number 1 0) ∷ (a_number 127 0, a_number 1 1) ∷ []) ≡ a_number 2 2 ∷ a_number 128 170141183460469231731687303715884105728 ∷ a_number 128 170141183460469231731687303715884105727 ∷ a_number 128 340282366920938463463374607431768211454 ∷ a_number 128 1 ∷ []
joins_to_128 = refl

-- casts of the greatest number to its own width, to one bit and to 128 bits; of 2 to one bit; and of the other truth value

casts_to_itself : each (λ w g. cast_value (Bit (number w)) (a_number w g)) ≡ each (λ w g. a_number w g)
casts_to_itself = refl

casts_to_one_bit : each (λ w g. cast_value (Bit (number 1)) (a_number w g)) ≡ each (λ w g. a_number 1 1)
casts_to_one_bit = refl

casts_to_128 : each (λ w g. cast_value (Bit (number 128)) (a_number w g)) ≡ each (λ w g. a_number 128 g)
casts_to_128 = refl

casts_2_to_one_bit : cast_value (Bit (number 1)) (a_number 128 2) ≡ a_number 1 0
casts_2_to_one_bit = refl

casts_falsehood : cast_value Truth (a_number 1 0) ∷ cast_value (Bit (number 1)) (a_truth false) ∷ [] ≡ a_truth false ∷ a_number 1 0 ∷ []
casts_falsehood = refl

-- the whole, the last and the first bit of each width as slices: of g as they are read, and 0 and g as they are written

abbrev slices : ℕ → List Slice
slices w = record { low = 0; width = w } ∷ record { low = 0; width = 1 } ∷ record { low = w - 1; width = 1 } ∷ []

reads_slices : map (λ (p : ℕ × ℕ). map (λ s. sliced s p.1) (slices p.0)) greatest ≡ map (λ (p : ℕ × ℕ). p.1 ∷ 1 ∷ 1 ∷ []) greatest
reads_slices = refl

reads_slices_of_0 : map (λ (p : ℕ × ℕ). map (λ s. sliced s 0) (slices p.0)) greatest ≡ map (λ (p : ℕ × ℕ). 0 ∷ 0 ∷ 0 ∷ []) greatest
reads_slices_of_0 = refl

writes_slices_of_0 : map (λ (p : ℕ × ℕ). map (λ s. spliced s 0 p.1) (slices p.0)) greatest ≡ (1 ∷ 1 ∷ 1 ∷ []) ∷ (255 ∷ 1 ∷ 128 ∷ []) ∷ (65535 ∷ 1 ∷ 32768 ∷ []) ∷ (18446744073709551615 ∷ 1 ∷ 9223372036854775808 ∷ []) ∷ (170141183460469231731687303715884105727 ∷ 1 ∷ 85070591730234615865843651857942052864 ∷ []) ∷ (340282366920938463463374607431768211455 ∷ 1 ∷ 170141183460469231731687303715884105728 ∷ []) ∷ []
writes_slices_of_0 = refl

writes_0_to_slices : map (λ (p : ℕ × ℕ). map (λ s. spliced s p.1 0) (slices p.0)) greatest ≡ map (λ (p : ℕ × ℕ). 0 ∷ (p.1 - 1) ∷ (p.1 / 2) ∷ []) greatest
writes_0_to_slices = refl
