-- Operators on values (P4_16 1.2, "Operations on fixed-width bit types (unsigned integers)", "Operations on Boolean
-- values", "Operations on error types", "Casts"). Sums, differences and products are modulo 2 ^ width, `|+|` and `|-|`
-- saturate, and a shift by the width or more gives 0. Both operands have one width but for shifts and `++`.
use Rattle.std.specs.Prelude.{ℕ, ◌+◌, ◌-◌, ◌*◌, ◌/◌, ◌%◌, ◌^◌, min, Bool, true, false, not, ◌==◌, nat_lt, nat_le, if◌then◌else◌, bit_and, bit_or, bit_xor}
use Rattle.p4x_bits.specs.BitLists.{bit}
use Rattle.p416_syntax.specs.declared.node.CastType.{CastType}
use Rattle.p416_syntax.specs.declared.node.CastType.TheVariants as cast_to
use Rattle.p416_syntax.specs.declared.node.UnaryOperator.{UnaryOperator}
use Rattle.p416_syntax.specs.declared.node.UnaryOperator.TheVariants.{Not, Complement, Negate}
use Rattle.p416_syntax.specs.declared.node.BinaryOperator.{BinaryOperator}
use Rattle.p416_syntax.specs.declared.node.BinaryOperator.TheVariants.{Multiply, Add, Subtract, SaturatingAdd, SaturatingSubtract, Concatenate, ShiftLeft, ShiftRight, BitAnd, BitXor, BitOr, Less, LessEqual, Greater, GreaterEqual, Equal, NotEqual, And, Or}
use Rattle.v1_core.specs.Values.{Value, a_number, a_truth, an_error, no_value}

-- operators on numbers below 2 ^ width

abbrev pub negated : ℕ → ℕ → ℕ
negated width a = (2 ^ width - a) % 2 ^ width

abbrev pub complemented : ℕ → ℕ → ℕ
complemented width a = 2 ^ width - 1 - a

abbrev pub product : ℕ → ℕ → ℕ → ℕ
product width a b = a * b % 2 ^ width

abbrev pub sum_of : ℕ → ℕ → ℕ → ℕ
sum_of width a b = (a + b) % 2 ^ width

abbrev pub difference : ℕ → ℕ → ℕ → ℕ
difference width a b = (a + 2 ^ width - b) % 2 ^ width

-- the greatest number of the width in place of a greater sum, and 0 in place of a negative difference
abbrev pub saturating_sum : ℕ → ℕ → ℕ → ℕ
saturating_sum width a b = min (a + b) (2 ^ width - 1)

abbrev pub saturating_difference : ℕ → ℕ → ℕ
saturating_difference a b = a - b

abbrev pub shifted_left : ℕ → ℕ → ℕ → ℕ
shifted_left width a count = if nat_le width count then 0 else a * 2 ^ count % 2 ^ width

abbrev pub shifted_right : ℕ → ℕ → ℕ → ℕ
shifted_right width a count = if nat_le width count then 0 else a / 2 ^ count

-- Operators on values, of which numbers stand behind their widths. `&&` and `||` aren't among them: what they evaluate is
-- said with expressions.

abbrev pub of_numbers : BinaryOperator → ℕ → ℕ → ℕ → ℕ → Value
of_numbers Multiply w a v b = a_number w (product w a b)
of_numbers Add w a v b = a_number w (sum_of w a b)
of_numbers Subtract w a v b = a_number w (difference w a b)
of_numbers SaturatingAdd w a v b = a_number w (saturating_sum w a b)
of_numbers SaturatingSubtract w a v b = a_number w (saturating_difference a b)
of_numbers Concatenate w a v b = a_number (w + v) (a * 2 ^ v + b)
of_numbers ShiftLeft w a v b = a_number w (shifted_left w a b)
of_numbers ShiftRight w a v b = a_number w (shifted_right w a b)
of_numbers BitAnd w a v b = a_number w (bit_and a b)
of_numbers BitXor w a v b = a_number w (bit_xor a b)
of_numbers BitOr w a v b = a_number w (bit_or a b)
of_numbers Less w a v b = a_truth (nat_lt a b)
of_numbers LessEqual w a v b = a_truth (nat_le a b)
of_numbers Greater w a v b = a_truth (nat_lt b a)
of_numbers GreaterEqual w a v b = a_truth (nat_le b a)
of_numbers Equal w a v b = a_truth (a == b)
of_numbers NotEqual w a v b = a_truth (not (a == b))
of_numbers And w a v b = no_value
of_numbers Or w a v b = no_value

abbrev pub is_same_truth : Bool → Bool → Bool
is_same_truth true b = b
is_same_truth false b = not b

abbrev pub of_truths : BinaryOperator → Bool → Bool → Value
of_truths Equal a b = a_truth (is_same_truth a b)
of_truths NotEqual a b = a_truth (not (is_same_truth a b))
of_truths _ a b = no_value

abbrev pub of_errors : BinaryOperator → ℕ → ℕ → Value
of_errors Equal a b = a_truth (a == b)
of_errors NotEqual a b = a_truth (not (a == b))
of_errors _ a b = no_value

abbrev pub binary_value : BinaryOperator → Value → Value → Value
binary_value operator (a_number w a) (a_number v b) = of_numbers operator w a v b
binary_value operator (a_truth a) (a_truth b) = of_truths operator a b
binary_value operator (an_error a) (an_error b) = of_errors operator a b
binary_value operator _ _ = no_value

abbrev pub unary_value : UnaryOperator → Value → Value
unary_value Not (a_truth a) = a_truth (not a)
unary_value Complement (a_number w a) = a_number w (complemented w a)
unary_value Negate (a_number w a) = a_number w (negated w a)
unary_value _ _ = no_value

-- A cast to fewer bits keeps the low ones, one to more adds zeros; one bit and a truth value are cast into each other.
abbrev pub cast_value : CastType → Value → Value
cast_value (cast_to.Bit w) (a_number v a) = a_number w.value (a % 2 ^ w.value)
cast_value (cast_to.Bit w) (a_truth a) = a_number w.value (bit a)
cast_value cast_to.Bool (a_number v a) = a_truth (not (a == 0))
cast_value _ _ = no_value

-- a key is equal to what a literal of a keyset stands for
abbrev pub is_equal : Value → Value → Bool
is_equal (a_number w a) (a_number v b) = a == b
is_equal (a_truth a) (a_truth b) = is_same_truth a b
is_equal (an_error a) (an_error b) = a == b
is_equal _ _ = false
