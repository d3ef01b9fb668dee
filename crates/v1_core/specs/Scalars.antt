-- Single values, and operators on them (P4_16 1.2, "Operations on fixed-width bit types (unsigned integers)", "Operations on
-- Boolean values", "Operations on error types", "Casts"). Operators are those of the meaning where their operands have widths
-- that the rules on types allow; else nothing comes out, which no program that keeps the rules asks for.
use Rattle.std.specs.Prelude.{ℕ, ◌+◌, ◌*◌, ◌%◌, ◌^◌, ◌<◌, ◌≤◌, Bool, true, false, not, ◌==◌, nat_eq, nat_le, if◌then◌else◌}
use Rattle.p4x_bits.specs.BitLists.{bit}
use Rattle.p416_syntax.specs.declared.node.BinaryOperator.{BinaryOperator}
use Rattle.p416_syntax.specs.declared.node.BinaryOperator.TheVariants.{Multiply, Add, Subtract, SaturatingAdd, SaturatingSubtract, Concatenate, ShiftLeft, ShiftRight, BitAnd, BitXor, BitOr, Less, LessEqual, Greater, GreaterEqual, Equal, NotEqual}
use Rattle.v1_core.specs.Values.{Value, a_number, a_truth, an_error, no_value}
use Rattle.v1_core.specs.Numbers.{of_numbers, of_truths, of_errors}
use Rattle.v1_core.specs.declared.scalar.Scalar.{Scalar}
use Rattle.v1_core.specs.declared.scalar.Scalar.TheVariants as scalar

-- the value that a scalar is
abbrev pub seen_scalar : Scalar → Value
seen_scalar (scalar.Number width number) = a_number width number
seen_scalar (scalar.Truth holds) = a_truth holds
seen_scalar (scalar.Error number) = an_error number
seen_scalar scalar.Nothing = no_value

-- a number of so many bits
pub record IsWord (width number : ℕ) : Type 0 where
  pub narrow : width ≤ 128
  pub below : number < 2 ^ width

abbrev pub FitsScalar : Scalar → Type 0
FitsScalar (scalar.Number width number) = IsWord width number
FitsScalar _ = Unit {0}

-- operators of numbers

-- what an operator gives that wants operands of one width
abbrev pub if_joint : BinaryOperator → Value → Value
if_joint Multiply v = v
if_joint Add v = v
if_joint Subtract v = v
if_joint SaturatingAdd v = v
if_joint SaturatingSubtract v = v
if_joint BitAnd v = v
if_joint BitXor v = v
if_joint BitOr v = v
if_joint _ v = no_value

abbrev pub joint_value : BinaryOperator → ℕ → ℕ → ℕ → Value
joint_value operator w a b = if_joint operator (of_numbers operator w a w b)

abbrev pub is_joint : BinaryOperator → Bool
is_joint Multiply = true
is_joint Add = true
is_joint Subtract = true
is_joint SaturatingAdd = true
is_joint SaturatingSubtract = true
is_joint BitAnd = true
is_joint BitXor = true
is_joint BitOr = true
is_joint _ = false

-- `++` gives 128 bits at most
abbrev pub joined_value : ℕ → ℕ → ℕ → ℕ → Value
joined_value w a v b = if nat_le (w + v) 128 then a_number (w + v) (a * 2 ^ v + b) else no_value

-- what the other operators give
abbrev pub apart_value : BinaryOperator → ℕ → ℕ → ℕ → ℕ → Value
apart_value Concatenate w a v b = joined_value w a v b
apart_value ShiftLeft w a v b = of_numbers ShiftLeft w a v b
apart_value ShiftRight w a v b = of_numbers ShiftRight w a v b
apart_value Less w a v b = of_numbers Less w a v b
apart_value LessEqual w a v b = of_numbers LessEqual w a v b
apart_value Greater w a v b = of_numbers Greater w a v b
apart_value GreaterEqual w a v b = of_numbers GreaterEqual w a v b
apart_value Equal w a v b = of_numbers Equal w a v b
apart_value NotEqual w a v b = of_numbers NotEqual w a v b
apart_value _ w a v b = no_value

abbrev pub word_value : BinaryOperator → ℕ → ℕ → ℕ → ℕ → Value
word_value operator w a v b =
    if is_joint operator then (if nat_eq w v then joint_value operator w a b else no_value) else apart_value operator w a v b

abbrev pub pair_value : BinaryOperator → Value → Value → Value
pair_value operator (a_number w a) (a_number v b) = word_value operator w a v b
pair_value operator (a_truth a) (a_truth b) = of_truths operator a b
pair_value operator (an_error a) (an_error b) = of_errors operator a b
pair_value operator _ _ = no_value

-- casts

abbrev pub bits_value : ℕ → Value → Value
bits_value width (a_number v a) = a_number width (a % 2 ^ width)
bits_value width (a_truth a) = a_number width (bit a)
bits_value width _ = no_value

abbrev pub truth_value : Value → Value
truth_value (a_number v a) = a_truth (not (a == 0))
truth_value _ = no_value
