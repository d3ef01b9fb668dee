-- Operators give the same where the widths of their operands fit, and so do casts.
use Rattle.std.proofs.Common.{◌≡◌, ℕ, ◌+◌, ◌≤◌, ◌*◌, ◌^◌, nat_eq, nat_le, Bool, cond, refl, ap, subst}
use Rattle.std.proofs.lemmas.Bool.{eq-eqb, le-leb}
use Rattle.p416_syntax.specs.declared.lexeme.Literal16.{Literal16}
use Rattle.p416_syntax.specs.declared.node.CastType.TheVariants as cast_to
use Rattle.p416_syntax.specs.declared.node.BinaryOperator.{BinaryOperator}
use Rattle.p416_syntax.specs.declared.node.BinaryOperator.TheVariants.{Multiply, Add, Subtract, SaturatingAdd, SaturatingSubtract, Concatenate, ShiftLeft, ShiftRight, BitAnd, BitXor, BitOr, Less, LessEqual, Greater, GreaterEqual, Equal, NotEqual, And, Or}
use Rattle.v1_core.specs.Values.{Value, a_number, a_truth, an_error, a_header, a_stack, no_members, a_member, a_symbol, some_bits, no_value}
use Rattle.v1_core.specs.Numbers.{of_numbers, binary_value, cast_value}
use Rattle.v1_core.specs.Scalars.{word_value, pair_value, bits_value, truth_value}
use Rattle.v1_ready_laws.specs.Operands.{WidthsFit, PairFits}

joint : (operator : BinaryOperator) (v w a b : ℕ) → v ≡ w → cond (nat_eq v w) (of_numbers operator v a v b) no_value ≡ of_numbers operator v a w b
joint operator v w a b same = subst (λ n. cond (nat_eq v n) (of_numbers operator v a v b) no_value ≡ of_numbers operator v a n b) same (ap (λ (t : Bool). cond t (of_numbers operator v a v b) no_value) (eq-eqb v v refl))

joined : (v w a b : ℕ) → v + w ≤ 128 → cond (nat_le (v + w) 128) (a_number (v + w) (a * 2 ^ w + b)) no_value ≡ a_number (v + w) (a * 2 ^ w + b)
joined v w a b fits = ap (λ (t : Bool). cond t (a_number (v + w) (a * 2 ^ w + b)) no_value) (le-leb (v + w) 128 fits)

-- two numbers
words_same : (operator : BinaryOperator) (v w a b : ℕ) → WidthsFit operator v w → word_value operator v a w b ≡ of_numbers operator v a w b
words_same Multiply v w a b fit = joint Multiply v w a b fit
words_same Add v w a b fit = joint Add v w a b fit
words_same Subtract v w a b fit = joint Subtract v w a b fit
words_same SaturatingAdd v w a b fit = joint SaturatingAdd v w a b fit
words_same SaturatingSubtract v w a b fit = joint SaturatingSubtract v w a b fit
words_same Concatenate v w a b fit = joined v w a b fit
words_same ShiftLeft v w a b fit = refl
words_same ShiftRight v w a b fit = refl
words_same BitAnd v w a b fit = joint BitAnd v w a b fit
words_same BitXor v w a b fit = joint BitXor v w a b fit
words_same BitOr v w a b fit = joint BitOr v w a b fit
words_same Less v w a b fit = refl
words_same LessEqual v w a b fit = refl
words_same Greater v w a b fit = refl
words_same GreaterEqual v w a b fit = refl
words_same Equal v w a b fit = refl
words_same NotEqual v w a b fit = refl
words_same And v w a b fit = refl
words_same Or v w a b fit = refl

-- two values
pub pair_same : (operator : BinaryOperator) (x y : Value) → PairFits operator x y → pair_value operator x y ≡ binary_value operator x y
pair_same operator (a_number v a) (a_number w b) fit = words_same operator v w a b fit
pair_same operator (a_number v a) (a_truth b) fit = refl
pair_same operator (a_number v a) (an_error b) fit = refl
pair_same operator (a_number v a) (a_header h) fit = refl
pair_same operator (a_number v a) (a_stack place elements) fit = refl
pair_same operator (a_number v a) no_members fit = refl
pair_same operator (a_number v a) (a_member called of rest) fit = refl
pair_same operator (a_number v a) (a_symbol word) fit = refl
pair_same operator (a_number v a) (some_bits items) fit = refl
pair_same operator (a_number v a) no_value fit = refl
pair_same operator (a_truth a) (a_number w b) fit = refl
pair_same operator (a_truth a) (a_truth b) fit = refl
pair_same operator (a_truth a) (an_error b) fit = refl
pair_same operator (a_truth a) (a_header h) fit = refl
pair_same operator (a_truth a) (a_stack place elements) fit = refl
pair_same operator (a_truth a) no_members fit = refl
pair_same operator (a_truth a) (a_member called of rest) fit = refl
pair_same operator (a_truth a) (a_symbol word) fit = refl
pair_same operator (a_truth a) (some_bits items) fit = refl
pair_same operator (a_truth a) no_value fit = refl
pair_same operator (an_error a) (a_number w b) fit = refl
pair_same operator (an_error a) (a_truth b) fit = refl
pair_same operator (an_error a) (an_error b) fit = refl
pair_same operator (an_error a) (a_header h) fit = refl
pair_same operator (an_error a) (a_stack place elements) fit = refl
pair_same operator (an_error a) no_members fit = refl
pair_same operator (an_error a) (a_member called of rest) fit = refl
pair_same operator (an_error a) (a_symbol word) fit = refl
pair_same operator (an_error a) (some_bits items) fit = refl
pair_same operator (an_error a) no_value fit = refl
pair_same operator (a_header h) y fit = refl
pair_same operator (a_stack place elements) y fit = refl
pair_same operator no_members y fit = refl
pair_same operator (a_member called of rest) y fit = refl
pair_same operator (a_symbol word) y fit = refl
pair_same operator (some_bits items) y fit = refl
pair_same operator no_value y fit = refl

-- casts

bits_same : (width : ℕ) (v : Value) (n : Literal16) → n.value ≡ width → bits_value n.value v ≡ cast_value (cast_to.Bit n) v
bits_same width (a_number v a) n is = refl
bits_same width (a_truth a) n is = refl
bits_same width (an_error a) n is = refl
bits_same width (a_header h) n is = refl
bits_same width (a_stack place elements) n is = refl
bits_same width no_members n is = refl
bits_same width (a_member called of rest) n is = refl
bits_same width (a_symbol word) n is = refl
bits_same width (some_bits items) n is = refl
bits_same width no_value n is = refl

pub to_bits_same : (n : Literal16) (v : Value) → bits_value n.value v ≡ cast_value (cast_to.Bit n) v
to_bits_same n v = bits_same n.value v n refl

pub to_truth_same : (v : Value) → truth_value v ≡ cast_value cast_to.Bool v
to_truth_same (a_number v a) = refl
to_truth_same (a_truth a) = refl
to_truth_same (an_error a) = refl
to_truth_same (a_header h) = refl
to_truth_same (a_stack place elements) = refl
to_truth_same no_members = refl
to_truth_same (a_member called of rest) = refl
to_truth_same (a_symbol word) = refl
to_truth_same (some_bits items) = refl
to_truth_same no_value = refl
