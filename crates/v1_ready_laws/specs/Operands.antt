-- Operands whose widths are those that the rules on types allow (P4_16 1.2, "Operations on fixed-width bit types (unsigned
-- integers)"; that `++` gives 128 bits at most is this project's own).
use Rattle.std.specs.Prelude.{◌≡◌, ℕ, ◌+◌, ◌≤◌}
use Rattle.p416_syntax.specs.declared.node.BinaryOperator.{BinaryOperator}
use Rattle.p416_syntax.specs.declared.node.BinaryOperator.TheVariants.{Multiply, Add, Subtract, SaturatingAdd, SaturatingSubtract, Concatenate, BitAnd, BitXor, BitOr}
use Rattle.p416_syntax.specs.Tree.{Exp16, member, index, slice, call, cast, unary, binary, choice}
use Rattle.p416_syntax.specs.Kinds.{boolean}
use Rattle.p416_syntax.specs.Scopes.{Scope}
use Rattle.p416_syntax.specs.Calls.{Place, value, any_bits, owner, a_stack}
use Rattle.p416_syntax.specs.Expressions.{kind_of}
use Rattle.p416_syntax.specs.Uses.{unary_place, left_place, right_place, cast_place, chosen_place}
use Rattle.v1_core.specs.Values.{Value, a_number}
use Rattle.v1_core.specs.Frames.{Moment}
use Rattle.v1_core.specs.Surroundings.{World}
use Rattle.v1_core.specs.Expressions.{value_of}

abbrev pub WidthsFit : BinaryOperator → ℕ → ℕ → Type 0
WidthsFit Multiply v w = v ≡ w
WidthsFit Add v w = v ≡ w
WidthsFit Subtract v w = v ≡ w
WidthsFit SaturatingAdd v w = v ≡ w
WidthsFit SaturatingSubtract v w = v ≡ w
WidthsFit Concatenate v w = v + w ≤ 128
WidthsFit BitAnd v w = v ≡ w
WidthsFit BitXor v w = v ≡ w
WidthsFit BitOr v w = v ≡ w
WidthsFit operator v w = Unit {0}

abbrev pub PairFits : BinaryOperator → Value → Value → Type 0
PairFits operator (a_number v a) (a_number w b) = WidthsFit operator v w
PairFits operator x y = Unit {0}

-- an expression at its place, with all within it, where it is evaluated in a moment
abbrev pub OperandsFit : World → Scope → Moment → Place → Exp16 → Type 0
OperandsFit w s m p (member e word) = OperandsFit w s m owner e
OperandsFit w s m p (index e at) = OperandsFit w s m a_stack e
OperandsFit w s m p (slice e high low) = OperandsFit w s m any_bits e
OperandsFit w s m p (call (member e word) given) = OperandsFit w s m owner e
OperandsFit w s m p (cast to e) = OperandsFit w s m (cast_place to) e
OperandsFit w s m p (unary operator e) = OperandsFit w s m (unary_place p operator (kind_of s e)) e
OperandsFit w s m p (binary operator a b) =
    OperandsFit w s m (left_place p operator (kind_of s a) (kind_of s b)) a
    × OperandsFit w s m (right_place p operator (kind_of s a) (kind_of s b)) b
    × PairFits operator (value_of w s (left_place p operator (kind_of s a) (kind_of s b)) a m).value
    (value_of w s (right_place p operator (kind_of s a) (kind_of s b)) b m).value
OperandsFit w s m p (choice c a b) =
    OperandsFit w s m (value boolean) c
    × OperandsFit w s m (chosen_place p (kind_of s a) (kind_of s b)) a
    × OperandsFit w s m (chosen_place p (kind_of s a) (kind_of s b)) b
OperandsFit w s m p e = Unit {0}
