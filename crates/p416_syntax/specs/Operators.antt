-- The operators of expressions, each with its tokens and how tightly it binds (P4_16 1.2, "Expressions"; the order is
-- this project's own). Members, elements, slices and calls bind most tightly, and `c ? a : b` least.
use Rattle.std.specs.Prelude.{ℕ, List, [], ◌∷◌}
use Rattle.p416_syntax.specs.declared.mark.Mark16.TheVariants as mark_of
use Rattle.p416_syntax.specs.declared.node.UnaryOperator.{UnaryOperator}
use Rattle.p416_syntax.specs.declared.node.UnaryOperator.TheVariants.{Not, Complement, Negate}
use Rattle.p416_syntax.specs.declared.node.BinaryOperator.{BinaryOperator}
use Rattle.p416_syntax.specs.declared.node.BinaryOperator.TheVariants.{Multiply, Add, Subtract, SaturatingAdd, SaturatingSubtract, Concatenate, ShiftLeft, ShiftRight, BitAnd, BitXor, BitOr, Less, LessEqual, Greater, GreaterEqual, Equal, NotEqual, And, Or}
use Rattle.p416_syntax.specs.Tokens.{Seen16, joined, mark}

abbrev pub unary_token : UnaryOperator → Seen16
unary_token Not = mark mark_of.Bang
unary_token Complement = mark mark_of.Tilde
unary_token Negate = mark mark_of.Minus

abbrev pub binary_tokens : BinaryOperator → List Seen16
binary_tokens Multiply = mark mark_of.Star ∷ []
binary_tokens Add = mark mark_of.Plus ∷ []
binary_tokens Subtract = mark mark_of.Minus ∷ []
binary_tokens SaturatingAdd = mark mark_of.SaturatingPlus ∷ []
binary_tokens SaturatingSubtract = mark mark_of.SaturatingMinus ∷ []
binary_tokens Concatenate = mark mark_of.PlusPlus ∷ []
binary_tokens ShiftLeft = mark mark_of.ShiftLeft ∷ []
binary_tokens ShiftRight = joined ∷ mark mark_of.Greater ∷ []
binary_tokens BitAnd = mark mark_of.Ampersand ∷ []
binary_tokens BitXor = mark mark_of.Caret ∷ []
binary_tokens BitOr = mark mark_of.Bar ∷ []
binary_tokens Less = mark mark_of.Less ∷ []
binary_tokens LessEqual = mark mark_of.LessEqual ∷ []
binary_tokens Greater = mark mark_of.Greater ∷ []
binary_tokens GreaterEqual = mark mark_of.GreaterEqual ∷ []
binary_tokens Equal = mark mark_of.Equal ∷ []
binary_tokens NotEqual = mark mark_of.NotEqual ∷ []
binary_tokens And = mark mark_of.AndAnd ∷ []
binary_tokens Or = mark mark_of.OrOr ∷ []

-- how tightly members, elements, slices and calls bind
abbrev pub postfix_power : ℕ
postfix_power = 12

-- how tightly casts and operators in front of their operand bind
abbrev pub prefix_power : ℕ
prefix_power = 11

-- how tightly an operator between two operands binds; operators of one tightness group to the left
abbrev pub binary_power : BinaryOperator → ℕ
binary_power Multiply = 10
binary_power Add = 9
binary_power Subtract = 9
binary_power SaturatingAdd = 9
binary_power SaturatingSubtract = 9
binary_power Concatenate = 9
binary_power ShiftLeft = 8
binary_power ShiftRight = 8
binary_power BitAnd = 7
binary_power BitXor = 6
binary_power BitOr = 5
binary_power Less = 4
binary_power LessEqual = 4
binary_power Greater = 4
binary_power GreaterEqual = 4
binary_power Equal = 3
binary_power NotEqual = 3
binary_power And = 2
binary_power Or = 1

-- how tightly `c ? a : b` binds; it groups to the right
abbrev pub choice_power : ℕ
choice_power = 0
