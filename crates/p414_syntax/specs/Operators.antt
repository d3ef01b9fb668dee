-- The operators of expressions, each with its token and how tightly it binds (this project's own order; P4_14 1.0.5
-- leaves it to C).
use Rattle.std.specs.Prelude.{ℕ}
use Rattle.p414_syntax.specs.declared.keyword.Keyword.TheVariants as key
use Rattle.p414_syntax.specs.declared.lexeme.Lexeme.{Lexeme}
use Rattle.p414_syntax.specs.declared.lexeme.Lexeme.TheVariants.{Mark}
use Rattle.p414_syntax.specs.declared.mark.Mark.TheVariants as mark
use Rattle.p414_syntax.specs.declared.node.UnaryOperator.{UnaryOperator}
use Rattle.p414_syntax.specs.declared.node.UnaryOperator.TheVariants.{Negate, Complement, Not}
use Rattle.p414_syntax.specs.declared.node.BinaryOperator.{BinaryOperator}
use Rattle.p414_syntax.specs.declared.node.BinaryOperator.TheVariants.{Multiply, Add, Subtract, ShiftLeft, ShiftRight, BitAnd, BitXor, BitOr, Less, LessEqual, Greater, GreaterEqual, Equal, NotEqual, And, Or}
use Rattle.p414_syntax.specs.Words.{keyword}

abbrev pub unary_token : UnaryOperator → Lexeme
unary_token Negate = Mark mark.Minus
unary_token Complement = Mark mark.Tilde
unary_token Not = keyword key.Not

-- how tightly an operator in front of its operand binds
abbrev pub unary_power : UnaryOperator → ℕ
unary_power Negate = 11
unary_power Complement = 11
unary_power Not = 3

abbrev pub binary_token : BinaryOperator → Lexeme
binary_token Multiply = Mark mark.Star
binary_token Add = Mark mark.Plus
binary_token Subtract = Mark mark.Minus
binary_token ShiftLeft = Mark mark.ShiftLeft
binary_token ShiftRight = Mark mark.ShiftRight
binary_token BitAnd = Mark mark.Ampersand
binary_token BitXor = Mark mark.Caret
binary_token BitOr = Mark mark.Bar
binary_token Less = Mark mark.Less
binary_token LessEqual = Mark mark.LessEqual
binary_token Greater = Mark mark.Greater
binary_token GreaterEqual = Mark mark.GreaterEqual
binary_token Equal = Mark mark.Equal
binary_token NotEqual = Mark mark.NotEqual
binary_token And = keyword key.And
binary_token Or = keyword key.Or

-- how tightly an operator between two operands binds; operators of one tightness group to the left
abbrev pub binary_power : BinaryOperator → ℕ
binary_power Multiply = 10
binary_power Add = 9
binary_power Subtract = 9
binary_power ShiftLeft = 8
binary_power ShiftRight = 8
binary_power BitAnd = 7
binary_power BitXor = 6
binary_power BitOr = 5
binary_power Less = 4
binary_power LessEqual = 4
binary_power Greater = 4
binary_power GreaterEqual = 4
binary_power Equal = 4
binary_power NotEqual = 4
binary_power And = 2
binary_power Or = 1
