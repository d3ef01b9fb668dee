-- What the code asks of a part of a declaration or an expression.
use Rattle.std.specs.Prelude.{Bool, true, false, Option, Some, None}
use Rattle.p414_syntax.specs.Tree.{Expr, valid, truth, field, number, parenthesized, unary, binary}
use Rattle.p414_syntax.specs.Expressions.{is_not, gives_truth}

-- what stands in the outer parentheses, where the expression stands in them
abbrev pub inner_of : Expr → Option Expr
inner_of (valid i) = None
inner_of (truth b) = None
inner_of (field r) = None
inner_of (number n) = None
inner_of (parenthesized a) = Some a
inner_of (unary o a) = None
inner_of (binary o a b) = None

-- an expression that stands in no parentheses is a truth value
abbrev pub is_truth_outside : Expr → Bool
is_truth_outside (valid i) = true
is_truth_outside (truth b) = true
is_truth_outside (field r) = false
is_truth_outside (number n) = false
is_truth_outside (parenthesized a) = false
is_truth_outside (unary o a) = is_not o
is_truth_outside (binary o a b) = gives_truth o
