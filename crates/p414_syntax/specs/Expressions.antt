-- Expressions: whether each gives a truth value or a number where the other is wanted, which C13 judges, and C26: a
-- minus sign before an operand of a condition (P4_14 1.0.5, "Packet Processing and Control Flow", "Header Type
-- Declarations"; that a condition has no such sign is this project's own). The condition of an `if` is a truth
-- value, what stands behind `length` and `max_length` a number. Comparisons and arithmetic take numbers; `and`, `or`
-- and `not` take truth values. Parentheses change nothing.
use Rattle.std.specs.Prelude.{Bool, true, false, not, ◌||◌, List, [], flat_map}
use Rattle.std.specs.List.{list_any}
use Rattle.p414_syntax.specs.declared.node.UnaryOperator.{UnaryOperator}
use Rattle.p414_syntax.specs.declared.node.UnaryOperator.TheVariants.{Negate, Complement, Not}
use Rattle.p414_syntax.specs.declared.node.BinaryOperator.{BinaryOperator}
use Rattle.p414_syntax.specs.declared.node.BinaryOperator.TheVariants.{Multiply, Add, Subtract, ShiftLeft, ShiftRight, BitAnd, BitXor, BitOr, Less, LessEqual, Greater, GreaterEqual, Equal, NotEqual, And, Or}
use Rattle.p414_syntax.specs.declared.syntax.Decl.{Decl}
use Rattle.p414_syntax.specs.declared.syntax.Decl.TheVariants as decl
use Rattle.p414_syntax.specs.Tree.{Expr, valid, truth, field, number, parenthesized, unary, binary}
use Rattle.p414_syntax.specs.Subtrees.{subexpressions, conditions}
use Rattle.p414_syntax.specs.Uses.{tail_expressions}

-- the conditions of all controls, and what stands behind `length` and `max_length` in all header types

abbrev pub conditions_in : Decl → List Expr
conditions_in (decl.Control x) = conditions x.body
conditions_in _ = []

abbrev pub conditions_of : List Decl → List Expr
conditions_of ds = flat_map conditions_in ds

abbrev pub lengths_in : Decl → List Expr
lengths_in (decl.HeaderType x) = tail_expressions x
lengths_in _ = []

abbrev pub lengths_of : List Decl → List Expr
lengths_of ds = flat_map lengths_in ds

-- the operators that take truth values, and those that give one

abbrev pub is_not : UnaryOperator → Bool
is_not Negate = false
is_not Complement = false
is_not Not = true

abbrev pub takes_truth : BinaryOperator → Bool
takes_truth And = true
takes_truth Or = true
takes_truth _ = false

abbrev pub gives_truth : BinaryOperator → Bool
gives_truth Multiply = false
gives_truth Add = false
gives_truth Subtract = false
gives_truth ShiftLeft = false
gives_truth ShiftRight = false
gives_truth BitAnd = false
gives_truth BitXor = false
gives_truth BitOr = false
gives_truth Less = true
gives_truth LessEqual = true
gives_truth Greater = true
gives_truth GreaterEqual = true
gives_truth Equal = true
gives_truth NotEqual = true
gives_truth And = true
gives_truth Or = true

-- an expression is a truth value; else it is a number
abbrev pub is_truth : Expr → Bool
is_truth (valid i) = true
is_truth (truth b) = true
is_truth (field r) = false
is_truth (number n) = false
is_truth (parenthesized a) = is_truth a
is_truth (unary o a) = is_not o
is_truth (binary o a b) = gives_truth o

-- a number stands where a truth value is wanted, or a truth value where a number is
abbrev pub is_of_other_sort : Bool → Expr → Bool
is_of_other_sort true e = not (is_truth e)
is_of_other_sort false e = is_truth e

-- the same of an operand of an operator
abbrev pub has_wrong_operand : Expr → Bool
has_wrong_operand (unary o a) = is_of_other_sort (is_not o) a
has_wrong_operand (binary o a b) = is_of_other_sort (takes_truth o) a || is_of_other_sort (takes_truth o) b
has_wrong_operand _ = false

abbrev pub is_mistyped : Bool → Expr → Bool
is_mistyped truth_wanted e = is_of_other_sort truth_wanted e || list_any has_wrong_operand (subexpressions e)

abbrev pub has_mistyped_expression : List Decl → Bool
has_mistyped_expression ds =
    list_any (is_mistyped true) (conditions_of ds) || list_any (is_mistyped false) (lengths_of ds)

-- C26

abbrev pub is_minus : UnaryOperator → Bool
is_minus Negate = true
is_minus Complement = false
is_minus Not = false

abbrev pub is_negation : Expr → Bool
is_negation (unary o a) = is_minus o
is_negation _ = false

abbrev pub is_negated_within : Expr → Bool
is_negated_within e = list_any is_negation (subexpressions e)

abbrev pub has_minus_sign : List Decl → Bool
has_minus_sign ds = list_any is_negated_within (conditions_of ds)
