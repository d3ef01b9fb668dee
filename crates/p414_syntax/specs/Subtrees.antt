-- What stands within a statement or an expression, one after another (P4_14 1.0.5, "Packet Processing and
-- Control Flow"; the order, from the outside in, is this project's own).
use Rattle.std.specs.Prelude.{List, [], ◌∷◌, ◌++◌, Option, Some, None}
use Rattle.std.specs.List.{flat_map}
use Rattle.std.specs.Option.{option_to_list}
use Rattle.p414_syntax.specs.Tree.{Expr, valid, truth, field, number, parenthesized, unary, binary, Stmt, no_statements, then, apply, apply_branches, if_then, call, no_else, else_block, else_if, no_branches, branch}

-- a statement and all within it, from the outside in, in the order of the text
abbrev pub subtrees : Stmt → List Stmt
subtrees no_statements = no_statements ∷ []
subtrees (then a b) = then a b ∷ subtrees a ++ subtrees b
subtrees (apply table) = apply table ∷ []
subtrees (apply_branches table a) = apply_branches table a ∷ subtrees a
subtrees (if_then c a b) = if_then c a b ∷ subtrees a ++ subtrees b
subtrees (call control) = call control ∷ []
subtrees no_else = no_else ∷ []
subtrees (else_block a) = else_block a ∷ subtrees a
subtrees (else_if a) = else_if a ∷ subtrees a
subtrees no_branches = no_branches ∷ []
subtrees (branch a label b) = branch a label b ∷ subtrees a ++ subtrees b

-- an expression and all within it, from the outside in, from left to right
abbrev pub subexpressions : Expr → List Expr
subexpressions (valid instance) = valid instance ∷ []
subexpressions (truth value) = truth value ∷ []
subexpressions (field of) = field of ∷ []
subexpressions (number literal) = number literal ∷ []
subexpressions (parenthesized a) = parenthesized a ∷ subexpressions a
subexpressions (unary operator a) = unary operator a ∷ subexpressions a
subexpressions (binary operator a b) = binary operator a b ∷ subexpressions a ++ subexpressions b

-- the condition of an `if` statement
abbrev pub condition_of : Stmt → Option Expr
condition_of (if_then c a b) = Some c
condition_of other = None

-- that condition as a list, which has one item or none
abbrev pub own_conditions : Stmt → List Expr
own_conditions s = option_to_list (condition_of s)

-- the conditions of a statement and of all within it, in the order of the text
abbrev pub conditions : Stmt → List Expr
conditions s = flat_map own_conditions (subtrees s)
