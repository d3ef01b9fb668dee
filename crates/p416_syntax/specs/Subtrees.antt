-- What stands within a statement or an expression, one after another (P4_16 1.2, "Expressions" and "Statements"; the
-- order, from the outside in, is this project's own).
use Rattle.std.specs.Prelude.{List, [], ◌∷◌, ◌++◌}
use Rattle.p416_syntax.specs.Tree.{Exp16, literal, truth, error, name, member, index, slice, call, lookahead, cast, unary, binary, choice, parenthesized, no_arguments, argument, listed, Stmt16, no_statements, then, block, empty, var, var_is, assign, expression, if_then, if_else, switch, no_cases, case_of}

-- a statement and all within it, from the outside in, in the order of the text
abbrev pub subtrees : Stmt16 → List Stmt16
subtrees no_statements = no_statements ∷ []
subtrees (then a b) = then a b ∷ subtrees a ++ subtrees b
subtrees (block a) = block a ∷ subtrees a
subtrees empty = empty ∷ []
subtrees (var of called) = var of called ∷ []
subtrees (var_is of called a) = var_is of called a ∷ []
subtrees (assign a b) = assign a b ∷ []
subtrees (expression a) = expression a ∷ []
subtrees (if_then a b) = if_then a b ∷ subtrees b
subtrees (if_else a b c) = if_else a b c ∷ subtrees b ++ subtrees c
subtrees (switch table a) = switch table a ∷ subtrees a
subtrees no_cases = no_cases ∷ []
subtrees (case_of a label b) = case_of a label b ∷ subtrees a ++ subtrees b

-- an expression or an argument list and all within it, from the outside in, from left to right
abbrev pub subexpressions : Exp16 → List Exp16
subexpressions (literal number) = literal number ∷ []
subexpressions (truth value) = truth value ∷ []
subexpressions error = error ∷ []
subexpressions (name text) = name text ∷ []
subexpressions (member a word) = member a word ∷ subexpressions a
subexpressions (index a at) = index a at ∷ subexpressions a
subexpressions (slice a high low) = slice a high low ∷ subexpressions a
subexpressions (call a b) = call a b ∷ subexpressions a ++ subexpressions b
subexpressions (lookahead a to b) = lookahead a to b ∷ subexpressions a ++ subexpressions b
subexpressions (cast to a) = cast to a ∷ subexpressions a
subexpressions (unary operator a) = unary operator a ∷ subexpressions a
subexpressions (binary operator a b) = binary operator a b ∷ subexpressions a ++ subexpressions b
subexpressions (choice a b c) = choice a b c ∷ subexpressions a ++ subexpressions b ++ subexpressions c
subexpressions (parenthesized a) = parenthesized a ∷ subexpressions a
subexpressions no_arguments = no_arguments ∷ []
subexpressions (argument a b) = argument a b ∷ subexpressions a ++ subexpressions b
subexpressions (listed a) = listed a ∷ subexpressions a

-- the expressions of a statement, but not those of the statements within it
abbrev pub own_expressions : Stmt16 → List Exp16
own_expressions no_statements = []
own_expressions (then a b) = []
own_expressions (block a) = []
own_expressions empty = []
own_expressions (var of called) = []
own_expressions (var_is of called a) = a ∷ []
own_expressions (assign a b) = a ∷ b ∷ []
own_expressions (expression a) = a ∷ []
own_expressions (if_then a b) = a ∷ []
own_expressions (if_else a b c) = a ∷ []
own_expressions (switch table a) = []
own_expressions no_cases = []
own_expressions (case_of a label b) = []
