-- What stands directly within a statement or an expression, the first of it in front.
use Rattle.std.specs.Prelude.{List, [], ◌∷◌}
use Rattle.p414_syntax.specs.Tree.{Expr, valid, truth, field, number, parenthesized, unary, binary, Stmt, no_statements, then, apply, apply_branches, if_then, call, no_else, else_block, else_if, no_branches, branch}

-- what stands directly within a statement
abbrev pub within : Stmt → List Stmt
within no_statements = []
within (then a b) = a ∷ b ∷ []
within (apply table) = []
within (apply_branches table a) = a ∷ []
within (if_then c a b) = a ∷ b ∷ []
within (call control) = []
within no_else = []
within (else_block a) = a ∷ []
within (else_if a) = a ∷ []
within no_branches = []
within (branch a label b) = a ∷ b ∷ []

-- the operands of an expression
abbrev pub expressions_within : Expr → List Expr
expressions_within (valid instance) = []
expressions_within (truth value) = []
expressions_within (field of) = []
expressions_within (number literal) = []
expressions_within (parenthesized a) = a ∷ []
expressions_within (unary operator a) = a ∷ []
expressions_within (binary operator a b) = a ∷ b ∷ []
