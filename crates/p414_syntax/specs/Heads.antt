-- The tree of an outermost constructor with its parts (P4_14 1.0.5, "Header Type Declarations",
-- "Packet Processing and Control Flow").
use Rattle.p414_syntax.specs.Tree.{Expr, valid, truth, field, number, parenthesized, unary, binary, Stmt, no_statements, then, apply, apply_branches, if_then, call, no_else, else_block, else_if, no_branches, branch}
use Rattle.p414_syntax.specs.declared.heads.ExprHead.{ExprHead}
use Rattle.p414_syntax.specs.declared.heads.ExprHead.TheVariants as expr_head
use Rattle.p414_syntax.specs.declared.heads.StmtHead.{StmtHead}
use Rattle.p414_syntax.specs.declared.heads.StmtHead.TheVariants as head

-- the expression with this outermost constructor
abbrev pub of_expr_head : ExprHead → Expr
of_expr_head (expr_head.Valid instance) = valid instance.now
of_expr_head (expr_head.Truth value) = truth value
of_expr_head (expr_head.Field of) = field of.now
of_expr_head (expr_head.Number literal) = number literal.now
of_expr_head (expr_head.Parenthesized a) = parenthesized a
of_expr_head (expr_head.Unary operator a) = unary operator a
of_expr_head (expr_head.Binary operator a b) = binary operator a b

-- the statement with this outermost constructor
abbrev pub of_head : StmtHead → Stmt
of_head head.NoStatements = no_statements
of_head (head.Then a b) = then a b
of_head (head.Apply table) = apply table.now
of_head (head.ApplyBranches table a) = apply_branches table.now a
of_head (head.If c a b) = if_then c a b
of_head (head.Call control) = call control.now
of_head head.NoElse = no_else
of_head (head.ElseBlock a) = else_block a
of_head (head.ElseIf a) = else_if a
of_head head.NoBranches = no_branches
of_head (head.Branch a label b) = branch a label.now b
