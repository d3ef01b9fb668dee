-- The tree of an outermost constructor with its parts (P4_16 1.2, "Expressions" and "Statements").
use Rattle.p416_syntax.specs.Tree.{Exp16, literal, truth, error, name, member, index, slice, call, lookahead, cast, unary, binary, choice, no_arguments, argument, listed, Stmt16, no_statements, then, block, empty, var, var_is, assign, expression, if_then, if_else, switch, no_cases, case_of}
use Rattle.p416_syntax.specs.declared.views.ExpHead.{ExpHead}
use Rattle.p416_syntax.specs.declared.views.ExpHead.TheVariants as exp_head
use Rattle.p416_syntax.specs.declared.views.StmtHead.{StmtHead}
use Rattle.p416_syntax.specs.declared.views.StmtHead.TheVariants as head

-- the expression or the argument list with this outermost constructor
abbrev pub of_exp_head : ExpHead → Exp16
of_exp_head (exp_head.Literal number) = literal number
of_exp_head (exp_head.Truth value) = truth value
of_exp_head exp_head.Error = error
of_exp_head (exp_head.Name text) = name text.now
of_exp_head (exp_head.Member a word) = member a word.now
of_exp_head (exp_head.Index a at) = index a at
of_exp_head (exp_head.Slice a high low) = slice a high low
of_exp_head (exp_head.Call a b) = call a b
of_exp_head (exp_head.Lookahead a to b) = lookahead a to.now b
of_exp_head (exp_head.Cast to a) = cast to a
of_exp_head (exp_head.Unary operator a) = unary operator a
of_exp_head (exp_head.Binary operator a b) = binary operator a b
of_exp_head (exp_head.Choice a b c) = choice a b c
of_exp_head exp_head.NoArguments = no_arguments
of_exp_head (exp_head.Argument a b) = argument a b
of_exp_head (exp_head.Listed a) = listed a

-- the statement, the list of statements or the list of cases with this outermost constructor
abbrev pub of_head : StmtHead → Stmt16
of_head head.NoStatements = no_statements
of_head (head.Then a b) = then a b
of_head (head.Block a) = block a
of_head head.Empty = empty
of_head (head.Var of called) = var of.now called.now
of_head (head.VarIs of called a) = var_is of.now called.now a
of_head (head.Assign a b) = assign a b
of_head (head.Expression a) = expression a
of_head (head.If a b) = if_then a b
of_head (head.IfElse a b c) = if_else a b c
of_head (head.Switch table a) = switch table.now a
of_head head.NoCases = no_cases
of_head (head.Case a label b) = case_of a label.now b
