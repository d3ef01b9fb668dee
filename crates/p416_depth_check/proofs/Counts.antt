-- How many expressions, or statements, a walk still comes to.
use Rattle.std.proofs.Common.{ℕ, suc, ◌+◌, List, [], ◌∷◌}
use Rattle.p416_syntax.specs.Tree.{Exp16, member, index, slice, call, lookahead, cast, unary, binary, choice, argument, listed, Stmt16, then, block, if_then, if_else, switch, case_of}
use Rattle.p416_depth_check.specs.declared.expressions.ExpLeft.{ExpLeft}
use Rattle.p416_depth_check.specs.declared.blocks.StmtLeft.{StmtLeft}

abbrev pub exp_count : Exp16 → ℕ
exp_count (member e word) = suc (exp_count e)
exp_count (index e at) = suc (exp_count e)
exp_count (slice e high low) = suc (exp_count e)
exp_count (call e given) = suc (exp_count e + exp_count given)
exp_count (lookahead e to given) = suc (exp_count e + exp_count given)
exp_count (cast to e) = suc (exp_count e)
exp_count (unary operator e) = suc (exp_count e)
exp_count (binary operator a b) = suc (exp_count a + exp_count b)
exp_count (choice c a b) = suc (exp_count c + exp_count a + exp_count b)
exp_count (argument before last) = suc (exp_count before + exp_count last)
exp_count (listed es) = suc (exp_count es)
exp_count _ = 1

abbrev pub exps_left : List ExpLeft → ℕ
exps_left [] = 0
exps_left (x ∷ xs) = exp_count x.of + exps_left xs

abbrev pub stmt_count : Stmt16 → ℕ
stmt_count ((then) before last) = suc (stmt_count before + stmt_count last)
stmt_count (block body) = suc (stmt_count body)
stmt_count (if_then c positive) = suc (stmt_count positive)
stmt_count (if_else c positive negative) = suc (stmt_count positive + stmt_count negative)
stmt_count (switch table cases) = suc (stmt_count cases)
stmt_count (case_of before label body) = suc (stmt_count before + stmt_count body)
stmt_count _ = 1

abbrev pub stmts_left : List StmtLeft → ℕ
stmts_left [] = 0
stmts_left (x ∷ xs) = stmt_count x.of + stmts_left xs
