use Rattle.std.proofs.Common.{arith}
use Rattle.p414_syntax.specs.Tree as tree
use Rattle.std.proofs.lemmas.Result.{on_ok_weaker}
use Rattle.p414_reader.proofs.Kept.{stmt_over_two}
use Rattle.p414_reader.proofs.forest.Forest.then.Goals as goal

pub returns : goal.returns
returns c = on_ok_weaker c.push_stmt.result (λ h. stmt_over_two tree.then c.in_ok-last.ensures c.in_ok-before.ensures h) c.push_stmt.ensures

pub push_stmt-requires : goal.push_stmt-requires
push_stmt-requires c = (c.in_ok-before.ensures.below, omega (arith, c.in_ok-last.ensures.below, c.in_ok-before.ensures.keeps.stmts_len))
