use Rattle.p414_syntax.specs.Tree.{else_if}
use Rattle.std.proofs.lemmas.Result.{on_ok_weaker}
use Rattle.p414_reader.proofs.Kept.{stmt_over}
use Rattle.p414_reader.proofs.forest.Forest.else_if.Goals as goal

pub returns : goal.returns
returns c = on_ok_weaker c.push_stmt.result (λ h. stmt_over else_if c.in_ok-statement.ensures h) c.push_stmt.ensures
