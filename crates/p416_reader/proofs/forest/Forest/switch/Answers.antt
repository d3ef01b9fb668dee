use Rattle.p416_syntax.specs.Tree as tree
use Rattle.std.proofs.lemmas.Result.{on_ok_weaker}
use Rattle.p416_reader.proofs.Kept.{stmt_over}
use Rattle.p416_reader.proofs.forest.Forest.switch.Goals as goal

pub returns : goal.returns
returns c = on_ok_weaker c.push_stmt.result (λ h. stmt_over (tree.switch c.args.table) c.in_ok-inner.ensures h) c.push_stmt.ensures
