use Rattle.p414_syntax.specs.Tree.{apply_branches}
use Rattle.std.proofs.lemmas.Result.{on_ok_weaker}
use Rattle.p414_reader.proofs.Kept.{stmt_over}
use Rattle.p414_reader.proofs.forest.Forest.apply_branches.Goals as goal

pub returns : goal.returns
returns c = on_ok_weaker c.push_stmt.result (λ h. stmt_over (apply_branches c.args.table) c.in_ok-branches.ensures h) c.push_stmt.ensures
