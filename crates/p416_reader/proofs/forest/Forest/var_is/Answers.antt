use Rattle.p416_syntax.specs.Tree as tree
use Rattle.std.proofs.lemmas.Result.{on_ok_weaker}
use Rattle.p416_reader.proofs.Kept.{stmt_of_exp}
use Rattle.p416_reader.proofs.forest.Forest.var_is.Goals as goal

pub returns : goal.returns
returns c = on_ok_weaker c.push_stmt.result (λ h. stmt_of_exp (tree.var_is c.args.of c.args.name) c.in_ok-value.ensures h) c.push_stmt.ensures
