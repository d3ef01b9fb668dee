use Rattle.p416_syntax.specs.Tree as tree
use Rattle.std.proofs.lemmas.Result.{on_ok_weaker}
use Rattle.p416_reader.proofs.Kept.{over_one}
use Rattle.p416_reader.proofs.forest.Forest.index.Goals as goal

pub returns : goal.returns
returns c = on_ok_weaker c.push_exp.result (λ h. over_one (λ e. tree.index e c.args.at) c.in_ok-of.ensures h) c.push_exp.ensures
