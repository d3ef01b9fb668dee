use Rattle.p414_syntax.specs.Tree.{parenthesized}
use Rattle.std.proofs.lemmas.Result.{on_ok_weaker}
use Rattle.p414_reader.proofs.Kept.{over_one}
use Rattle.p414_reader.proofs.forest.Forest.parenthesized.Goals as goal

pub returns : goal.returns
returns c = on_ok_weaker c.push_expr.result (λ h. over_one parenthesized c.in_ok-inner.ensures h) c.push_expr.ensures
