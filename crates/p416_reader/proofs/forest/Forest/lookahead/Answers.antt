use Rattle.std.proofs.Common.{arith}
use Rattle.p416_syntax.specs.Tree as tree
use Rattle.std.proofs.lemmas.Result.{on_ok_weaker}
use Rattle.p416_reader.proofs.Kept.{over_two}
use Rattle.p416_reader.proofs.forest.Forest.lookahead.Goals as goal

pub returns : goal.returns
returns c = on_ok_weaker c.push_exp.result (λ h. over_two (λ e arguments. tree.lookahead e c.args.of arguments) c.in_ok-right.ensures c.in_ok-left.ensures h) c.push_exp.ensures

pub push_exp-requires : goal.push_exp-requires
push_exp-requires c = (c.in_ok-left.ensures.below, omega (arith, c.in_ok-right.ensures.below, c.in_ok-left.ensures.keeps.exps_len))
