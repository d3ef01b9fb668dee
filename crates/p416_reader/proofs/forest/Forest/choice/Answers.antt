use Rattle.std.proofs.Common.{arith}
use Rattle.std.proofs.lemmas.Result.{on_ok_weaker}
use Rattle.p416_reader.proofs.Kept.{choice_over}
use Rattle.p416_reader.proofs.forest.Forest.choice.Goals as goal

pub returns : goal.returns
returns c = on_ok_weaker c.push_exp.result (λ h. choice_over c.in_ok-no.ensures c.in_ok-yes.ensures c.in_ok-condition.ensures h) c.push_exp.ensures

pub push_exp-requires : goal.push_exp-requires
push_exp-requires c = (
  c.in_ok-condition.ensures.below,
  omega (arith, c.in_ok-yes.ensures.below, c.in_ok-condition.ensures.keeps.exps_len),
  omega (arith, c.in_ok-no.ensures.below, c.in_ok-yes.ensures.keeps.exps_len, c.in_ok-condition.ensures.keeps.exps_len),
)
