use Rattle.std.proofs.Common.{arith}
use Rattle.std.proofs.lemmas.Result.{on_ok_weaker}
use Rattle.p416_reader.proofs.Kept.{if_over}
use Rattle.p416_reader.proofs.forest.Forest.if_then.Goals as goal

pub returns : goal.returns
returns c = on_ok_weaker c.push_stmt.result (λ h. if_over c.in_ok-condition.ensures c.in_ok-yes.ensures h) c.push_stmt.ensures

pub push_stmt-requires : goal.push_stmt-requires
push_stmt-requires c = (omega (arith, c.in_ok-condition.ensures.below, c.in_ok-yes.ensures.keeps.exps_len), c.in_ok-yes.ensures.below)
