use Rattle.std.proofs.Common.{arith}
use Rattle.std.proofs.lemmas.Result.{on_ok_weaker}
use Rattle.p416_reader.proofs.Kept.{assign_over}
use Rattle.p416_reader.proofs.forest.Forest.assign.Goals as goal

pub returns : goal.returns
returns c = on_ok_weaker c.push_stmt.result (λ h. assign_over c.in_ok-value.ensures c.in_ok-target.ensures h) c.push_stmt.ensures

pub push_stmt-requires : goal.push_stmt-requires
push_stmt-requires c = (c.in_ok-target.ensures.below, omega (arith, c.in_ok-value.ensures.below, c.in_ok-target.ensures.keeps.exps_len))
