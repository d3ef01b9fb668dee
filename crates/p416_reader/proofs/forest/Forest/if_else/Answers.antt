use Rattle.std.proofs.Common.{arith}
use Rattle.std.proofs.lemmas.Result.{on_ok_weaker}
use Rattle.p416_reader.proofs.Kept.{if_else_over}
use Rattle.p416_reader.proofs.forest.Forest.if_else.Goals as goal

pub returns : goal.returns
returns c = on_ok_weaker c.push_stmt.result (λ h. if_else_over c.in_ok-condition.ensures c.in_ok-no.ensures c.in_ok-yes.ensures h) c.push_stmt.ensures

pub push_stmt-requires : goal.push_stmt-requires
push_stmt-requires c = (
  omega (arith, c.in_ok-condition.ensures.below, c.in_ok-no.ensures.keeps.exps_len, c.in_ok-yes.ensures.keeps.exps_len),
  c.in_ok-yes.ensures.below,
  omega (arith, c.in_ok-no.ensures.below, c.in_ok-yes.ensures.keeps.stmts_len),
)
