use Rattle.std.proofs.Common.{arith}
use Rattle.p414_syntax.specs.Tree.{binary}
use Rattle.std.proofs.lemmas.Result.{on_ok_weaker}
use Rattle.p414_reader.proofs.Kept.{over_two}
use Rattle.p414_reader.proofs.forest.Forest.binary.Goals as goal

pub returns : goal.returns
returns c = on_ok_weaker c.push_expr.result (λ h. over_two (binary c.args.operator) c.in_ok-right.ensures c.in_ok-left.ensures h) c.push_expr.ensures

pub push_expr-requires : goal.push_expr-requires
push_expr-requires c = (c.in_ok-left.ensures.below, omega (arith, c.in_ok-right.ensures.below, c.in_ok-left.ensures.keeps.exprs_len))
