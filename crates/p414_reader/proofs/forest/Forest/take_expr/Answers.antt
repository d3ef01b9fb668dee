use Rattle.p414_reader.proofs.Kept.{within_expr_none}
use Rattle.p414_reader.proofs.forest.Forest.take_expr.Goals as goal

pub invariant_of-self-in-None : goal.invariant_of-self-in-None
invariant_of-self-in-None c = within_expr_none _ c.expression.result c.expression.ensures.ok c.expression.ensures.err c.in-None.ensures.1 c.self.invariant
