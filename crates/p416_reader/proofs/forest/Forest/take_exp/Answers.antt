use Rattle.p416_reader.proofs.Kept.{within_exp_none}
use Rattle.p416_reader.proofs.forest.Forest.take_exp.Goals as goal

pub invariant_of-self-in-None : goal.invariant_of-self-in-None
invariant_of-self-in-None c = within_exp_none _ c.expression.result c.expression.ensures.ok c.expression.ensures.err c.in-None.ensures.1 c.self.invariant
