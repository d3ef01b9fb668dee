use Rattle.v1_core.proofs.expressions.Expressions.+value.Goals as goal

pub operand-returns-in-Some-clause-is : goal.operand-returns-in-Some-clause-is
operand-returns-in-Some-clause-is t c = c.in-Some.ensures.is c.args.unparsed.now
