use Rattle.std.proofs.Common.{arith}
use Rattle.v1_core.proofs.Elements.{below_all}
use Rattle.v1_core.proofs.evaluate.number_of.Goals as goal

pub overflow_mul-ahead : goal.overflow_mul-ahead
overflow_mul-ahead c = omega (arith, c.requires.narrow, below_all c.args.element.first c.args.element.apart c.args.number c.args.size c.requires.within)

pub overflow_add-result : goal.overflow_add-result
overflow_add-result c = omega (arith, c.requires.narrow, below_all c.args.element.first c.args.element.apart c.args.number c.args.size c.requires.within)

pub returns-clause-order : goal.returns-clause-order
returns-clause-order c = below_all c.args.element.first c.args.element.apart c.args.number c.args.size c.requires.within
