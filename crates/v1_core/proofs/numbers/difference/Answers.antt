use Rattle.std.proofs.Common.{◌∙◌}
use Rattle.v1_core.proofs.Cutting.{difference_is}
use Rattle.v1_core.proofs.numbers.difference.Goals as goal

pub returns-clause-is : goal.returns-clause-is
returns-clause-is c = c.low.ensures.is ∙ difference_is c.args.a c.args.b c.args.width c.requires.width c.requires.second
