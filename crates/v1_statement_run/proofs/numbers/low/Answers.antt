use Rattle.std.proofs.Common.{arith}
use Rattle.v1_statement_run.proofs.Cutting.{all_fit}
use Rattle.v1_statement_run.proofs.numbers.low.Goals as goal

pub returns-then-width-ge128-clause-fits : goal.returns-then-width-ge128-clause-fits
returns-then-width-ge128-clause-fits c = all_fit c.args.number c.args.width (omega arith) c.if-width-ge128.true
