use Rattle.p414_reader.proofs.Clauses.{one14}
use Rattle.p414_reader.proofs.read.read14.Goals as goal

pub returns-clause-one_syntax : goal.returns-clause-one_syntax
returns-clause-one_syntax c = one14 c.args.text.now
