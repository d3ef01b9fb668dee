use Rattle.p416_reader.proofs.Clauses.{one16}
use Rattle.p416_reader.proofs.read.read16.Goals as goal

pub returns-clause-one_syntax : goal.returns-clause-one_syntax
returns-clause-one_syntax c = one16 c.args.text.now
