use Rattle.p416_reader.proofs.Kept.{within_stmt_none}
use Rattle.p416_reader.proofs.forest.Forest.take_stmt.Goals as goal

pub invariant_of-self-in-None : goal.invariant_of-self-in-None
invariant_of-self-in-None c = within_stmt_none _ c.statement.result c.statement.ensures.ok c.statement.ensures.err c.in-None.ensures.1 c.self.invariant
