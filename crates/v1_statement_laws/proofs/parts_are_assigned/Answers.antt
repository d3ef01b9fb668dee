use Rattle.v1_statement_laws.proofs.Copies.{parts_assigned}
use Rattle.v1_statement_laws.proofs.parts_are_assigned.Goals as goal

pub returns : goal.returns
returns c = parts_assigned
