use Rattle.v1_statement_laws.proofs.Assigned.{slots_assigned}
use Rattle.v1_statement_laws.proofs.single_values_are_assigned.Goals as goal

pub returns : goal.returns
returns c = slots_assigned
