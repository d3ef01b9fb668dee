use Rattle.v1_statement_laws.proofs.Initials.{slots_initialized}
use Rattle.v1_statement_laws.proofs.single_values_are_initial.Goals as goal

pub returns : goal.returns
returns c = slots_initialized
