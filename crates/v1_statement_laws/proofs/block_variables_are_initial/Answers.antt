use Rattle.v1_statement_laws.proofs.Begun.{variables_initialized}
use Rattle.v1_statement_laws.proofs.block_variables_are_initial.Goals as goal

pub returns : goal.returns
returns c = variables_initialized
