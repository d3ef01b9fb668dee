use Rattle.v1_statement_laws.proofs.Starts.{variables_start}
use Rattle.v1_statement_laws.proofs.block_variables_start.Goals as goal

pub returns : goal.returns
returns c = variables_start
