use Rattle.v1_control_laws.proofs.Answering.{control_tables_filled}
use Rattle.v1_control_laws.proofs.control_tables_are_filled.Goals as goal

pub returns : goal.returns
returns c = control_tables_filled
