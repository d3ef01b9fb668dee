use Rattle.v1_control_laws.proofs.Answering.{control_tables_apply}
use Rattle.v1_control_laws.proofs.control_tables_apply_the_same.Goals as goal

pub returns : goal.returns
returns c = control_tables_apply
