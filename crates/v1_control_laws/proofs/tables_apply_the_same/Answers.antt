use Rattle.v1_control_laws.proofs.Answering.{tables_applied}
use Rattle.v1_control_laws.proofs.tables_apply_the_same.Goals as goal

pub returns : goal.returns
returns c = tables_applied
