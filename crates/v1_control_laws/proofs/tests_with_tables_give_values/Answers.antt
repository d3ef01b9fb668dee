use Rattle.v1_control_laws.proofs.Answering.{tables_tell}
use Rattle.v1_control_laws.proofs.tests_with_tables_give_values.Goals as goal

pub returns : goal.returns
returns c = tables_tell
