use Rattle.v1_call_laws.proofs.Laws.{quiet_tests_tell}
use Rattle.v1_call_laws.proofs.tests_tell_values.Goals as goal

pub returns : goal.returns
returns c = quiet_tests_tell
