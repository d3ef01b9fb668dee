use Rattle.v1_call_laws.proofs.Laws.{objects_called}
use Rattle.v1_call_laws.proofs.objects_are_called.Goals as goal

pub returns : goal.returns
returns c = objects_called
