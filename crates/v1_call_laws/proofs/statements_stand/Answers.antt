use Rattle.v1_call_laws.proofs.Standing.{statements_stand}
use Rattle.v1_call_laws.proofs.statements_stand.Goals as goal

pub returns : goal.returns
returns c = statements_stand
