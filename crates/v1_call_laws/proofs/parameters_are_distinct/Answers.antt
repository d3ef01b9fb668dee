use Rattle.v1_call_laws.proofs.Declared.{distinct_parameters}
use Rattle.v1_call_laws.proofs.parameters_are_distinct.Goals as goal

pub returns : goal.returns
returns c = distinct_parameters
