use Rattle.v1_call_laws.proofs.Controls.{standard_stands}
use Rattle.v1_call_laws.proofs.standard_metadata_is_own.Goals as goal

pub returns : goal.returns
returns c = standard_stands
