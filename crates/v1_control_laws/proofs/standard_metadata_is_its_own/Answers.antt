use Rattle.v1_control_laws.proofs.Standard.{standards_own}
use Rattle.v1_control_laws.proofs.standard_metadata_is_its_own.Goals as goal

pub returns : goal.returns
returns c = standards_own
