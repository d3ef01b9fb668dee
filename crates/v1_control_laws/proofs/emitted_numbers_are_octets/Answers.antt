use Rattle.v1_control_laws.proofs.Emitted.{octets_emitted}
use Rattle.v1_control_laws.proofs.emitted_numbers_are_octets.Goals as goal

pub returns : goal.returns
returns c = octets_emitted
