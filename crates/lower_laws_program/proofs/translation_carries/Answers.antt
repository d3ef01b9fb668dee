use Rattle.lower_laws_program.proofs.Carries as laws
use Rattle.lower_laws_program.proofs.translation_carries.Goals as goal

pub returns : goal.returns
returns c = laws.translation_carries
