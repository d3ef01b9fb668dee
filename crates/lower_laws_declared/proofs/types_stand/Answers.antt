use Rattle.lower_laws_declared.proofs.TypesFit as laws
use Rattle.lower_laws_declared.proofs.types_stand.Goals as goal

pub returns : goal.returns
returns c = laws.types_fit
