use Rattle.lower_laws_passes.proofs.Passes.{passes_alike}
use Rattle.lower_laws_passes.proofs.passes_are_alike.Goals as goal

pub returns : goal.returns
returns c = passes_alike
