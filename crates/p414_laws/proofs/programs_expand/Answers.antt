use Rattle.p414_laws.proofs.Whole.{comes_to_something}
use Rattle.p414_laws.proofs.programs_expand.Goals as goal

pub returns : goal.returns
returns c = comes_to_something
