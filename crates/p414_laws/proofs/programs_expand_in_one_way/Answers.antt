use Rattle.p414_laws.proofs.Whole.{comes_to_one_thing}
use Rattle.p414_laws.proofs.programs_expand_in_one_way.Goals as goal

pub returns : goal.returns
returns c = comes_to_one_thing
