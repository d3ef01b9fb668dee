use Rattle.lower_bodies.proofs.Behind as behind
use Rattle.lower_bodies.proofs.laws.alike_are_apart.Goals as goal

pub returns : goal.returns
returns c = behind.alike_are_apart
