use Rattle.lower_laws_rules.proofs.Spelt.{program_spelt}
use Rattle.lower_laws_rules.proofs.programs_spelt.Goals as goal

pub returns : goal.returns
returns c = program_spelt
