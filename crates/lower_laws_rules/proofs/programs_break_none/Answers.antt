use Rattle.lower_laws_rules.proofs.Program.{program_breaks_none}
use Rattle.lower_laws_rules.proofs.programs_break_none.Goals as goal

pub returns : goal.returns
returns c = program_breaks_none
