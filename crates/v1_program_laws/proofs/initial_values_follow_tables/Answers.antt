use Rattle.v1_program_laws.proofs.ValueLaws.{initials_follow_tables}
use Rattle.v1_program_laws.proofs.initial_values_follow_tables.Goals as goal

pub returns : goal.returns
returns c = initials_follow_tables
