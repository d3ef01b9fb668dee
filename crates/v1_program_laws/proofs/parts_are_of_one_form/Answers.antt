use Rattle.v1_program_laws.proofs.SourceLaws.{parts_are_one_form}
use Rattle.v1_program_laws.proofs.parts_are_of_one_form.Goals as goal

pub returns : goal.returns
returns c = parts_are_one_form
