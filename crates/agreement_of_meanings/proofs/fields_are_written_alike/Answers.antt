use Rattle.agreement_of_meanings.proofs.Written.{slot_put}
use Rattle.agreement_of_meanings.proofs.fields_are_written_alike.Goals as goal

pub returns : goal.returns
returns c = slot_put
