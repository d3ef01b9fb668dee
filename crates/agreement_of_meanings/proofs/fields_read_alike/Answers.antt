use Rattle.agreement_of_meanings.proofs.Written.{slot_read}
use Rattle.agreement_of_meanings.proofs.fields_read_alike.Goals as goal

pub returns : goal.returns
returns c = slot_read
