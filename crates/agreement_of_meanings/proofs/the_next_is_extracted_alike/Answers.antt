use Rattle.agreement_of_meanings.proofs.Extracted.{next_extracted}
use Rattle.agreement_of_meanings.proofs.the_next_is_extracted_alike.Goals as goal

pub returns : goal.returns
returns c = next_extracted
