use Rattle.agreement_of_meanings.proofs.Extracted.{numbered_extracted}
use Rattle.agreement_of_meanings.proofs.elements_are_extracted_alike.Goals as goal

pub returns : goal.returns
returns c = numbered_extracted
