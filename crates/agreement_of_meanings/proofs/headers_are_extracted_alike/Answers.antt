use Rattle.agreement_of_meanings.proofs.Extracted.{header_extracted}
use Rattle.agreement_of_meanings.proofs.headers_are_extracted_alike.Goals as goal

pub returns : goal.returns
returns c = header_extracted
