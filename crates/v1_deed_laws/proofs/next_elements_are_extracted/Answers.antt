use Rattle.v1_deed_laws.proofs.Extracting.{extract_next_shows}
use Rattle.v1_deed_laws.proofs.next_elements_are_extracted.Goals as goal

pub returns : goal.returns
returns c = extract_next_shows
