use Rattle.v1_deed_laws.proofs.Extracting.{extract_header_shows}
use Rattle.v1_deed_laws.proofs.headers_are_extracted.Goals as goal

pub returns : goal.returns
returns c = extract_header_shows
