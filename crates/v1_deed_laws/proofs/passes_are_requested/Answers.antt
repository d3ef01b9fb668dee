use Rattle.v1_deed_laws.proofs.Externs.{request_shows}
use Rattle.v1_deed_laws.proofs.passes_are_requested.Goals as goal

pub returns : goal.returns
returns c = request_shows
