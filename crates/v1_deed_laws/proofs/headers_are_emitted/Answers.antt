use Rattle.v1_deed_laws.proofs.Emitting.{emit_shows}
use Rattle.v1_deed_laws.proofs.headers_are_emitted.Goals as goal

pub returns : goal.returns
returns c = emit_shows
