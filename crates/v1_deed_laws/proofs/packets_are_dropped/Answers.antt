use Rattle.v1_deed_laws.proofs.Externs.{drop_shows}
use Rattle.v1_deed_laws.proofs.packets_are_dropped.Goals as goal

pub returns : goal.returns
returns c = drop_shows
