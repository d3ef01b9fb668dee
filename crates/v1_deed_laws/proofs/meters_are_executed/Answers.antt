use Rattle.v1_deed_laws.proofs.Externs.{meter_shows}
use Rattle.v1_deed_laws.proofs.meters_are_executed.Goals as goal

pub returns : goal.returns
returns c = meter_shows
