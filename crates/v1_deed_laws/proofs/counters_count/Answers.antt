use Rattle.v1_deed_laws.proofs.Externs.{count_shows}
use Rattle.v1_deed_laws.proofs.counters_count.Goals as goal

pub returns : goal.returns
returns c = count_shows
