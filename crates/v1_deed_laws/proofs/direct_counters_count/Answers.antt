use Rattle.v1_deed_laws.proofs.Externs.{count_entry_shows}
use Rattle.v1_deed_laws.proofs.direct_counters_count.Goals as goal

pub returns : goal.returns
returns c = count_entry_shows
