use Rattle.shard_laws.proofs.Numbers.{arrivals_are_numbered}
use Rattle.shard_laws.proofs.arrivals_are_numbered.Goals as goal

pub returns : goal.returns
returns c = arrivals_are_numbered
