use Rattle.shard_laws.proofs.Shards.{shards_join}
use Rattle.shard_laws.proofs.shards_join.Goals as goal

pub returns : goal.returns
returns c = shards_join
