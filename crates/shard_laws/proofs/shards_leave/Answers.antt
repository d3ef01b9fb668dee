use Rattle.shard_laws.proofs.Shards.{shards_leave}
use Rattle.shard_laws.proofs.shards_leave.Goals as goal

pub returns : goal.returns
returns c = shards_leave
