use Rattle.std.proofs.Common.{◌≡◌, ◌<◌, length}
use Rattle.v1_ready_statements.specs.Tested.{way_range}
use Rattle.v1_ready_program.specs.Seen.{seen_spot}
use Rattle.v1_ready_program.specs.internal.Ways.{way_at}
use Rattle.v1_ready_program.specs.internal.Coded.{seen_ways}
use Rattle.v1_ready_operands.proofs.follow.follow.Given as goal

abbrev pub invariant-loop-next : goal.invariant-loop-next
invariant-loop-next l = record {
  same : way_range l.types (way_at (seen_ways l.ways) l.at) (seen_spot l.here) ≡ way_range l.types (way_at (seen_ways l.ways) l.place) (seen_spot l.spot);
  within : l.at < length (seen_ways l.ways);
}

abbrev pub decreases-loop-next : goal.decreases-loop-next
decreases-loop-next l = l.at
