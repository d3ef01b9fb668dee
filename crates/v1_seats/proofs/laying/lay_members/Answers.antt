use Rattle.std.proofs.Common.{arith}
use Rattle.v1_seats.specs.Seen.{seen_start}
use Rattle.v1_seats.proofs.Turns.{laid_turn}
use Rattle.v1_seats.proofs.laying.lay_members.Goals as goal

pub loop-kind-preserved : goal.loop-kind-preserved
loop-kind-preserved c =
    rw c.in_ok-push.ensures.items
    (laid_turn c.args.rows.now.types c.args.kinds.now c.loop-kind.kind-index _ c.loop-kind.starts.items c.loop-kind.all.size c.in_ok-all.all.size (seen_start c.in_ok-next.next.size) c.loop-kind.all.depth c.in_ok-next.next.depth c.in_ok-all.all.depth (omega arith) c.loop-kind.invariant c.in_ok-next.ensures c.in_ok-all.ensures.size c.in_ok-all.ensures.first c.in_ok-all.ensures.second)
