use Rattle.std.proofs.Common.{ap, get_or, length, take, arith}
use Rattle.digraph.specs.internal.Reaching.{Reach}
use Rattle.digraph.proofs.Members.{among_place}
use Rattle.digraph.proofs.Spreading.{length-reach_all}
use Rattle.digraph.proofs.reach.Reached.put_all.Goals as goal

pub put-requires : goal.put-requires
put-requires c =
    let lt = c.requires (get_or c.args.nodes.now c.loop-node.node-index 0) (among_place c.args.nodes.now c.loop-node.node-index 0 c.loop-node-test.true) in
    let same = ap (λ (r : Reach). length r.reached) c.loop-node.invariant in
    let kept = length-reach_all c.args.self.now (take c.loop-node.node-index c.args.nodes.now) in
    omega (arith, lt, same, kept)
