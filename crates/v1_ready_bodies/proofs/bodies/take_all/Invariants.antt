use Rattle.std.proofs.Common.{◌≡◌}
use Rattle.v1_ready_nodes.specs.Held.{Grows}
use Rattle.v1_ready_bodies.specs.Seen.{Stays}
use Rattle.v1_ready_bodies.specs.internal.Steps.{AreNodesIn, state_of, finish, steps}
use Rattle.v1_ready_bodies.proofs.bodies.take_all.Given as goal

abbrev pub invariant-loop-next : goal.invariant-loop-next
invariant-loop-next g l = record {
  finish :
      finish (g.S.Singles.block l.singles) l.standing.scope.top.now l.left (state_of l.nodes l.standing l.made)
      ≡ finish (g.S.Singles.block l.singles) l.fn.standing.scope.top.now l.fn.left (state_of l.fn.nodes l.fn.standing l.fn.made);
  within : AreNodesIn l.nodes l.made;
  grows : Grows l.fn.nodes l.nodes;
  stays : Stays l.fn.standing l.standing;
}

abbrev pub decreases-loop-next : goal.decreases-loop-next
decreases-loop-next g l = steps l.left
