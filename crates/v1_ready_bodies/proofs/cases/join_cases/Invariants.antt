use Rattle.std.proofs.Common.{◌≡◌}
use Rattle.v1_ready_nodes.specs.Held.{Grows}
use Rattle.v1_ready_bodies.specs.Seen.{seen_statement, IsNodeIn}
use Rattle.v1_ready_bodies.specs.internal.Steps.{seen_all, AreNodesIn, cases_joined, steps_of}
use Rattle.v1_ready_bodies.proofs.cases.join_cases.Given as goal

abbrev pub invariant-loop-before : goal.invariant-loop-before
invariant-loop-before g l = record {
  joined :
      cases_joined (g.S.Singles.block l.singles) (seen_statement l.nodes l.found) l.left (seen_all l.nodes l.made)
      ≡ cases_joined (g.S.Singles.block l.singles) (seen_statement l.fn.nodes l.fn.rest) l.cases (seen_all l.fn.nodes l.fn.made);
  rest : IsNodeIn l.nodes l.found;
  within : AreNodesIn l.nodes l.made;
  grows : Grows l.fn.nodes l.nodes;
}

abbrev pub decreases-loop-before : goal.decreases-loop-before
decreases-loop-before g l = steps_of l.left
