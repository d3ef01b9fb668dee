use Rattle.std.proofs.Common.{◌≡◌, ◌≤◌, length, drop}
use Rattle.p416_scopes.specs.Seen.{seen_scope}
use Rattle.v1_ready_nodes.specs.Held.{Grows}
use Rattle.v1_ready_bodies.specs.Seen.{seen_statement, IsNodeIn}
use Rattle.v1_ready_bodies.specs.Variables.{starts_ready}
use Rattle.v1_ready_bodies.proofs.variables.ready_starts.Given as goal

abbrev pub invariant-loop-left : goal.invariant-loop-left
invariant-loop-left g l = record {
  statement :
      seen_statement l.nodes l.found
      ≡ starts_ready (g.S.Singles.block l.singles) (seen_scope l.standing.scope) (drop l.left l.variables) (seen_statement l.fn.nodes l.fn.rest);
  within : IsNodeIn l.nodes l.found;
  grows : Grows l.fn.nodes l.nodes;
  few : l.left ≤ length l.variables;
}

abbrev pub decreases-loop-left : goal.decreases-loop-left
decreases-loop-left g l = l.left
