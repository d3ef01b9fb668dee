use Rattle.std.proofs.Common.{◌≡◌, Some, [], length}
use Rattle.p416_scopes.specs.Seen.{seen_scope}
use Rattle.v1_ready_program.specs.Seen.{seen_seats}
use Rattle.v1_ready_nodes.specs.Held.{Grows}
use Rattle.v1_ready_operands.specs.Callees.{around_of}
use Rattle.v1_ready_operands.specs.Seen.{seen_incoming, ArePassedIn}
use Rattle.v1_ready_operands.specs.internal.Passes.{behind_in}
use Rattle.v1_ready_actions.proofs.incoming.all_incoming.Given as goal

abbrev pub invariant-loop-one : goal.invariant-loop-one
invariant-loop-one l = record {
  incoming :
      behind_in (around_of l.callees) (seen_scope l.around.scope.now) (seen_seats l.around.seats.now) l.passed (seen_incoming l.nodes l.found)
      ≡ behind_in (around_of l.callees) (seen_scope l.around.scope.now) (seen_seats l.around.seats.now) l.fn.passed (Some []);
  within : ArePassedIn l.nodes l.found;
  grows : Grows l.fn.nodes l.nodes;
}

abbrev pub decreases-loop-one : goal.decreases-loop-one
decreases-loop-one l = length l.passed
