use Rattle.std.proofs.Common.{◌≡◌, ◌++◌, All, drop, map}
use Rattle.p416_scopes.specs.Seen.{seen_scope}
use Rattle.v1_ready_program.specs.Seen.{seen_seats}
use Rattle.v1_ready_nodes.specs.Held.{Grows}
use Rattle.v1_ready_statements.specs.Blocks.{all_of, body_ready, parameter_slots}
use Rattle.v1_block_run.specs.Blocks.{seen_parameters}
use Rattle.v1_ready_operands.specs.Callees.{seen_action}
use Rattle.v1_ready_bodies.specs.Fronts.{in_front}
use Rattle.v1_ready_bodies.specs.Seen.{Stays}
use Rattle.v1_ready_locals.specs.Seen.{seen_bodies, IsActionIn}
use Rattle.v1_ready_locals.proofs.actions.ready_actions.Given as goal

abbrev pub invariant-loop-own : goal.invariant-loop-own
invariant-loop-own g l = record {
  bodies :
      in_front (seen_bodies l.nodes l.rows) (all_of (λ own. body_ready (g.S.Singles.block l.singles) (seen_scope l.fn.standing.scope) (seen_seats l.fn.standing.seats) (seen_action own)) (drop l.own-index l.actions))
      ≡ all_of (λ own. body_ready (g.S.Singles.block l.singles) (seen_scope l.fn.standing.scope) (seen_seats l.fn.standing.seats) (seen_action own)) l.actions;
  parameters :
      map seen_parameters l.rows ++ map (λ own. parameter_slots (g.S.Singles.block l.singles) (seen_action own)) (drop l.own-index l.actions)
      ≡ map (λ own. parameter_slots (g.S.Singles.block l.singles) (seen_action own)) l.actions;
  within : All (IsActionIn l.layout l.nodes) l.rows;
  grows : Grows l.fn.nodes l.nodes;
  scope : seen_scope l.standing.scope ≡ seen_scope l.fn.standing.scope;
  seats : seen_seats l.standing.seats ≡ seen_seats l.fn.standing.seats;
  stays : Stays l.fn.standing l.standing;
}
