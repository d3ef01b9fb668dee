use Rattle.std.proofs.Common.{◌≡◌, All, drop}
use Rattle.p416_scopes.specs.Seen.{seen_scope}
use Rattle.v1_ready_program.specs.Seen.{seen_seats}
use Rattle.v1_ready_nodes.specs.Held.{Grows}
use Rattle.v1_ready_bodies.specs.Fronts.{in_front}
use Rattle.v1_ready_bodies.specs.Seen.{Stays}
use Rattle.v1_ready_parser.specs.Parsers.{states_ready}
use Rattle.v1_ready_parser.specs.Places.{seen_states, IsStateIn}
use Rattle.v1_ready_parser.proofs.states.ready_states.Given as goal

abbrev pub invariant-loop-state : goal.invariant-loop-state
invariant-loop-state g l = record {
  states :
      in_front (seen_states l.nodes l.rows) (states_ready (g.S.Singles.block l.singles) (seen_scope l.fn.standing.scope) (seen_seats l.fn.standing.seats) l.standing.number l.names (drop l.state-index l.states))
      ≡ states_ready (g.S.Singles.block l.singles) (seen_scope l.fn.standing.scope) (seen_seats l.fn.standing.seats) l.fn.standing.number l.names l.states;
  within : All (IsStateIn l.nodes) l.rows;
  grows : Grows l.fn.nodes l.nodes;
  scope : seen_scope l.standing.scope ≡ seen_scope l.fn.standing.scope;
  seats : seen_seats l.standing.seats ≡ seen_seats l.fn.standing.seats;
  stays : Stays l.fn.standing l.standing;
}
