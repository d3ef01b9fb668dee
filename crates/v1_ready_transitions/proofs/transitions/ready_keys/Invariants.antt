use Rattle.std.proofs.Common.{◌≡◌, length, map, drop}
use Rattle.p416_scopes.specs.Seen.{seen_scope}
use Rattle.v1_core.specs.Nodes.{ready_at}
use Rattle.v1_core.specs.Kept.{trees}
use Rattle.v1_ready_program.specs.Seen.{seen_seats, Keeps}
use Rattle.v1_ready_selects.specs.Selects.{ArePlaces}
use Rattle.v1_ready_selects.specs.Transitions.{keys_ready}
use Rattle.v1_ready_transitions.specs.internal.Firsts.{in_front}
use Rattle.v1_ready_transitions.proofs.transitions.ready_keys.Given as goal

abbrev pub invariant-loop-key : goal.invariant-loop-key
invariant-loop-key l = record {
  ready : in_front (map (ready_at (trees l.expressions)) l.places) (keys_ready (seen_scope l.around.scope.now) (seen_seats l.around.seats.now) (drop l.key-index l.keys)) ≡ keys_ready (seen_scope l.around.scope.now) (seen_seats l.around.seats.now) l.keys;
  within : ArePlaces (length (trees l.expressions)) l.places;
  keeps : Keeps (trees l.fn.expressions) (trees l.expressions);
  layout : l.expressions.layout ≡ l.fn.expressions.layout;
}
