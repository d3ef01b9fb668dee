use Rattle.std.proofs.Common.{◌≡◌, drop}
use Rattle.p416_scopes.specs.Seen.{seen_scope}
use Rattle.v1_ready_program.specs.Seen.{seen_seats}
use Rattle.v1_ready_nodes.specs.Held.{Grows}
use Rattle.v1_ready_statements.specs.Blocks.{all_of}
use Rattle.v1_ready_bodies.specs.Fronts.{in_front}
use Rattle.v1_ready_tables.specs.Seen.{seen_keys, AreKeysIn}
use Rattle.v1_ready_tables.specs.Tables.{key_within}
use Rattle.v1_ready_tables.proofs.keys.ready_keys.Given as goal

abbrev pub invariant-loop-key : goal.invariant-loop-key
invariant-loop-key l = record {
  ready : in_front (seen_keys l.nodes l.places) (all_of (key_within (seen_scope l.around.scope.now) (seen_seats l.around.seats.now)) (drop l.key-index l.keys)) ≡ all_of (key_within (seen_scope l.around.scope.now) (seen_seats l.around.seats.now)) l.keys;
  within : AreKeysIn l.nodes l.places;
  grows : Grows l.fn.nodes l.nodes;
}
