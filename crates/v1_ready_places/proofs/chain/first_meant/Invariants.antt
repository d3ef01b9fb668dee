use Rattle.std.proofs.Common.{◌≡◌, ◌≤◌, length, drop}
use Rattle.std.specs.Prelude.{option_map}
use Rattle.p416_scopes.specs.Seen.{seen_scope}
use Rattle.v1_ready_program.specs.Seen.{seen_seats}
use Rattle.v1_ready_places.specs.Seen.{seen_meant}
use Rattle.v1_ready_places.specs.internal.Chains.{chained}
use Rattle.v1_ready_places.proofs.chain.first_meant.Given as goal

abbrev pub invariant-loop-left : goal.invariant-loop-left
invariant-loop-left l = record {
  meant : option_map seen_meant l.meant ≡ chained (seen_scope l.around.scope.now) (seen_seats l.around.seats.now) (drop l.left l.views);
  few : l.left ≤ length l.views;
}

abbrev pub decreases-loop-left : goal.decreases-loop-left
decreases-loop-left l = l.left
