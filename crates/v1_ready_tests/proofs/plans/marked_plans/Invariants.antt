use Rattle.std.proofs.Common.{◌≡◌, ◌++◌, [], ◌∷◌, length, map, drop}
use Rattle.p416_syntax.specs.Declarations.{top_names}
use Rattle.p416_calls.specs.Seen.{seen_place}
use Rattle.p416_scopes.specs.Seen.{seen_scope}
use Rattle.p416_typing.specs.Rows.{row_of}
use Rattle.p416_typing.specs.Seen.{seen_row}
use Rattle.v1_ready_forms.specs.Ways.{its_value}
use Rattle.v1_ready_program.specs.Seen.{seen_seats}
use Rattle.v1_ready_program.specs.internal.Coded.{AreWays, seen_ways, seen_asks, AreAsksIn}
use Rattle.v1_ready_program.specs.internal.Passes.{asked}
use Rattle.v1_ready_tests.specs.internal.Coded.{seen_marked}
use Rattle.v1_ready_tests.specs.internal.Passes.{marked_plans}
use Rattle.v1_ready_tests.proofs.plans.marked_plans.Given as goal

abbrev pub invariant-loop-view : goal.invariant-loop-view
invariant-loop-view l = record {
  plans : map seen_marked l.made.items ++ marked_plans (seen_scope l.around.scope.now) (seen_seats l.around.seats.now) (seen_asks (seen_ways l.ways) l.asks) (drop l.view-index l.views) ≡ marked_plans (seen_scope l.around.scope.now) (seen_seats l.around.seats.now) (asked (seen_place l.place) its_value ∷ []) l.views;
  rows : map (seen_row (top_names l.around.scope.now.top.now)) l.rows ≡ map (row_of (seen_scope l.around.scope.now)) (drop l.view-index l.views);
  ways : AreWays l.ways;
  asks : AreAsksIn (length (seen_ways l.ways)) l.asks;
}
