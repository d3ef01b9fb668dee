use Rattle.std.proofs.Common.{map, ap}
use Rattle.p416_syntax.specs.Declarations.{top_names}
use Rattle.p416_scopes.specs.Seen.{seen_scope}
use Rattle.p416_typing.specs.Seen.{seen_row}
use Rattle.v1_ready_program.specs.Seen.{seen_seats}
use Rattle.v1_ready_program.specs.internal.Coded.{seen_ways, seen_asks}
use Rattle.v1_ready_program.proofs.Turning.{rows_turn}
use Rattle.v1_ready_tests.proofs.Marking.{marked_turn}
use Rattle.v1_ready_tests.proofs.plans.marked_plans.Goals as goal

pub next_marked-requires-clause-row : goal.next_marked-requires-clause-row
next_marked-requires-clause-row c =
    let top = top_names c.args.around.scope.now.top.now in
    (rows_turn (seen_scope c.args.around.scope.now) c.args.views.now c.loop-view.view-index c.view-item.result (map (seen_row top) c.loop-view.rows) (seen_row top c.in-Some.row) (map (seen_row top) c.pop.new.self) c.loop-view-test.true c.view-item.is
    (ap (map (seen_row top)) c.in-Some.ensures) c.loop-view.invariant.rows).row_is

pub loop-view-preserved : goal.loop-view-preserved
loop-view-preserved c =
    let s = seen_scope c.args.around.scope.now in
    let top = top_names c.args.around.scope.now.top.now in
    record {
      plans =
          marked_turn s (seen_seats c.args.around.seats.now) c.args.views.now c.loop-view.view-index c.view-item.result c.loop-view.made.items _ c.in_ok-next_marked.field-0
          (seen_asks (seen_ways c.loop-view.ways) c.loop-view.asks) (seen_asks (seen_ways c.next_marked.new.ways) c.next_marked.new.asks) _ c.loop-view-test.true c.view-item.is
          c.in_ok-push-2.ensures.items c.in_ok-next_marked.ensures.marked c.in_ok-next_marked.ensures.asks c.loop-view.invariant.plans;
      rows =
          (rows_turn s c.args.views.now c.loop-view.view-index c.view-item.result (map (seen_row top) c.loop-view.rows) (seen_row top c.in-Some.row) (map (seen_row top) c.pop.new.self) c.loop-view-test.true c.view-item.is
          (ap (map (seen_row top)) c.in-Some.ensures) c.loop-view.invariant.rows).rest_is;
      ways = c.in_ok-next_marked.ensures.ways;
      asks = c.in_ok-next_marked.ensures.within;
    }
