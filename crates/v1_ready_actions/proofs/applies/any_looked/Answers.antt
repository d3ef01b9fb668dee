use Rattle.std.proofs.Common.{map, ap}
use Rattle.p416_syntax.specs.Declarations.{top_names}
use Rattle.p416_scopes.specs.Seen.{seen_scope}
use Rattle.p416_typing.specs.Seen.{seen_row}
use Rattle.v1_ready_program.proofs.Turning.{rows_turn}
use Rattle.v1_ready_actions.proofs.Looking.{looked_found, looked_turn}
use Rattle.v1_ready_actions.proofs.applies.any_looked.Goals as goal

pub next_applies-requires : goal.next_applies-requires
next_applies-requires c =
    let top = top_names c.args.scope.now.top.now in
    (rows_turn (seen_scope c.args.scope.now) c.args.views.now c.loop-view.view-index c.view-item.result (map (seen_row top) c.loop-view.rows) (seen_row top c.in-Some.row) (map (seen_row top) c.pop.new.self) c.loop-view-test.true c.view-item.is
    (ap (map (seen_row top)) c.in-Some.ensures) c.loop-view.invariant.rows).row_is

pub loop-view-preserved : goal.loop-view-preserved
loop-view-preserved c =
    let s = seen_scope c.args.scope.now in
    let top = top_names c.args.scope.now.top.now in
    record {
      looked =
          looked_turn s c.args.views.now c.loop-view.view-index c.view-item.result c.loop-view.looked c.next_applies.new.looked c.in_ok-one.one _ c.loop-view-test.true c.view-item.is
          c.in_ok-one.ensures.found c.loop-view.invariant.looked c.if-one.false c.in_ok-one.ensures.looked;
      rows =
          (rows_turn s c.args.views.now c.loop-view.view-index c.view-item.result (map (seen_row top) c.loop-view.rows) (seen_row top c.in-Some.row) (map (seen_row top) c.pop.new.self) c.loop-view-test.true c.view-item.is
          (ap (map (seen_row top)) c.in-Some.ensures) c.loop-view.invariant.rows).rest_is;
    }

pub returns-then-one : goal.returns-then-one
returns-then-one c =
    looked_found (seen_scope c.args.scope.now) c.args.views.now c.loop-view.view-index c.view-item.result c.loop-view.looked c.next_applies.new.looked c.in_ok-one.one _ c.loop-view-test.true c.view-item.is
    c.in_ok-one.ensures.found c.loop-view.invariant.looked c.if-one.true
