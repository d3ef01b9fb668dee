use Rattle.std.proofs.Common.{map}
use Rattle.p416_syntax.specs.Declarations.{top_names}
use Rattle.p416_scopes.specs.Seen.{seen_scope}
use Rattle.p416_typing.specs.Seen.{seen_row}
use Rattle.p416_expression_uses.specs.internal.Runs.{seen_spots}
use Rattle.p416_expression_uses.proofs.Running.{run_on, rows_on}
use Rattle.p416_expression_uses.proofs.walk.see_run.Goals as goal

pub loop-view-preserved : goal.loop-view-preserved
loop-view-preserved c = record {
  judged =
      run_on (seen_scope c.args.scope.now) c.args.views.now c.loop-view.view-index c.view-item.result (seen_spots (top_names c.args.scope.now.top.now) c.loop-view.spots)
      (seen_spots (top_names c.args.scope.now.top.now) c.see_next.new.spots) c.loop-view.found c.see_next.new.found _ c.loop-view-test.true c.view-item.is
      c.in_ok-see_next.ensures.found c.loop-view.invariant.judged;
  known =
      rows_on (seen_scope c.args.scope.now) c.args.views.now c.loop-view.view-index c.view-item.result (map (seen_row (top_names c.args.scope.now.top.now)) c.loop-view.rows)
      (map (seen_row (top_names c.args.scope.now.top.now)) c.see_next.new.rows) c.loop-view-test.true c.view-item.is c.in_ok-see_next.ensures.rows c.loop-view.invariant.known;
}
