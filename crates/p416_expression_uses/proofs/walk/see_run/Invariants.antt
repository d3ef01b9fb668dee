use Rattle.std.proofs.Common.{◌≡◌, map, drop}
use Rattle.p416_syntax.specs.Declarations.{top_names}
use Rattle.p416_scopes.specs.Seen.{seen_scope}
use Rattle.p416_typing.specs.Rows.{row_of}
use Rattle.p416_typing.specs.Seen.{seen_row}
use Rattle.p416_expression_uses.specs.Found.{after_all}
use Rattle.p416_expression_uses.specs.internal.Runs.{seen_spots, run}
use Rattle.p416_expression_uses.proofs.walk.see_run.Given as goal

abbrev pub invariant-loop-view : goal.invariant-loop-view
invariant-loop-view l = record {
  judged : after_all l.found (run (seen_scope l.scope) (seen_spots (top_names l.scope.top.now) l.spots) (drop l.view-index l.views)) ≡ after_all l.fn.found (run (seen_scope l.scope) (seen_spots (top_names l.scope.top.now) l.fn.spots) l.views);
  known : map (seen_row (top_names l.scope.top.now)) l.rows ≡ map (row_of (seen_scope l.scope)) (drop l.view-index l.views);
}
