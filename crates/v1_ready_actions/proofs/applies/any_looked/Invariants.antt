use Rattle.std.proofs.Common.{◌≡◌, map, drop}
use Rattle.p416_syntax.specs.Declarations.{top_names}
use Rattle.p416_scopes.specs.Seen.{seen_scope}
use Rattle.p416_typing.specs.Rows.{row_of}
use Rattle.p416_typing.specs.Seen.{seen_row}
use Rattle.v1_ready_actions.specs.internal.Looked.{any_looked}
use Rattle.v1_ready_actions.proofs.applies.any_looked.Given as goal

abbrev pub invariant-loop-view : goal.invariant-loop-view
invariant-loop-view l = record {
  looked : any_looked (seen_scope l.scope) l.looked (drop l.view-index l.views) ≡ any_looked (seen_scope l.scope) l.fn.looked l.views;
  rows : map (seen_row (top_names l.scope.top.now)) l.rows ≡ map (row_of (seen_scope l.scope)) (drop l.view-index l.views);
}
