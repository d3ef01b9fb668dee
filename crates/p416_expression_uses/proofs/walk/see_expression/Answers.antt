use Rattle.std.proofs.Common.{map, ◌∙◌}
use Rattle.p416_syntax.specs.Declarations.{top_names}
use Rattle.p416_scopes.specs.Seen.{seen_scope}
use Rattle.p416_typing.specs.Seen.{seen_row}
use Rattle.p416_expression_uses.proofs.Running.{rows_told}
use Rattle.p416_expression_uses.proofs.walk.see_expression.Goals as goal

pub see_run-requires : goal.see_run-requires
see_run-requires c =
    rows_told (map (seen_row (top_names c.args.scope.now.top.now)) c.in_ok-views.field-0.rows) (map (seen_row (top_names c.args.scope.now.top.now)) c.root_row.new.rows)
    (seen_scope c.args.scope.now) c.args.expression.now c.deref.result.now (c.in_ok-row.ensures.rows (top_names c.args.scope.now.top.now)) c.in_ok-views.ensures.rows
    (c.deref.ensures.value ∙ c.in_ok-views.ensures.views)
