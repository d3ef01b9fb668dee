use Rattle.std.proofs.Common.{sym, ap, ◌∙◌}
use Rattle.p416_syntax.specs.Declarations.{top_names}
use Rattle.p416_syntax.specs.Expressions.{sort_kind, sort_signature}
use Rattle.p416_scopes.specs.Seen.{seen_scope}
use Rattle.p416_typing.proofs.Stacked.{name_known}
use Rattle.p416_typing.proofs.parts.name_row.Goals as goal

pub returns : goal.returns
returns c =
    name_known (seen_scope c.args.scope.now) c.args.text.now _ _ _
    (c.sort_kind.ensures (top_names c.args.scope.now.top.now) ∙ ap sort_kind c.sort_of-sort.ensures)
    (c.sort_callee.ensures (top_names c.args.scope.now.top.now) ∙ ap (λ o. sort_signature o c.args.text.now) c.sort_of-sort.ensures)
    (c.is_writable.ensures (top_names c.args.scope.now.top.now) (seen_scope c.args.scope.now) c.args.text.now (sym c.sort_of-sort.ensures))
