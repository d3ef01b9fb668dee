use Rattle.std.proofs.Common.{true, false, sym, ◌∙◌}
use Rattle.p416_syntax.specs.Declarations.{top_names}
use Rattle.p416_calls.specs.Seen.{seen_place}
use Rattle.p416_scopes.specs.Seen.{seen_scope}
use Rattle.p416_typing.specs.Seen.{seen_row}
use Rattle.p416_expression_check.proofs.Known.{lower_at}
use Rattle.p416_expression_check.proofs.judge.lower_rule.Goals as goal

pub returns-then-overflows : goal.returns-then-overflows
returns-then-overflows c =
    sym (lower_at (seen_scope c.args.scope.now) (seen_place c.args.place) (seen_row (top_names c.args.scope.now.top.now) c.args.row) c.args.view.now false false true true
    (sym c.is_unknown.ensures ∙ c.if-is_unknown.false)
    (sym c.leaves_size.ensures ∙ c.if-leaves_size.false)
    (sym c.takes.ensures ∙ c.if-not-takes.false)
    (sym (c.overflows.ensures (seen_scope c.args.scope.now)) ∙ c.if-overflows.true))

pub returns-else-overflows : goal.returns-else-overflows
returns-else-overflows c =
    sym (lower_at (seen_scope c.args.scope.now) (seen_place c.args.place) (seen_row (top_names c.args.scope.now.top.now) c.args.row) c.args.view.now false false true false
    (sym c.is_unknown.ensures ∙ c.if-is_unknown.false)
    (sym c.leaves_size.ensures ∙ c.if-leaves_size.false)
    (sym c.takes.ensures ∙ c.if-not-takes.false)
    (sym (c.overflows.ensures (seen_scope c.args.scope.now)) ∙ c.if-overflows.false))
