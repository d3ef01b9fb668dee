use Rattle.std.proofs.Common.{sym, ◌∙◌}
use Rattle.p416_syntax.specs.Declarations.{top_names}
use Rattle.p416_calls.specs.Seen.{seen_place}
use Rattle.p416_scopes.specs.Seen.{seen_scope}
use Rattle.p416_typing.specs.Seen.{seen_row}
use Rattle.p416_expression_check.proofs.Known.{known_lower, known_higher}
use Rattle.p416_expression_check.proofs.judge.broken_rule.Goals as goal

pub returns-in-Some : goal.returns-in-Some
returns-in-Some c = known_lower (seen_scope c.args.scope.now) (seen_place c.args.place) c.args.view.now (seen_row (top_names c.args.scope.now.top.now) c.args.row) c.in-Some.rule c.requires (sym c.lower_rule.ensures ∙ c.in-Some.is)

pub returns-in-None : goal.returns-in-None
returns-in-None c = c.higher_rule.ensures ∙ known_higher (seen_scope c.args.scope.now) (seen_place c.args.place) c.args.view.now (seen_row (top_names c.args.scope.now.top.now) c.args.row) c.requires (sym c.lower_rule.ensures ∙ c.in-None.is)
