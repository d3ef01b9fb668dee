use Rattle.std.proofs.Common.{sym, ◌∙◌}
use Rattle.p416_scopes.specs.Seen.{seen_scope}
use Rattle.p416_listed_check.proofs.Entering.{given_more}
use Rattle.p416_listed_check.proofs.actions.is_bad_besides.Goals as goal

pub returns-clause-given : goal.returns-clause-given
returns-clause-given c =
    given_more (seen_scope c.args.scope.now) c.args.given.now c.add.new.self c.args.name.now c.in_ok-add.field-0 c.in_ok-add.ensures c.requires (sym c.is_bad_name.ensures ∙ c.if-is_bad_name.false)
