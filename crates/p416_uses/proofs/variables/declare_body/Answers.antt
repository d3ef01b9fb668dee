use Rattle.std.proofs.Common.{map, ap, ◌∙◌}
use Rattle.p416_scopes.specs.Seen.{seen_scope}
use Rattle.p416_uses.specs.Variables.{seen_variable}
use Rattle.p416_uses.proofs.BodyUses.{behind_told}
use Rattle.p416_uses.proofs.variables.declare_body.Goals as goal

pub returns-clause-scope : goal.returns-clause-scope
returns-clause-scope c =
    behind_told (seen_scope c.args.scope.now) (seen_scope c.declare_all.new.scope) (map seen_variable c.deref.result.now) c.args.body.now c.in_ok-declare_all.ensures.scope
    (ap (map seen_variable) c.deref.ensures.value ∙ c.in_ok-variables.ensures)
