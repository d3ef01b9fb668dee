use Rattle.std.proofs.Common.{◌+◌}
use Rattle.p416_syntax.specs.Statements.{declared_in, nesting, statement_uses}
use Rattle.p416_scopes.specs.Seen.{seen_scope}
use Rattle.p416_uses.proofs.BodyUses.{body_told}
use Rattle.p416_uses.proofs.bodies.see_body.Goals as goal

pub returns-clause-found : goal.returns-clause-found
returns-clause-found c = λ braces.
    body_told c.args.found.now c.see_scope.new.found c.see_statements.new.found (declared_in c.args.body.now) (statement_uses (seen_scope c.args.scope.now) c.args.body.now)
    c.in_ok-see_scope.ensures c.in_ok-see_statements.ensures.found (braces + nesting c.args.body.now)
