use Rattle.std.proofs.Common.{ap, ◌∙◌}
use Rattle.p416_scopes.specs.Seen.{seen_scope}
use Rattle.v1_ready_program.specs.Seen.{seen_seats}
use Rattle.v1_ready_bodies.specs.Seen.{seen_statement}
use Rattle.v1_ready_bodies.specs.Variables.{variables_ready}
use Rattle.v1_ready_locals.proofs.Joining.{body_told}
use Rattle.v1_ready_controls.proofs.whole.whole_body.Goals as goal

pub returns-clause-body : goal.returns-clause-body
returns-clause-body g c =
    let b = g.S.Singles.block c.args.singles.now in
    let old = c.args.standing.now in
    let mid = c.ready_body.new.standing in
    let rest = seen_statement c.ready_body.new.nodes c.in_ok-statements.statements in
    body_told b (seen_scope old.scope) (seen_scope mid.scope) (seen_seats old.seats) (seen_seats mid.seats) c.args.own.now.variables.items c.args.number _ c.args.control.now.body rest _ c.in_ok-statements.ensures.scope c.in_ok-statements.ensures.seats c.statements.ensures c.in_ok-statements.ensures.statement
    (c.in_ok-body.ensures.statement ∙ ap (λ vs. variables_ready b (seen_scope mid.scope) (seen_seats mid.seats) vs rest) c.deref.ensures.value)
