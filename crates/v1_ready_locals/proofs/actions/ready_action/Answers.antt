use Rattle.std.proofs.Common.{refl, ap, ◌∙◌}
use Rattle.p416_scopes.specs.Seen.{seen_part, seen_scope}
use Rattle.v1_ready_program.specs.Seen.{seen_seats}
use Rattle.v1_ready_locals.proofs.Leaving.{action_left, seats_left, body_told}
use Rattle.v1_ready_locals.proofs.actions.ready_action.Goals as goal

pub returns-clause-statement : goal.returns-clause-statement
returns-clause-statement g c =
    let b = g.S.Singles.block c.args.singles.now in
    body_told b (seen_scope c.args.standing.now.scope) (seen_seats c.args.standing.now.seats) c.args.own (seen_scope c.enter_action.new.standing.scope) (seen_seats c.enter_action.new.standing.seats) c.enter_action.new.standing.number _ _
    c.in_ok-enter_action.ensures.scope c.in_ok-enter_action.ensures.seats c.in_ok-enter_action.ensures.number c.statements.ensures c.in_ok-found.ensures.statement

pub returns-clause-scope : goal.returns-clause-scope
returns-clause-scope g c =
    let old = c.args.standing.now in
    let mid = c.ready_body.new.standing in
    action_left old.scope mid.scope.top.now c.args.own.action.now c.len-names.result (seen_part old.scope.part) (seen_scope mid.scope) (seen_scope c.leave_action.new.standing.scope)
    old.scope.same (ap (λ t. t.now) (c.in_ok-found.ensures.stays.top ∙ c.in_ok-enter_action.ensures.stays.top)) c.len-names.ensures refl
    (c.in_ok-found.ensures.scope ∙ c.in_ok-enter_action.ensures.scope) c.in_ok-leave_action.ensures.scope

pub returns-clause-seats : goal.returns-clause-seats
returns-clause-seats g c =
    let b = g.S.Singles.block c.args.singles.now in
    c.in_ok-leave_action.ensures.seats
    ∙ seats_left b c.args.own.first c.args.own.action.now.parameters (seen_seats c.args.standing.now.seats) (seen_seats c.ready_body.new.standing.seats) c.len-seats.result (c.in_ok-found.ensures.seats ∙ c.in_ok-enter_action.ensures.seats) c.len-seats.ensures
