use Rattle.std.proofs.Common.{sym, ap, ◌∙◌}
use Rattle.p416_names.specs.SeenKinds.{seen_kind}
use Rattle.p416_scopes.specs.Seen.{seen_scope}
use Rattle.v1_ready_program.specs.Seen.{seen_seats}
use Rattle.v1_ready_statements.specs.Statements.{assignment_ready, initial_ready, start_ready, ready_of_statement}
use Rattle.v1_ready_statements.specs.Called.{expression_ready}
use Rattle.v1_ready_bodies.proofs.joining.single.Goals as goal

pub returns-in_ok-declare-in-Var-clause-statement : goal.returns-in_ok-declare-in-Var-clause-statement
returns-in_ok-declare-in-Var-clause-statement g c =
    let b = g.S.Singles.block c.args.singles.now in
    let s = c.args.standing.now in
    c.in_ok-found-in-Var.ensures.statement
    ∙ (ap (λ x. start_ready b (seen_scope x) s.number) c.around.ensures.scope
    ∙ ap (ready_of_statement b (seen_scope s.scope) (seen_seats s.seats) s.number) (sym c.in-Var.ensures))

pub returns-in_ok-declare-in-VarIs-clause-statement : goal.returns-in_ok-declare-in-VarIs-clause-statement
returns-in_ok-declare-in-VarIs-clause-statement g c =
    let b = g.S.Singles.block c.args.singles.now in
    let s = c.args.standing.now in
    let k = seen_kind c.kind_of_type-kind.result in
    let e = c.in-VarIs.value in
    c.in_ok-found-in-VarIs.ensures.statement
    ∙ (ap (λ x. initial_ready b (seen_scope x) (seen_seats c.around-in-VarIs.result.seats.now) s.number k e) c.around-in-VarIs.ensures.scope
    ∙ (ap (λ x. initial_ready b (seen_scope s.scope) (seen_seats x) s.number k e) c.around-in-VarIs.ensures.seats
    ∙ (ap (λ x. initial_ready b (seen_scope s.scope) (seen_seats s.seats) s.number x e) c.kind_of_type-kind.ensures
    ∙ ap (ready_of_statement b (seen_scope s.scope) (seen_seats s.seats) s.number) (sym c.in-VarIs.ensures))))

pub returns-in_ok-assigned-in-Assign-clause-statement : goal.returns-in_ok-assigned-in-Assign-clause-statement
returns-in_ok-assigned-in-Assign-clause-statement g c =
    let b = g.S.Singles.block c.args.singles.now in
    let s = c.args.standing.now in
    let t = c.in-Assign.target in
    let e = c.in-Assign.value in
    c.in_ok-assigned-in-Assign.ensures.statement
    ∙ (ap (λ y. assignment_ready b (seen_scope y) (seen_seats c.around-in-Assign.result.seats.now) t e) c.around-in-Assign.ensures.scope
    ∙ (ap (λ y. assignment_ready b (seen_scope s.scope) (seen_seats y) t e) c.around-in-Assign.ensures.seats
    ∙ ap (ready_of_statement b (seen_scope s.scope) (seen_seats s.seats) s.number) (sym c.in-Assign.ensures)))

pub returns-in_ok-called-in-Expression-clause-statement : goal.returns-in_ok-called-in-Expression-clause-statement
returns-in_ok-called-in-Expression-clause-statement g c =
    let b = g.S.Singles.block c.args.singles.now in
    let s = c.args.standing.now in
    let e = c.in-Expression.call in
    c.in_ok-called-in-Expression.ensures.statement
    ∙ (ap (λ y. expression_ready b (seen_scope y) (seen_seats c.around-in-Expression.result.seats.now) e) c.around-in-Expression.ensures.scope
    ∙ (ap (λ y. expression_ready b (seen_scope s.scope) (seen_seats y) e) c.around-in-Expression.ensures.seats
    ∙ ap (ready_of_statement b (seen_scope s.scope) (seen_seats s.seats) s.number) (sym c.in-Expression.ensures)))
