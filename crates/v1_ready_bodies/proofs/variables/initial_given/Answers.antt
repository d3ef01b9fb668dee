use Rattle.std.proofs.Common.{ap, ◌∙◌}
use Rattle.p416_names.specs.SeenKinds.{seen_kind}
use Rattle.p416_scopes.specs.Seen.{seen_scope}
use Rattle.v1_ready_program.specs.Seen.{seen_seats}
use Rattle.v1_ready_statements.specs.Statements.{initial_ready}
use Rattle.v1_ready_bodies.proofs.Keeping.{before_kept}
use Rattle.v1_ready_bodies.proofs.variables.initial_given.Goals as goal

pub returns-clause-statement : goal.returns-clause-statement
returns-clause-statement g c =
    let b = g.S.Singles.block c.args.singles.now in
    let s = c.args.standing.now in
    let n = c.args.number in
    let e = c.args.value.now in
    let k = seen_kind c.kind_of_type-kind.result in
    before_kept c.args.nodes.now c.initial.new.nodes c.in_ok-initial.ensures.grows c.args.rest _ _ _ c.requires.rest
    (c.in_ok-initial.ensures.statement
    ∙ (ap (λ y. initial_ready b (seen_scope y) (seen_seats c.around.result.seats.now) n k e) c.around.ensures.scope
    ∙ (ap (λ y. initial_ready b (seen_scope s.scope) (seen_seats y) n k e) c.around.ensures.seats
    ∙ ap (λ y. initial_ready b (seen_scope s.scope) (seen_seats s.seats) n y e) c.kind_of_type-kind.ensures)))
    c.in_ok-placed.ensures.statement
