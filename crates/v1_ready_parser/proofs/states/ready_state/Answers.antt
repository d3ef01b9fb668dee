use Rattle.std.proofs.Common.{ap, ◌∙◌}
use Rattle.p416_syntax.specs.Statements.{behind}
use Rattle.p416_scopes.specs.Seen.{seen_scope}
use Rattle.v1_ready_program.specs.Seen.{seen_seats}
use Rattle.v1_ready_selects.specs.Transitions.{transition_ready}
use Rattle.v1_ready_statements.specs.Statements.{ready_of_statement, seats_behind}
use Rattle.v1_ready_bodies.proofs.Keeping.{one_wider}
use Rattle.v1_ready_parser.proofs.Leading.{state_joined}
use Rattle.v1_ready_parser.proofs.states.ready_state.Goals as goal

pub returns-clause-state : goal.returns-clause-state
returns-clause-state g c =
    let b = g.S.Singles.block c.args.singles.now in
    let s = seen_scope c.args.standing.now.scope in
    let seats = seen_seats c.args.standing.now.seats in
    let n = c.args.standing.now.number in
    let x = c.args.state.now in
    let mid = c.ready_behind.new.nodes in
    let new = c.transition.new.nodes in
    let at = c.ready_behind.new.standing in
    c.joined.ensures.state new
    ∙ state_joined mid new c.in_ok-led.ensures.grows b (behind x.body s) (seen_scope at.scope) (seats_behind b s n x.body seats) (seen_seats at.seats) c.in_ok-body.body (ready_of_statement b s seats n x.body) _ (λ a ns. transition_ready a ns c.args.names.now x.transition)
    c.in_ok-body.ensures.within (c.in_ok-body.ensures.statement ∙ ap (ready_of_statement b s seats n) c.statements.ensures) c.in_ok-led.ensures.ready (c.in_ok-body.ensures.scope ∙ ap (λ y. behind y s) c.statements.ensures) (c.in_ok-body.ensures.seats ∙ ap (λ y. seats_behind b s n y seats) c.statements.ensures)

pub returns-clause-within : goal.returns-clause-within
returns-clause-within g c =
    c.joined.ensures.within c.transition.new.nodes (one_wider c.ready_behind.new.nodes c.transition.new.nodes c.in_ok-led.ensures.grows c.in_ok-body.body c.in_ok-body.ensures.within) c.in_ok-led.ensures.within
