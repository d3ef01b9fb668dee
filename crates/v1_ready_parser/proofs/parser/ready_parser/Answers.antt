use Rattle.std.proofs.Common.{Some, option_map, ap, ◌∙◌}
use Rattle.std.specs.Prelude.{codes}
use Rattle.p416_scopes.specs.Seen.{seen_scope}
use Rattle.v1_ready_program.specs.Seen.{seen_seats}
use Rattle.v1_ready_blocks.specs.Statements.{nothing}
use Rattle.v1_ready_selects.specs.Rows.{number_of_state}
use Rattle.v1_ready_bodies.specs.Seen.{seen_statement}
use Rattle.v1_ready_bodies.specs.Variables.{variables_ready}
use Rattle.v1_ready_bodies.proofs.Keeping.{one_kept, one_wider}
use Rattle.v1_ready_parser.specs.Parsers.{with_states}
use Rattle.v1_ready_parser.specs.Places.{seen_states}
use Rattle.v1_ready_parser.proofs.parser.ready_parser.Goals as goal

pub returns-clause-parser : goal.returns-clause-parser
returns-clause-parser g c =
    let b = g.S.Singles.block c.args.singles.now in
    let s = seen_scope c.args.standing.now.scope in
    let seats = seen_seats c.args.standing.now.seats in
    let mid = c.ready_variables.new.nodes in
    let new = c.ready_states.new.nodes in
    let states = option_map (seen_states new) c.in_ok-made.made in
    let first = number_of_state c.args.names.now (codes "start") in
    let v = seen_statement new c.in_ok-started.started in
    let w = variables_ready b s seats c.args.variables.now (Some nothing) in
    c.joined.ensures.parser new
    ∙ (ap (λ y. with_states c.args.headers c.args.error y v states) c.in_ok-first.ensures
    ∙ (ap (λ y. with_states c.args.headers c.args.error first y states)
    (one_kept mid new c.in_ok-made.ensures.grows c.in_ok-started.started c.in_ok-started.ensures.within
    ∙ (c.in_ok-started.ensures.statement ∙ ap (variables_ready b s seats c.args.variables.now) c.in_ok-nothing.ensures.statement))
    ∙ ap (λ y. with_states c.args.headers c.args.error first w y) c.in_ok-made.ensures.states))

pub returns-clause-within : goal.returns-clause-within
returns-clause-within g c =
    let new = c.ready_states.new.nodes in
    c.joined.ensures.within new (one_wider c.ready_variables.new.nodes new c.in_ok-made.ensures.grows c.in_ok-started.started c.in_ok-started.ensures.within) c.in_ok-made.ensures.within
