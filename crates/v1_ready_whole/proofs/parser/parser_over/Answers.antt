use Rattle.std.proofs.Common.{Some, refl, ap, ◌∙◌}
use Rattle.std.specs.Prelude.{codes}
use Rattle.p416_scopes.specs.Seen.{seen_scope}
use Rattle.v1_ready_program.specs.Seen.{seen_seats}
use Rattle.v1_ready_selects.specs.Rows.{number_of_state}
use Rattle.v1_ready_parser.specs.Parsers.{parser_ready}
use Rattle.v1_ready_whole.proofs.Standing.{parser_is}
use Rattle.v1_ready_whole.proofs.parser.parser_over.Goals as goal

pub returns-clause-parser : goal.returns-clause-parser
returns-clause-parser c =
    let p = c.args.program in
    let y = c.args.stands in
    let b = c.new-singles.result in
    let states = c.as_slice-states.result.now in
    c.in_ok-found.ensures.parser
    ∙ (ap (λ vs. parser_ready b (seen_scope y.scope) (seen_seats y.seats) y.number y.names c.args.headers c.args.error (number_of_state y.names (codes "start")) vs states) c.deref.ensures.value
    ∙ parser_is p.syntax.now c.args.parser.now b (seen_scope y.scope) (seen_seats y.seats) y.number y.names c.args.headers (Some c.args.error) c.args.error y.variables.items states (c.new-singles.ensures ∙ c.callees_of-callees.ensures.around)
    c.requires.stands.scope c.requires.stands.seats c.requires.stands.number c.requires.stands.names c.requires.headers c.requires.error refl c.requires.stands.variables c.as_slice-states.ensures)
