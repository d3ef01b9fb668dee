use Rattle.std.proofs.Common.{map, ap, ◌∙◌}
use Rattle.p416_syntax.specs.Main.{positions_from}
use Rattle.v1_block_laws.specs.Variables.{parser_roots, own_names}
use Rattle.v1_block_seats.specs.Seen.{seen_variable}
use Rattle.v1_ready_forms.specs.Named.{seats_in}
use Rattle.v1_ready_selects.specs.Matching.{state_names}
use Rattle.v1_ready_whole.proofs.Standing.{stands}
use Rattle.v1_ready_whole.proofs.parser.standing_in.Goals as goal

pub returns : goal.returns
returns c =
    let p = c.args.program in
    let x = c.args.parser.now in
    stands p x (record { scope = c.in_ok-scope.scope; seats = c.in_ok-seats.seats; variables = c.in_ok-variables.variables; number = c.in_ok-number.number; names = c.in_ok-names.names }) c.in_ok-first.first c.as_slice-vars.result.now c.of_name-positions.result.now c.in_ok-numbers.numbers.items c.requires c.as_slice-vars.ensures
    (c.of_name-positions.ensures ∙ ap (positions_from 0 p.places.now) c.as_slice.ensures) c.in_ok-scope.ensures.scope c.in_ok-scope.ensures.top c.in_ok-first.ensures c.in_ok-numbers.ensures
    (c.in_ok-seats.ensures ∙ ap (λ vs. seats_in p.syntax.now (parser_roots x) (own_names (map seen_variable vs))) c.deref.ensures.value) c.in_ok-variables.ensures c.in_ok-number.ensures (c.in_ok-names.ensures ∙ ap state_names c.as_slice-2.ensures)
