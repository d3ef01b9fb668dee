use Rattle.std.proofs.Common.{[], ◌∷◌, option_map, ap, ◌∙◌}
use Rattle.std.specs.Prelude.{option_and_then}
use Rattle.p416_scopes.specs.Seen.{seen_scope}
use Rattle.v1_seats.specs.Seen.{seen_seat}
use Rattle.v1_ready_blocks.specs.Arguments.{parts_out}
use Rattle.v1_place_laws.specs.Places.{range_of}
use Rattle.v1_ready_statements.specs.Targets.{fixed_range}
use Rattle.v1_ready_statements.specs.Given.{join_option}
use Rattle.v1_ready_operands.specs.Seen.{seen_outgoing}
use Rattle.v1_ready_actions.proofs.outgoing.parts_before.Goals as goal

pub returns-clause-outgoing : goal.returns-clause-outgoing
returns-clause-outgoing c =
    let rest = seen_outgoing c.args.nodes.now c.args.rest in
    c.in_ok-found.ensures.outgoing
    ∙ (ap (λ r. join_option (option_map (λ t. parts_out r t ∷ []) c.fixed-to.result) rest) (c.in_ok-range.ensures ∙ ap (λ types. range_of types (seen_seat c.args.seat)) c.requires.types)
    ∙ ap (λ o. join_option (option_map (λ t. parts_out (range_of (seen_scope c.args.around.scope.now).layouts (seen_seat c.args.seat)) t ∷ []) o) rest) (c.fixed-to.ensures ∙ ap (option_and_then fixed_range) c.in_ok-place.ensures))
