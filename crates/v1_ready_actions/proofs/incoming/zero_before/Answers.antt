use Rattle.std.proofs.Common.{Some, ap, ◌∙◌}
use Rattle.v1_seats.specs.Seen.{seen_seat}
use Rattle.v1_ready_blocks.specs.Arguments.{zero_in}
use Rattle.v1_place_laws.specs.Places.{range_of}
use Rattle.v1_ready_statements.specs.Given.{cons_option}
use Rattle.v1_ready_operands.specs.Seen.{seen_incoming}
use Rattle.v1_ready_actions.proofs.incoming.zero_before.Goals as goal

pub returns-clause-incoming : goal.returns-clause-incoming
returns-clause-incoming c =
    c.in_ok-found.ensures.incoming
    ∙ ap (λ r. cons_option (Some (zero_in r)) (seen_incoming c.args.nodes.now c.args.rest)) (c.in_ok-range.ensures ∙ ap (λ types. range_of types (seen_seat c.args.seat)) c.requires.types)
