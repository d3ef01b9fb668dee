use Rattle.std.proofs.Common.{[], ◌∷◌, option_map, ap, ◌∙◌}
use Rattle.v1_ready_blocks.specs.Arguments.{value_out}
use Rattle.v1_ready_statements.specs.Given.{join_option}
use Rattle.v1_ready_operands.specs.Seen.{seen_outgoing}
use Rattle.v1_ready_actions.proofs.outgoing.value_before.Goals as goal

pub returns-clause-outgoing : goal.returns-clause-outgoing
returns-clause-outgoing c =
    c.in_ok-found.ensures.outgoing ∙ ap (λ o. join_option (option_map (λ t. value_out c.args.slot t ∷ []) o) (seen_outgoing c.args.nodes.now c.args.rest)) c.in_ok-to.ensures
