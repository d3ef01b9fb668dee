use Rattle.std.proofs.Common.{ap, map, ◌∙◌}
use Rattle.p414_action_check.specs.internal.Counted.{calls_count}
use Rattle.p414_action_check.proofs.Answering.{closed_by, own_each, sizes_by}
use Rattle.p414_action_check.proofs.expansions.action_sizes.Goals as goal

pub sizes-requires-clause-closed : goal.sizes-requires-clause-closed
sizes-requires-clause-closed c = closed_by c.args.names.now c.args.graph.now c.requires.graph

pub sizes-requires-clause-own : goal.sizes-requires-clause-own
sizes-requires-clause-own c =
    own_each c.args.names.now c.args.inputs.now c.args.graph.now c.args.calls.now c.deref.result.now c.requires.graph c.requires.calls (c.deref.ensures.value ∙ c.in_ok-own.ensures)

pub returns : goal.returns
returns c =
    sizes_by c.sizes.result _ _ _ _ c.requires.graph (c.deref.ensures.value ∙ (c.in_ok-own.ensures ∙ ap (map (calls_count c.args.names.now c.args.inputs.now)) c.requires.calls)) c.sizes.ensures
