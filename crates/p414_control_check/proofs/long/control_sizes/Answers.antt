use Rattle.std.proofs.Common.{◌∙◌}
use Rattle.p414_control_check.proofs.Answering.{own_each, sizes_by}
use Rattle.p414_control_check.proofs.Holding.{closed_by}
use Rattle.p414_control_check.proofs.long.control_sizes.Goals as goal

pub sizes-requires-clause-closed : goal.sizes-requires-clause-closed
sizes-requires-clause-closed c = closed_by c.args.controls.now c.args.graph.now c.requires.graph

pub sizes-requires-clause-own : goal.sizes-requires-clause-own
sizes-requires-clause-own c =
    own_each c.args.controls.now c.args.graph.now c.deref.result.now c.requires.graph (c.deref.ensures.value ∙ c.in_ok-own.ensures)

pub returns : goal.returns
returns c = sizes_by c.sizes.result _ _ _ _ c.requires.graph (c.deref.ensures.value ∙ c.in_ok-own.ensures) c.sizes.ensures
