use Rattle.std.proofs.Common.{ap}
use Rattle.p414_ready_controls.specs.internal.Building.{Built}
use Rattle.p414_ready_controls.proofs.Built.{nodes_built}
use Rattle.p414_ready_controls.proofs.building.nodes_of.Goals as goal

pub returns : goal.returns
returns c =
    nodes_built c.args.names.now c.args.statement.now c.deref.result.now c.in_ok-built.built c.in_ok-nodes.nodes
    (cc (c.deref.ensures.value, c.in_ok-statements.ensures)) c.in_ok-built.ensures
    (cc (c.in_ok-nodes.ensures, ap (λ (b : Built). b.nodes) c.built.view_is))
