use Rattle.v1_ready_whole.proofs.Making.{are_ready}
use Rattle.v1_ready_whole.proofs.program.blocks_of.Goals as goal

pub returns : goal.returns
returns c =
    are_ready c.args.program.syntax.now c.args.layout.now c.args.shapes.now _ c.in_ok-front.ensures.verify c.in_ok-front.ensures.ingress c.in_ok-back.ensures.egress c.in_ok-back.ensures.compute c.in_ok-back.ensures.deparse c.in_ok-made.ensures
