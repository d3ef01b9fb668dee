use Rattle.p414_state.proofs.Elements.{made_is}
use Rattle.p414_state.proofs.instance.InstanceCells.new.Goals as goal

pub returns : goal.returns
returns c =
    made_is c.args.shape c.in_ok-elements.elements.items c.elements.result c.octets.result c.elements.ensures c.octets.ensures c.in_ok-elements.ensures
