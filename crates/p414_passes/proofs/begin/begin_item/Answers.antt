use Rattle.p414_passes.proofs.Beginning.{item_begins}
use Rattle.p414_passes.proofs.begin.begin_item.Goals as goal

pub returns : goal.returns
returns c =
    λ ds same.
    item_begins c.args.layout.now c.args.octets.now c.args.port c.args.kind c.args.kept.now c.in_ok-state.state c.put_kept.new.state c.in_ok-state.ensures c.in_ok-put_kept.ensures ds same
