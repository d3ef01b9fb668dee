use Rattle.p414_passes.proofs.Beginning.{item_begins}
use Rattle.p414_passes.proofs.begin.begin_again.Goals as goal

pub returns : goal.returns
returns c =
    λ ds same.
    item_begins c.args.state.now.layout c.args.octets.now c.args.port c.args.kind c.args.kept.now c.renew.new.self c.put_kept.new.state c.in_ok-renew.ensures c.in_ok-put_kept.ensures ds same
