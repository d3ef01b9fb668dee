use Rattle.std.proofs.Common.{arith}
use Rattle.p414_state.proofs.Instances.{renewed_turn}
use Rattle.p414_state.proofs.state.renew_all.Goals as goal

pub loop-index-preserved : goal.loop-index-preserved
loop-index-preserved c =
    renewed_turn c.args.instances.now.items c.loop-index.instances.items c.loop-index.index c.index_mut.result.now c.renew.new.self (omega arith)
    c.loop-index.invariant c.index_mut.ensures.value c.renew.ensures
