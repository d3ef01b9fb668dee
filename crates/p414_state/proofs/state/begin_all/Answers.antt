use Rattle.std.proofs.Common.{arith}
use Rattle.p414_state.proofs.Instances.{begun_turn}
use Rattle.p414_state.proofs.state.begin_all.Goals as goal

pub loop-index-preserved : goal.loop-index-preserved
loop-index-preserved c =
    begun_turn c.args.instances.now.items c.loop-index.instances.items c.loop-index.index c.index_mut.result.now c.begin.new.self (omega arith)
    c.loop-index.invariant c.index_mut.ensures.value c.begin.ensures
