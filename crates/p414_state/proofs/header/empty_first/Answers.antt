use Rattle.std.proofs.Common.{arith}
use Rattle.p414_state.proofs.Elements.{emptied_turn}
use Rattle.p414_state.proofs.header.empty_first.Goals as goal

pub loop-index-preserved : goal.loop-index-preserved
loop-index-preserved c =
    emptied_turn c.args.valid c.args.elements.now.items c.loop-index.elements.items c.loop-index.index c.index_mut.result.now c.clear.new.self (omega arith)
    c.loop-index.invariant c.index_mut.ensures.value c.clear.ensures
