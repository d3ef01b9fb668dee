use Rattle.std.proofs.Common.{arith, sym, ◌∙◌}
use Rattle.state_store.specs.Cells.{sum_of_counts}
use Rattle.state_store.proofs.Joined.{joined-nil, joined-turn, joined-all}
use Rattle.state_store.proofs.cells.Counts.add.Goals as goal

pub loop-i-init : goal.loop-i-init
loop-i-init c = c.self.view_is ∙ sym (joined-nil sum_of_counts c.args.self.now)

pub loop-i-preserved : goal.loop-i-preserved
loop-i-preserved c =
    joined-turn sum_of_counts c.args.self.now c.more.inside.cells.items _ c.loop-i.i _ _ _ c.loop-i.invariant
    (rw (← c.self.view_is) (omega arith)) (omega arith)
    c.index.ensures c.index-in-loop-i.ensures c.sum_of_counts.ensures

pub returns : goal.returns
returns c = rw (← c.more.view_is) (c.loop-i.invariant ∙ joined-all sum_of_counts c.args.self.now c.more.inside.cells.items c.loop-i.i (rw (← c.self.view_is) (omega arith)))
