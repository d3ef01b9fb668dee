use Rattle.least_order.proofs.Numbering.{count_more, count_every}
use Rattle.least_order.proofs.counting.count_of.Goals as goal

pub loop-row-preserved : goal.loop-row-preserved
loop-row-preserved c =
    count_more c.args.labels.now c.loop-row.row-index c.loop-row.count c.in_ok-count.count c.row-item.result c.as_slice.result.now c.loop-row-test.true c.row-item.is c.as_slice.ensures
    c.loop-row.invariant c.in_ok-count.ensures.least c.in_ok-count.ensures.above

pub returns : goal.returns
returns c = count_every c.args.labels.now c.loop-row.row-index c.loop-row.count c.loop-row-test.false c.loop-row.invariant
