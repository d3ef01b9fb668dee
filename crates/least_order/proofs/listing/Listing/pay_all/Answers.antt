use Rattle.std.proofs.Common.{get_or, length, take, ap, arith}
use Rattle.digraph.proofs.Members.{among_place}
use Rattle.least_order.specs.internal.Listing.{Progress}
use Rattle.least_order.proofs.Working.{paid_all_length}
use Rattle.least_order.proofs.listing.Listing.pay_all.Goals as goal

pub pay-requires-clause-owed : goal.pay-requires-clause-owed
pay-requires-clause-owed c =
    let lt = c.requires.owed (get_or c.args.targets.now c.loop-node.node-index 0) (among_place c.args.targets.now c.loop-node.node-index 0 c.loop-node-test.true) in
    let each = ap (λ (p : Progress). length p.owed) c.loop-node.invariant in
    let same = paid_all_length c.args.marks.now (take c.loop-node.node-index c.args.targets.now) c.args.self.now in
    omega (arith, lt, each, same)

pub pay-requires-clause-marks : goal.pay-requires-clause-marks
pay-requires-clause-marks c =
    c.requires.marks (get_or c.args.targets.now c.loop-node.node-index 0) (among_place c.args.targets.now c.loop-node.node-index 0 c.loop-node-test.true)
