use Rattle.std.proofs.Common.{length, ap, sym, ◌∙◌, arith}
use Rattle.least_order.specs.internal.Listing.{Progress, looked_at}
use Rattle.least_order.proofs.Working.{begun_owed, begun_more}
use Rattle.least_order.proofs.listing.Listing.begin.Goals as goal

pub look_at-requires-clause-owed : goal.look_at-requires-clause-owed
look_at-requires-clause-owed c =
    let each = ap (λ (p : Progress). length p.owed) c.loop-node.invariant in
    let same = ap length (begun_owed c.args.marks.now c.args.self.now c.loop-node.node) in
    omega (arith, c.requires, c.loop-node-test.true, each, same)

pub loop-node-preserved : goal.loop-node-preserved
loop-node-preserved c =
    c.in_ok-look_at.ensures ∙ (ap (λ (p : Progress). looked_at c.args.marks.now p c.loop-node.node) c.loop-node.invariant ∙ sym (begun_more c.args.marks.now c.args.self.now c.loop-node.node))
