use Rattle.std.proofs.Common.{◌<◌, ◌+◌, ◌∙◌, ◌^◌, get_or, length, arith}
use Rattle.std.proofs.lemmas.List.{length-set}
use Rattle.std.proofs.lemmas.Grind.{get_or_default_zero}
use Rattle.digraph.proofs.Members.{among_place}
use Rattle.p4x_bits.proofs.Counts.{some_is}
use Rattle.least_order.proofs.Owing.{counted_more}
use Rattle.least_order.proofs.listing.count_all.Goals as goal

pub index-requires : goal.index-requires
index-requires c =
    let lt = c.requires (get_or c.args.targets.now c.loop-node.node-index 0) (among_place c.args.targets.now c.loop-node.node-index 0 c.loop-node-test.true) in
    omega (arith, lt, c.loop-node.owed.ok.0, c.loop-node.invariant.each)

pub index_mut-requires : goal.index_mut-requires
index_mut-requires c =
    let lt = c.requires (get_or c.args.targets.now c.loop-node.node-index 0) (among_place c.args.targets.now c.loop-node.node-index 0 c.loop-node-test.true) in
    omega (arith, lt, c.loop-node.owed.ok.0, c.loop-node.invariant.each)

pub loop-node-preserved : goal.loop-node-preserved
loop-node-preserved c =
    let lt = c.requires (get_or c.args.targets.now c.loop-node.node-index 0) (among_place c.args.targets.now c.loop-node.node-index 0 c.loop-node-test.true) in
    let within : get_or c.args.targets.now c.loop-node.node-index 0 < length c.loop-node.owed.items = omega (arith, lt, c.loop-node.invariant.each) in
    let sum = some_is c.checked_add.result (c.index.result.now + 1 < 2 ^ 64) (c.index.result.now + 1) c.in_ok-owed.field-0 c.checked_add.ensures c.in_ok-owed.ensures.ok_part in
    let read = get_or_default_zero c.loop-node.owed.items (get_or c.args.targets.now c.loop-node.node-index 0) c.index.result.now within in
    record {
      each = length-set c.loop-node.owed.items (get_or c.args.targets.now c.loop-node.node-index 0) c.in_ok-owed.field-0 ∙ c.loop-node.invariant.each;
      counted = λ b less.
          counted_more c.args.owed.now.items c.loop-node.owed.items c.args.targets.now c.loop-node.node-index b c.loop-node-test.true c.loop-node.invariant.each less lt (c.loop-node.invariant.counted b less) c.in_ok-owed.field-0
          (omega (arith, sum, read, c.index.ensures));
    }
