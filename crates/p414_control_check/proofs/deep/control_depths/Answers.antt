use Rattle.std.proofs.Common.{◌∙◌, arith, length-set}
use Rattle.p414_control_check.proofs.Turning.{node_within, deep_turn, are_depths}
use Rattle.p414_control_check.proofs.deep.control_depths.Goals as goal

pub index_mut-requires : goal.index_mut-requires
index_mut-requires c =
    let lt = node_within c.args.controls.now c.args.components.now c.order-node-items.result.now c.loop-node.node-index c.requires.components c.order-node-items.ensures c.loop-node-test.true in
    omega (arith, lt, c.loop-node.invariant.each, c.loop-node.depths.ok.0)

pub loop-node-preserved : goal.loop-node-preserved
loop-node-preserved c = record {
  each = length-set c.loop-node.depths.items _ c.in_ok-depths-2.field-0 ∙ c.loop-node.invariant.each;
  deep = deep_turn c.args.controls.now c.args.components.now c.order-node-items.result.now c.loop-node.depths.items c.deref.result.now c.loop-node.node-index c.in_ok-depths-2.field-0 c.requires.known c.requires.components c.requires.acyclic c.order-node-items.ensures c.deref.ensures.value c.loop-node-test.true c.loop-node.invariant.each c.loop-node.invariant.deep c.in_ok-depths-2.ensures;
}

pub returns : goal.returns
returns c = are_depths c.args.controls.now c.args.components.now c.order-node-items.result.now c.loop-node.depths.items c.loop-node.node-index c.requires.components c.order-node-items.ensures c.loop-node-test.false c.loop-node.invariant.each c.loop-node.invariant.deep
