use Rattle.std.proofs.Common.{◌∙◌, arith, length-set}
use Rattle.p414_field_lists.proofs.Expanding.{node_within, ready_more, are_ready}
use Rattle.p414_field_lists.proofs.lists.rows_of_lists.Goals as goal

pub index_mut-requires : goal.index_mut-requires
index_mut-requires c =
    let lt = node_within c.args.slots.now c.args.components.now c.order-list-items.result.now c.loop-list.list-index c.requires.components c.order-list-items.ensures c.loop-list-test.true in
    omega (arith, lt, c.loop-list.invariant.count, c.loop-list.ready.ok.0)

pub loop-list-preserved : goal.loop-list-preserved
loop-list-preserved c = record {
  count = length-set c.loop-list.ready.items _ c.in_ok-rows.rows ∙ c.loop-list.invariant.count;
  known = ready_more c.args.slots.now c.args.components.now c.order-list-items.result.now c.loop-list.ready.items c.deref.result.now c.loop-list.list-index c.in_ok-rows.rows c.requires.components c.requires.acyclic c.order-list-items.ensures c.deref.ensures.value c.loop-list-test.true c.loop-list.invariant.count c.loop-list.invariant.known c.in_ok-rows.ensures;
}

pub returns : goal.returns
returns c = are_ready c.args.slots.now c.args.components.now c.order-list-items.result.now c.loop-list.ready.items c.loop-list.list-index c.requires.components c.order-list-items.ensures c.loop-list-test.false c.loop-list.invariant.count c.loop-list.invariant.known
