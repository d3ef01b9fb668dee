use Rattle.std.proofs.Common.{◌∙◌, arith, length-set}
use Rattle.p414_parameter_widths.proofs.Turning.{node_within, turn}
use Rattle.p414_parameter_widths.proofs.Ending.{are_widths}
use Rattle.p414_parameter_widths.proofs.widths.all_widths.Goals as goal

pub index_mut-requires : goal.index_mut-requires
index_mut-requires c =
    let lt = node_within c.args.names.now c.args.components.now c.order-action-items.result.now c.loop-action.action-index c.requires.components c.order-action-items.ensures c.loop-action-test.true in
    omega (arith, lt, c.loop-action.invariant.each, c.loop-action.rows.ok.0)

pub loop-action-preserved : goal.loop-action-preserved
loop-action-preserved c = record {
  each = length-set c.loop-action.rows.items _ c.in_ok-rows-2.field-0 ∙ c.loop-action.invariant.each;
  known = turn c.args.names.now c.args.components.now c.order-action-items.result.now c.loop-action.rows.items c.deref.result.now c.args.counts.now c.args.calls.now c.loop-action.action-index c.in_ok-rows-2.field-0 c.requires.acyclic c.requires.components c.requires.calls c.requires.counts c.order-action-items.ensures c.deref.ensures.value c.loop-action-test.true c.loop-action.invariant.each c.loop-action.invariant.known c.in_ok-rows-2.ensures;
}

pub returns : goal.returns
returns c = are_widths c.args.names.now c.args.components.now c.order-action-items.result.now c.loop-action.rows.items c.loop-action.action-index c.requires.components c.order-action-items.ensures c.loop-action-test.false c.loop-action.invariant.each c.loop-action.invariant.known
