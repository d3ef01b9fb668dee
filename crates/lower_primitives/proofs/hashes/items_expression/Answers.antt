use Rattle.lower_expressions.specs.Table.{at_in, words_in}
use Rattle.lower_primitives.proofs.Turning.{item_turn}
use Rattle.lower_primitives.proofs.hashes.items_expression.Goals as goal

pub loop-item-preserved : goal.loop-item-preserved
loop-item-preserved c =
    item_turn (words_in c.args.table.now) (at_in c.args.at) _ _ _ _ _ _ _ c.args.items.now c.loop-item.item-index _ _ c.loop-item-test.true
    c.loop-item.invariant c.in_ok-next.ensures c.in_ok-given-2.ensures.ok
