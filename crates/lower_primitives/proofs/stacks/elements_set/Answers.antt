use Rattle.lower_expressions.specs.Table.{words_in}
use Rattle.lower_primitives.proofs.Turning.{element_turn}
use Rattle.lower_primitives.proofs.stacks.elements_set.Goals as goal

pub loop-element-preserved : goal.loop-element-preserved
loop-element-preserved c =
    element_turn (words_in c.args.table.now) c.args.stack c.loop-element.element c.args.count _ _ _ _ _ _ _ _ c.loop-element-test.true
    c.loop-element.invariant c.in_ok-next.ensures c.in_ok-done.ensures.ok
