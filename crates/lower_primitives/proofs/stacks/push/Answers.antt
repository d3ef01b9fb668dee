use Rattle.std.proofs.Common.{ap}
use Rattle.lower_laws_actions.specs.Mirror.{stack_copied, elements_set}
use Rattle.lower_expressions.specs.Table.{words_in, at_in}
use Rattle.lower_expressions.proofs.Turning.{goes_first, goes_on, goes_one, goes_end_by}
use Rattle.lower_primitives.proofs.stacks.push.Goals as goal

pub returns : goal.returns
returns c =
    goes_end_by _ _ _ _ _ _ _ _ (ap (elements_set (words_in c.args.table.now) c.args.stack 0) c.elements_new-new.ensures)
    (goes_one _ _ _ _ _ _ _ _ _ _
    (goes_on _ _ _ _ _ (stack_copied (words_in c.args.table.now) (at_in c.args.at) c.args.stack) _ _ (goes_first _ _ _ c.requires.behind) c.in_ok-done.ensures)
    c.in_ok-moved.ensures c.in_ok-done-2.ensures.ok)
    c.in_ok-place.ensures
