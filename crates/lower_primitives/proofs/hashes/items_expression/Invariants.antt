use Rattle.std.proofs.Common.{drop}
use Rattle.p416_syntax.specs.Tree.{no_arguments}
use Rattle.lower_expressions.specs.Table.{at_in, words_in}
use Rattle.lower_primitives.specs.Rows.{row_items_exp}
use Rattle.lower_primitives.proofs.Turning.{GoesItems}
use Rattle.lower_primitives.proofs.hashes.items_expression.Given as goal

abbrev pub invariant-loop-item : goal.invariant-loop-item
invariant-loop-item l =
    GoesItems (words_in l.fn.table) (at_in l.fn.at) l.fn.nodes l.nodes l.given (drop l.item-index l.fn.items)
    (row_items_exp (words_in l.fn.table) (at_in l.fn.at) no_arguments l.fn.items)
