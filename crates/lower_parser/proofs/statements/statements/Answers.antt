use Rattle.lower_expressions.specs.Table.{words_in}
use Rattle.lower_parser.proofs.Turning.{row_turn_by}
use Rattle.lower_parser.proofs.statements.statements.Goals as goal

pub loop-row-preserved : goal.loop-row-preserved
loop-row-preserved c =
    row_turn_by (words_in c.args.table.now) _ _ _ _ _ _ _ _ _ c.args.rows.now c.loop-row.row-index _ _ c.loop-row-test.true c.loop-row.invariant
    c.in_ok-next.ensures c.in_ok-done-2.ensures.ok c.behind-element.ensures
