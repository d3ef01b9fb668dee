use Rattle.lower_marks.proofs.Holding.{list_turn}
use Rattle.lower_marks.proofs.fields.mark_list.Goals as goal

pub loop-row-preserved : goal.loop-row-preserved
loop-row-preserved c =
    list_turn c.args.rows.now c.loop-row.row-index _ c.loop-row.found c.mark_row.new.found c.args.found.now c.args.mark c.loop-row-test.true
    c.in_ok-mark_row.ensures c.loop-row.invariant
