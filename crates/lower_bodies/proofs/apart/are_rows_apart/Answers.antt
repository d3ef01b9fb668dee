use Rattle.std.proofs.Common.{◌∙◌, sym, ap₂}
use Rattle.std.specs.Prelude.{not, ◌&&◌}
use Rattle.lower_bodies.proofs.Passing.{passed_step, false_stays}
use Rattle.lower_bodies.proofs.apart.are_rows_apart.Goals as goal
use Rattle.lower_bodies.proofs.apart.are_rows_apart.Goals.{then-apart, else-apart}

pub loop-row-preserved : goal.loop-row-preserved
loop-row-preserved c =
    passed_step c.args.items.now c.args.rows.now c.loop-row.row-index _ c.loop-row.changed c.add.new.self c.loop-row.apart c.if-apart.apart c.loop-row-test.true c.loop-row.invariant c.in_ok-add.ensures
    (elim c.if-apart.branch [ then-apart w ↦ ap₂ (λ a b. a && not b) w.if-apart.true (sym w.has_read.ensures) ∙ sym w.apart-is | else-apart w ↦ false_stays _ _ w.if-apart.false ∙ sym w.apart-is ])
