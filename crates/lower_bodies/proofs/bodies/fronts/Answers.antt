use Rattle.std.proofs.Common.{ap, ◌+◌, ◌∙◌}
use Rattle.lower_laws_base.specs.Context.{entry}
use Rattle.lower_primitives.specs.Rows.{row_front}
use Rattle.lower_bodies.proofs.Rows.{row_turn}
use Rattle.lower_bodies.proofs.bodies.fronts.Goals as goal

pub loop-row-preserved : goal.loop-row-preserved
loop-row-preserved c = record {
  same = ap (λ k. k + 1) c.loop-row.invariant.same;
  goes =
      row_turn c.args.table.now (row_front c.args.table.now entry) _ _ _ _ _ c.args.rows.now c.loop-row.row-index _ _ _ c.loop-row-test.true
      (c.in_ok-place.ensures ∙ c.loop-row.invariant.same) c.loop-row.invariant.goes c.in_ok-done.ensures;
}
