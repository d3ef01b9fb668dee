use Rattle.std.proofs.Common.{map, sym, ◌∙◌}
use Rattle.v1_ready_tables.specs.internal.Listed.{seen_listed, number_among}
use Rattle.v1_ready_tables.proofs.Telling.{one_at}
use Rattle.v1_ready_tables.proofs.actions.numbers_with.Goals as goal

pub loop-name-preserved : goal.loop-name-preserved
loop-name-preserved c =
    one_at (λ name. number_among c.args.actions.now (map seen_listed c.args.rows.now) c.args.names.now name.now) c.args.ordered.now c.loop-name.name-index _ c.loop-name-test.true c.loop-name.numbers _ c.in-Some.number _ c.in_ok-push-in-Some.ensures.ok (sym c.in-Some.is ∙ c.number_with.ensures) c.loop-name.invariant
