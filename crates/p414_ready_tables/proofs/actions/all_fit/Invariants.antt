use Rattle.std.proofs.Common.{All, drop}
use Rattle.p414_ready_tables.specs.internal.Acting.{FitAll}
use Rattle.p414_ready_tables.proofs.actions.all_fit.Given as goal

abbrev pub invariant-loop-rows : goal.invariant-loop-rows
invariant-loop-rows l =
    All (FitAll l.state.layout l.store.shapes) (drop l.rows-index l.all) → All (FitAll l.state.layout l.store.shapes) l.all
