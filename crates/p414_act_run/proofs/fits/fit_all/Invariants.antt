use Rattle.std.proofs.Common.{drop, All}
use Rattle.p414_act_run.specs.Fits.{FitsRow}
use Rattle.p414_act_run.proofs.fits.fit_all.Given as goal

-- where those that are left fit, all do
abbrev pub invariant-loop-row : goal.invariant-loop-row
invariant-loop-row l = All (FitsRow l.state.layout l.store.shapes) (drop l.row-index l.rows) → All (FitsRow l.state.layout l.store.shapes) l.rows
