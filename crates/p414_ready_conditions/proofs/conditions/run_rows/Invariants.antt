use Rattle.std.proofs.Common.{◌≡◌, drop}
use Rattle.p414_ready_conditions.specs.Running.{after_rows}
use Rattle.p414_ready_conditions.proofs.conditions.run_rows.Given as goal

abbrev pub invariant-loop-row : goal.invariant-loop-row
invariant-loop-row l = after_rows l.state.state l.numbers (drop l.row-index l.rows) ≡ after_rows l.state.state l.fn.numbers l.rows
