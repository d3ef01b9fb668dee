use Rattle.std.proofs.Common.{[]}
use Rattle.p414_ready_actions.specs.internal.Steps.{Steps, waiting}
use Rattle.p414_ready_actions.proofs.expansion.rows_of_calls.Given as goal

abbrev pub invariant-loop : goal.invariant-loop
invariant-loop l = Steps l.names l.calls [] (waiting l.left) l.rows
