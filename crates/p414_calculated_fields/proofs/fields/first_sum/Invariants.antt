use Rattle.std.proofs.Common.{◌≡◌, drop}
use Rattle.p414_calculated_fields.specs.Running.{first_sum}
use Rattle.p414_calculated_fields.proofs.fields.first_sum.Given as goal

abbrev pub invariant-loop-entry : goal.invariant-loop-entry
invariant-loop-entry l = first_sum l.state.state (drop l.entry-index l.entries) ≡ first_sum l.state.state l.entries
