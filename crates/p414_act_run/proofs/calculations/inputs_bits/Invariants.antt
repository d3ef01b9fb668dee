use Rattle.std.proofs.Common.{◌≡◌, ◌++◌, drop}
use Rattle.p414_act_run.specs.Sums.{inputs_bits}
use Rattle.p414_act_run.proofs.calculations.inputs_bits.Given as goal

abbrev pub invariant-loop-list : goal.invariant-loop-list
invariant-loop-list l = l.bits ++ inputs_bits l.lists l.state.state (drop l.list-index l.inputs) ≡ inputs_bits l.lists l.state.state l.inputs
