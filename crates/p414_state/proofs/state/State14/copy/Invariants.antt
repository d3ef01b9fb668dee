use Rattle.std.proofs.Common.{◌≡◌, take}
use Rattle.p414_state.proofs.state.State14.copy.Given as goal

abbrev pub invariant-loop-cells : goal.invariant-loop-cells
invariant-loop-cells l = l.instances.items ≡ take l.cells-index l.self-inside.instances.items
