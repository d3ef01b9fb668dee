use Rattle.std.proofs.Common.{◌≡◌, ◌++◌, length}
use Rattle.p414_ready_controls.proofs.building.taken_nodes.Given as goal

abbrev pub invariant-loop-node : goal.invariant-loop-node
invariant-loop-node l = l.nodes ++ l.left ≡ l.fn.left

abbrev pub decreases-loop-node : goal.decreases-loop-node
decreases-loop-node l = length l.left
