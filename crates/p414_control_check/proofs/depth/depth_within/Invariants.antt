use Rattle.std.proofs.Common.{◌≡◌, max, min}
use Rattle.p414_control_check.specs.internal.Depths.{deepest, depth_within}
use Rattle.p414_control_check.proofs.Deepening.{work}
use Rattle.p414_control_check.proofs.depth.depth_within.Given as goal

abbrev pub invariant-loop-next : goal.invariant-loop-next
invariant-loop-next l = min 65 (max l.most (deepest l.controls l.depths l.left)) ≡ min 65 (depth_within l.controls l.depths l.fn.statement)

abbrev pub decreases-loop-next : goal.decreases-loop-next
decreases-loop-next l = work l.left
