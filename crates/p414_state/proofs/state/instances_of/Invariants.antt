use Rattle.std.proofs.Common.{◌≡◌, take, map}
use Rattle.p414_state.specs.internal.Cells.{new_laid}
use Rattle.p414_state.proofs.state.instances_of.Given as goal

abbrev pub invariant-loop-shape : goal.invariant-loop-shape
invariant-loop-shape l = l.instances.items ≡ map new_laid (take l.shape-index l.shapes)
