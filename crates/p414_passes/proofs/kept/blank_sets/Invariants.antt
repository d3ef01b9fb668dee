use Rattle.std.proofs.Common.{◌≡◌, ◌++◌, drop, map}
use Rattle.p414_passes.specs.Kept.{nothing_of}
use Rattle.p414_passes.proofs.kept.blank_sets.Given as goal

abbrev pub invariant-loop-shape : goal.invariant-loop-shape
invariant-loop-shape l = l.sets.items ++ map nothing_of (drop l.shape-index l.shapes) ≡ map nothing_of l.shapes
