use Rattle.std.proofs.Common.{◌≡◌, take, map}
use Rattle.state_store.specs.Cells.{blank}
use Rattle.state_store.proofs.state.Store.new.Given as goal

abbrev pub invariant-loop-shape : goal.invariant-loop-shape
invariant-loop-shape l = l.cells.items ≡ map blank (take l.shape-index l.shapes)
