use Rattle.std.proofs.Common.{◌≡◌, ◌++◌, take, drop, map}
use Rattle.state_store.specs.internal.Clearing.{cleared}
use Rattle.state_store.proofs.state.Store.clear.Given as goal

abbrev pub invariant-loop-object : goal.invariant-loop-object
invariant-loop-object l = record {
  shapes : l.self-inside.shapes.items ≡ l.fn.self.shapes;
  cells : l.self-inside.cells.items ≡ map cleared (take l.object l.fn.self.cells) ++ drop l.object l.fn.self.cells;
}
