use Rattle.std.proofs.Common.{◌≡◌, take}
use Rattle.state_store.specs.Cells.{joined, sum_of_cells}
use Rattle.state_store.proofs.state.Store.add.Given as goal

abbrev pub invariant-loop-object : goal.invariant-loop-object
invariant-loop-object l = record {
  shapes : l.self-inside.shapes.items ≡ l.fn.self.shapes;
  cells : l.self-inside.cells.items ≡ joined sum_of_cells l.fn.self.cells (take l.object l.other-inside.cells.items);
}
