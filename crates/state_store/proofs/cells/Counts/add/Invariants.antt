use Rattle.std.proofs.Common.{◌≡◌, take}
use Rattle.state_store.specs.Cells.{joined, sum_of_counts}
use Rattle.state_store.proofs.cells.Counts.add.Given as goal

abbrev pub invariant-loop-i : goal.invariant-loop-i
invariant-loop-i l = l.self-inside.cells.items ≡ joined sum_of_counts l.fn.self (take l.i l.more-inside.cells.items)
