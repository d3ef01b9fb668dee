use Rattle.std.proofs.Common.{◌≡◌}
use Rattle.p414_state.specs.internal.Cells.{first_emptied}
use Rattle.p414_state.proofs.header.empty_first.Given as goal

abbrev pub invariant-loop-index : goal.invariant-loop-index
invariant-loop-index l = l.elements.items ≡ first_emptied l.valid l.index l.fn.elements.items
