use Rattle.std.proofs.Common.{◌≡◌, take}
use Rattle.p414_state.proofs.header.copy_all.Given as goal

abbrev pub invariant-loop-element : goal.invariant-loop-element
invariant-loop-element l = l.copies.items ≡ take l.element-index l.elements
