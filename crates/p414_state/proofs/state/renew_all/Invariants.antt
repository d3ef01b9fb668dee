use Rattle.std.proofs.Common.{◌≡◌, ◌++◌, take, drop, map}
use Rattle.p414_state.specs.internal.Cells.{renewed_of}
use Rattle.p414_state.proofs.state.renew_all.Given as goal

abbrev pub invariant-loop-index : goal.invariant-loop-index
invariant-loop-index l = l.instances.items ≡ map renewed_of (take l.index l.fn.instances.items) ++ drop l.index l.fn.instances.items
