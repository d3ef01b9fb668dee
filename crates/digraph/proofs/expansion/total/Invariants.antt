use Rattle.std.proofs.Common.{◌≡◌, ◌+◌, take, min, sum_by}
use Rattle.std.specs.Prelude.{slice_index}
use Rattle.digraph.proofs.expansion.total.Given as goal

abbrev pub invariant-loop-callee : goal.invariant-loop-callee
invariant-loop-callee l = l.so_far ≡ min l.limit (l.own + sum_by (slice_index l.sizes) (take l.callee-index l.calls))
