use Rattle.std.proofs.Common.{◌≡◌, ◌++◌, [], replicate}
use Rattle.lower_marks.proofs.table.reach_instance.Given as goal

abbrev pub invariant-loop : goal.invariant-loop
invariant-loop l = l.instances.items ≡ l.fn.instances.items ++ replicate l.counter []
