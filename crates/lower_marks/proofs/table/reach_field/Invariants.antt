use Rattle.std.proofs.Common.{◌≡◌, ◌++◌, [], replicate}
use Rattle.lower_marks.proofs.table.reach_field.Given as goal

abbrev pub invariant-loop : goal.invariant-loop
invariant-loop l = l.fields.items ≡ l.fn.fields.items ++ replicate l.counter []
