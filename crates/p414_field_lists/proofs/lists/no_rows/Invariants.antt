use Rattle.std.proofs.Common.{◌≡◌, [], replicate}
use Rattle.p414_field_lists.proofs.lists.no_rows.Given as goal

abbrev pub invariant-loop-index : goal.invariant-loop-index
invariant-loop-index l = l.made.items ≡ replicate l.index []
