use Rattle.std.proofs.Common.{◌≡◌, sum_by}
use Rattle.std.specs.List.{list_any}
use Rattle.p414_syntax.specs.Nesting.{is_too_deep}
use Rattle.p414_flat_check.specs.internal.Rooms.{is_beyond, work_of}
use Rattle.p414_flat_check.proofs.depths.is_too_deep.Given as goal

abbrev pub invariant-loop-next : goal.invariant-loop-next
invariant-loop-next l = list_any is_beyond l.left.items ≡ is_too_deep l.expression

abbrev pub decreases-loop-next : goal.decreases-loop-next
decreases-loop-next l = sum_by work_of l.left.items
