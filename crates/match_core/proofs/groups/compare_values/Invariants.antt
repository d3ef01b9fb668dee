use Rattle.std.proofs.Common.{◌≡◌, drop}
use Rattle.std.specs.Ordering.{nat_cmp}
use Rattle.std.specs.Cmp.Lexicographic.{slice_cmp}
use Rattle.match_core.specs.internal.Groups.{group_of}
use Rattle.match_core.proofs.groups.compare_values.Given as goal

abbrev pub invariant-loop-i : goal.invariant-loop-i
invariant-loop-i l = slice_cmp nat_cmp (drop l.i l.values) (drop l.i (group_of l.specs l.key)) ≡ slice_cmp nat_cmp l.values (group_of l.specs l.key)
