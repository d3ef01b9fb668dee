use Rattle.std.proofs.Common.{◌≡◌, ◌++◌, drop, length}
use Rattle.match_core.specs.internal.Groups.{group_of}
use Rattle.match_core.proofs.groups.group_of.Given as goal

abbrev pub invariant-loop-i : goal.invariant-loop-i
invariant-loop-i l = record {
  so_far : l.group ++ group_of (drop l.i l.specs) (drop l.i l.numbers) ≡ group_of l.specs l.numbers;
  count : length l.group ≡ l.i;
}
