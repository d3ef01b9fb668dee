use Rattle.match_core.specs.internal.Codes.{IsCodeIndex}
use Rattle.match_core.specs.internal.Groups.{AreGroups, group_found}
use Rattle.match_core.proofs.groups.levels_by_group.Given as goal

abbrev pub invariant-loop-i : goal.invariant-loop-i
invariant-loop-i l = record {
  are : AreGroups l.groups.entries;
  index : IsCodeIndex l.specs l.entries l.i (group_found l.specs l.groups.entries);
}
