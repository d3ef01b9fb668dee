use Rattle.std.proofs.Common.{◌≡◌, [], drop, flat_map}
use Rattle.lower_names.specs.Picked.{with_all}
use Rattle.lower_marks.specs.Preserving.{lists_by}
use Rattle.lower_marks.proofs.listed.listed_by.Given as goal

abbrev pub invariant-loop-action : goal.invariant-loop-action
invariant-loop-action l = with_all l.known (flat_map lists_by (drop l.action-index l.actions)) ≡ with_all [] (flat_map lists_by l.actions)
