use Rattle.std.proofs.Common.{◌≡◌, ◌++◌, drop, map}
use Rattle.lower_marks.specs.Marking.{marked_in}
use Rattle.lower_rows.specs.Named.{marked_lists}
use Rattle.lower_marks.proofs.marks.marked_rows.Given as goal

abbrev pub invariant-loop-i : goal.invariant-loop-i
invariant-loop-i l = map marked_in l.found ++ marked_lists l.i (drop l.i l.marks) ≡ marked_lists 0 l.marks
