use Rattle.std.proofs.Common.{◌≡◌, ◌+◌, ◌≤◌, ◌++◌, length, drop}
use Rattle.lower_rows.specs.Named.{marked_lists}
use Rattle.lower_marks.specs.Marking.{marks_by}
use Rattle.lower_marks.proofs.marks.marks_by.Given as goal

abbrev pub invariant-loop-i : goal.invariant-loop-i
invariant-loop-i l = record {
  rows : marked_lists 0 l.found ++ marks_by (drop l.i l.preserved) l.i l.number ≡ marks_by l.preserved 0 1;
  same : length l.found ≡ l.i;
  few : l.number ≤ l.i + 1;
}
