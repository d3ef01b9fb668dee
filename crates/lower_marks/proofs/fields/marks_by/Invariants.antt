use Rattle.std.proofs.Common.{◌≡◌, ℕ, [], map, drop}
use Rattle.lower_marks.specs.Marking.{marked_in}
use Rattle.lower_marks.specs.FieldMarks.{marks_at, marks_in, marks_where, rows_hold}
use Rattle.lower_marks.proofs.fields.marks_by.Given as goal

abbrev pub invariant-loop-list : goal.invariant-loop-list
invariant-loop-list l =
    (k f : ℕ) → marks_where (rows_hold l.lists k f) (map marked_in (drop l.list-index l.marked)) (marks_at (marks_in l.found k) f)
    ≡ marks_where (rows_hold l.lists k f) (map marked_in l.marked) []
