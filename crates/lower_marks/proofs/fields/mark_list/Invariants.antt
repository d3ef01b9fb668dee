use Rattle.std.proofs.Common.{◌≡◌, ℕ, drop}
use Rattle.std.specs.List.{list_any}
use Rattle.lower_marks.specs.FieldMarks.{marked_where, marks_at, marks_in, row_is}
use Rattle.lower_marks.proofs.fields.mark_list.Given as goal

abbrev pub invariant-loop-row : goal.invariant-loop-row
invariant-loop-row l =
    (k f : ℕ) → marked_where (list_any (row_is k f) (drop l.row-index l.rows)) (marks_at (marks_in l.found k) f) l.mark
    ≡ marked_where (list_any (row_is k f) l.rows) (marks_at (marks_in l.fn.found k) f) l.mark
