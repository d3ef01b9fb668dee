-- The marks of each field, in a table by instance and field: the marks of the lists that hold it
-- (this project's own; P4_14 1.0.5, "Field Lists"; `v1model.p4`, `@field_list`).
use Rattle.std.specs.Prelude.{◌≡◌, ℕ, ◌-◌, Bool, false, ◌&&◌, nat_eq, if◌then◌else◌, List, [], ◌∷◌, ◌++◌, length, slice_get, slice_index_or, Option, Some, None}
use Rattle.std.specs.List.{list_any}
use Rattle.p414_syntax.specs.declared.syntax.Decl.{Decl}
use Rattle.p414_sem.specs.Expanded.{Expanded}
use Rattle.p414_slots.specs.Shown.{slot_in}
use Rattle.p414_field_lists.specs.declared.rows.ItemRow.{ItemRow}
use Rattle.p414_field_lists.specs.declared.rows.ItemRow.TheVariants as row
use Rattle.p414_field_lists.specs.Rows.{rows_at}
use Rattle.agreement_of_meanings.specs.Agrees.{Marked}
use Rattle.lower_laws_names.specs.Marks.{is_field, marks_of_field}

-- the marks of a field, in a table of each instance's fields
abbrev pub marks_at : List (List ℕ) → ℕ → List ℕ
marks_at marks f = slice_index_or marks f []

-- the marks of the fields of an instance
abbrev pub marks_in : List (List (List ℕ)) → ℕ → List (List ℕ)
marks_in marks k = slice_index_or marks k []

-- the table has the marks of each field
abbrev pub AreMarks : List Decl → Expanded → List (List (List ℕ)) → Type 0
AreMarks ds x marks = (k f : ℕ) → marks_at (marks_in marks k) f ≡ marks_of_field ds x k f

-- a mark behind these, unless it is the last

-- the last mark, if there is one, is this one
abbrev pub is_that : Option ℕ → ℕ → Bool
is_that None mark = false
is_that (Some last) mark = nat_eq last mark

-- the last of these marks is this one
abbrev pub ends_in : List ℕ → ℕ → Bool
ends_in marks mark = is_that (slice_get marks (length marks - 1)) mark

-- a mark behind these, unless it is the last
abbrev pub with_mark : List ℕ → ℕ → List ℕ
with_mark marks mark = if ends_in marks mark then marks else marks ++ mark ∷ []

-- the same where something is so
abbrev pub marked_where : Bool → List ℕ → ℕ → List ℕ
marked_where so marks mark = if so then with_mark marks mark else marks

-- a row is of this field of this instance
abbrev pub row_is : ℕ → ℕ → ItemRow → Bool
row_is k f (row.Field slot width) = is_field k f (slot_in slot)
row_is k f _ = false

-- a list holds this field
abbrev pub rows_hold : List (List ItemRow) → ℕ → ℕ → Marked → Bool
rows_hold ready k f m = list_any (row_is k f) (rows_at ready m.list)

-- the marks of those lists that are so, behind these
abbrev pub marks_where : (Marked → Bool) → List Marked → List ℕ → List ℕ
marks_where so [] marks = marks
marks_where so (m ∷ ms) marks = marks_where so ms (marked_where (so m) marks m.number)
