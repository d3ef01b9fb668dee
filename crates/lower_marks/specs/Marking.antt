-- The marks of lists, by flags that tell which of them are preserved (this project's own; P4_14 1.0.5,
-- "Field Lists", "Primitive Actions"; `v1model.p4`, `@field_list`).
use Rattle.std.specs.Prelude.{◌≡◌, ℕ, ◌+◌, Bool, true, false, List, [], ◌∷◌, map, Option, Some, None}
use Rattle.p414_syntax.specs.declared.syntax.Decl.{Decl}
use Rattle.p414_syntax.specs.declared.syntax.Sort.TheVariants as sort
use Rattle.p414_syntax.specs.Names.{has_name, names_in}
use Rattle.p414_syntax.specs.Preserved.{preserved_lists}
use Rattle.agreement_of_meanings.specs.Agrees.{Marked}
use Rattle.lower_marks.specs.declared.marks.Marked.{Marked as MarkedRow}

-- the marks, of which the first list has this number, from this mark on
abbrev pub marks_by : List Bool → ℕ → ℕ → List Marked
marks_by [] list number = []
marks_by (true ∷ flags) list number = record { list = list; number = number } ∷ marks_by flags (list + 1) (number + 1)
marks_by (false ∷ flags) list number = marks_by flags (list + 1) number

-- a mark where the flag stands, and the mark that is next
abbrev pub mark_if : Bool → ℕ → Option ℕ
mark_if true number = Some number
mark_if false number = None

-- the mark that is next
abbrev pub next_mark : Bool → ℕ → ℕ
next_mark true number = number + 1
next_mark false number = number

-- the flags are those of the lists that are preserved
abbrev pub ArePreserved : List Decl → List Bool → Type 0
ArePreserved ds flags = flags ≡ map (has_name (preserved_lists ds)) (names_in sort.List ds)

-- a list with its mark, as it is handed on
abbrev pub marked_in : MarkedRow → Marked
marked_in m = record { list = m.list; number = m.number }

-- the list with this number, if it has a mark
abbrev pub marked_if : ℕ → Option ℕ → List Marked
marked_if list None = []
marked_if list (Some number) = record { list = list; number = number } ∷ []
