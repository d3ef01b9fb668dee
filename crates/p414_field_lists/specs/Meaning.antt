-- That rows are those of a program's field lists.
use Rattle.std.specs.Prelude.{◌≡◌, ℕ, List, length, Some}
use Rattle.p414_syntax.specs.declared.calculations.Item.{Item}
use Rattle.p414_syntax.specs.declared.syntax.Decl.{Decl}
use Rattle.p414_syntax.specs.Expansion.{lists, items_at, Expands}
use Rattle.p414_sem.specs.State.{State}
use Rattle.p414_sem.specs.Expanded.{Expanded, IsExpanded, items_in_list}
use Rattle.p414_sem.specs.Calculations.{list_bits}
use Rattle.p414_field_lists.specs.declared.rows.ItemRow.{ItemRow}
use Rattle.p414_field_lists.specs.Rows.{rows_of, rows_at, rows_bits}

-- The list with this number has the rows of whatever it comes to.
pub record IsReady (ds : List Decl) (ready : List (List ItemRow)) (n : ℕ) : Type 0 where
  pub rows : (items all : List Item) → items_at ds n ≡ Some items → Expands ds items all
      → rows_at ready n ≡ rows_of ds all

-- so do all lists of the program
pub record AreReady (ds : List Decl) (ready : List (List ItemRow)) : Type 0 where
  pub count : length ready ≡ length (lists ds)
  pub each : (n : ℕ) → IsReady ds ready n

-- In every state the bits of a list's rows are those of the list.
pub record MeansLists (ds : List Decl) (ready : List (List ItemRow)) : Type 0 where
  pub bits : (x : Expanded) → IsExpanded ds x → (n : ℕ) (s : State)
      → rows_bits s (rows_at ready n) ≡ list_bits ds s (items_in_list x n)
