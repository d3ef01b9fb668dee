-- What it is for rows to be the calculated fields of a program.
use Rattle.std.specs.Prelude.{◌≡◌, ℕ, List}
use Rattle.p414_syntax.specs.declared.syntax.Decl.{Decl}
use Rattle.p414_sem.specs.State.{State}
use Rattle.p414_sem.specs.Expanded.{Expanded, IsExpanded}
use Rattle.p414_sem.specs.Meanings.{Verify14, Update14}
use Rattle.p414_layout.specs.Shapes.{layout_of}
use Rattle.p414_ready_actions.specs.Meaning.{AreSums}
use Rattle.p414_calculated_fields.specs.declared.rows.CalculatedRow.{CalculatedRow}
use Rattle.p414_calculated_fields.specs.Running.{rows_fail, rows_updated}

-- in each state they fail where the program raises p4_pe_checksum, and leave what it updates
pub record MeansFields (ds : List Decl) (rows : List CalculatedRow) : Type 0 where
  pub verify : (x : Expanded) → IsExpanded ds x → (sums : ℕ → State → ℕ) → AreSums ds x sums → (s : State)
      → rows_fail sums s rows ≡ Verify14 ds x s
  pub update : (x : Expanded) → IsExpanded ds x → (sums : ℕ → State → ℕ) → AreSums ds x sums → (s : State)
      → rows_updated (layout_of ds) sums s rows ≡ Update14 ds x s
