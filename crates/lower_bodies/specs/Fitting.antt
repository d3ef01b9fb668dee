-- What is asked of rows holds of the rows of primitives that fit, in a table of the block's words (this project's own).
use Rattle.std.specs.Prelude.{◌≡◌, ℕ, ◌<◌, ◌≤◌, List, length}
use Rattle.p414_syntax.specs.declared.syntax.Decl.{Decl}
use Rattle.p414_sem.specs.Operations.{Primitive}
use Rattle.p414_ready_actions.specs.declared.rows.ReadyPrimitive.{ReadyPrimitive}
use Rattle.agreement_of_meanings.specs.Shown.{fields_of, field_at, shown_at}
use Rattle.lower_laws_base.specs.Context.{Words, Lowering, words_of, object_at}
use Rattle.lower_laws_actions.specs.Fits.{AllFit}
use Rattle.lower_expressions.specs.declared.table.WordsTable.{WordsTable}
use Rattle.lower_expressions.specs.Table.{words_in}
use Rattle.lower_primitives.specs.Has.{RowsHave}
use Rattle.lower_primitives.specs.Kept.{AreKept}

-- nothing is wider than 128 bits
pub record IsNarrow (w : Words) : Type 0 where
  pub fields : (i k : ℕ) → i < length w.names.instances → k < length (fields_of (shown_at w.names.instances i)) → (field_at (fields_of (shown_at w.names.instances i)) k).width ≤ 128
  pub parameters : (j : ℕ) → j < length w.parameters → (field_at w.parameters j).width ≤ 128
  pub objects : (j : ℕ) → j < length w.objects → (object_at w.objects j).width ≤ 128

-- rows of primitives that fit have all that they name in the table
abbrev pub FittingRowsHave : Type 0
FittingRowsHave =
    (c : Lowering) (ds : List Decl) (t : WordsTable) (ps : List Primitive) (rows : List ReadyPrimitive)
    → words_of c ≡ words_in t → IsNarrow (words_of c) → AllFit c ds ps → AreKept ds t ps rows → RowsHave t rows
