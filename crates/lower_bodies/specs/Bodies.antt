-- What is written for the rows of an action, one after another or at once, as in the mirror (this project's own;
-- P4_14 1.0.5, "Actions"; P4_16 1.2, "Actions").
use Rattle.std.specs.Prelude.{◌≡◌, ℕ, suc, ◌<◌, Bool, List, [], ◌∷◌, ◌++◌, length, Option, if◌then◌else◌}
use Rattle.p414_syntax.specs.declared.syntax.Decl.{Decl}
use Rattle.p414_syntax.specs.declared.syntax.Rule14.{Rule14}
use Rattle.p414_syntax.specs.Arguments.{actions}
use Rattle.p414_sem.specs.Expanded.{Expanded, IsExpanded, primitives_at}
use Rattle.p414_ready_actions.specs.declared.rows.ReadyPrimitive.{ReadyPrimitive}
use Rattle.p416_syntax.specs.Tree.{Stmt16}
use Rattle.lower_laws_base.specs.Context.{now, entry}
use Rattle.lower_laws_base.specs.Mirror.{copies_stmt}
use Rattle.lower_laws_actions.specs.Mirror.{behind_stmts, body_stmt, counts_first}
use Rattle.lower_laws_actions.specs.Runs.{primitives_of}
use Rattle.lower_rows.specs.Calculations.{HasCalculations}
use Rattle.lower_expressions.specs.declared.table.WordsTable.{WordsTable}
use Rattle.lower_expressions.specs.Table.{words_in}
use Rattle.lower_primitives.specs.Rows.{row_front, row_rest, row_stmts}

-- what is written for each row, of which the first has this number
abbrev pub rows_by : (ℕ → ReadyPrimitive → List Stmt16) → ℕ → List ReadyPrimitive → List Stmt16
rows_by of K [] = []
rows_by of K (row ∷ rows) = of K row ++ rows_by of (suc K) rows

-- bodies, behind what they do first

-- each row by itself, one after another
abbrev pub rows_in_order : WordsTable → Stmt16 → List ReadyPrimitive → Stmt16
rows_in_order t x rows = behind_stmts x (rows_by (row_stmts t now) 0 rows)

-- first what all rows read, then the rest of each
abbrev pub rows_at_once : WordsTable → Stmt16 → List ReadyPrimitive → Stmt16
rows_at_once t x rows =
    behind_stmts (behind_stmts (copies_stmt (words_in t) x) (rows_by (row_front t entry) 0 rows)) (rows_by (row_rest t entry) 0 rows)

-- the body of an action of these rows, with copies or without
abbrev pub rows_body : WordsTable → Bool → Option ℕ → List ReadyPrimitive → Stmt16
rows_body t copies counter rows =
    if copies then rows_at_once t (counts_first (words_in t) counter) rows else rows_in_order t (counts_first (words_in t) counter) rows

-- The list of statements of an action of a program: the mirror's, for whatever the program comes to, where the table has the
-- calculations of the program.
abbrev pub IsBodyOf : List Decl → WordsTable → Rule14 → Option ℕ → ℕ → Stmt16 → Type 0
IsBodyOf ds t rule counter action list =
    (x : Expanded) → IsExpanded ds x → action < length (actions ds) → HasCalculations ds x t.calculations.now →
    list ≡ body_stmt ds (words_in t) rule counter (primitives_of ds x (primitives_at x action))
