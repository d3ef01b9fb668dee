-- The rows of a program's calls are kept of its primitives, where the table has the program's calculations
-- (this project's own).
use Rattle.std.specs.Prelude.{List, map}
use Rattle.p414_syntax.specs.declared.syntax.Decl.{Decl}
use Rattle.p414_syntax.specs.Arguments.{Invocation}
use Rattle.p414_sem.specs.Expanded.{Expanded}
use Rattle.p414_sem.specs.Operations.{primitive_of}
use Rattle.p414_ready_actions.specs.Words.{row_of}
use Rattle.lower_expressions.specs.declared.table.WordsTable.{WordsTable}
use Rattle.lower_rows.specs.Calculations.{HasCalculations}
use Rattle.lower_primitives.specs.Kept.{AreKept}

-- so it is for whatever the program comes to
abbrev pub CalledRowsAreKept : Type 0
CalledRowsAreKept =
    (ds : List Decl) (x : Expanded) (t : WordsTable) (all : List Invocation)
    → HasCalculations ds x t.calculations.now → AreKept ds t (map (primitive_of ds x) all) (map (row_of ds) all)
