use Rattle.std.proofs.Common.{◌≡◌, ◌++◌, drop, map}
use Rattle.p414_syntax.specs.Tables.{tables}
use Rattle.p414_pipeline_check.specs.internal.Applied.{table_row, table_rows}
use Rattle.lower_copies.proofs.applied_graph.add_tables.Given as goal

abbrev pub invariant-loop-decl : goal.invariant-loop-decl
invariant-loop-decl l = l.graph ++ map table_row (tables (drop l.decl-index l.decls)) ≡ l.fn.graph ++ table_rows l.decls
