use Rattle.std.proofs.Common.{◌≡◌, drop}
use Rattle.std.specs.List.{list_any}
use Rattle.p414_syntax.specs.Cells.{cells, is_bad_cell_count}
use Rattle.p414_flat_check.proofs.cells.some_bad_count.Given as goal

abbrev pub invariant-loop-decl : goal.invariant-loop-decl
invariant-loop-decl l = list_any is_bad_cell_count (cells (drop l.decl-index l.decls)) ≡ list_any is_bad_cell_count (cells l.decls)
