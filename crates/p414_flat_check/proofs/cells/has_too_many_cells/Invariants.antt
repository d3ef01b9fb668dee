use Rattle.std.proofs.Common.{◌≡◌, ◌+◌, ◌≤◌, drop, sum_by}
use Rattle.p414_syntax.specs.Cells.{cells, cell_count}
use Rattle.p414_flat_check.proofs.cells.has_too_many_cells.Given as goal

abbrev pub invariant-loop-decl : goal.invariant-loop-decl
invariant-loop-decl l = record {
  within : l.total ≤ 4194304;
  same : l.total + sum_by cell_count (cells (drop l.decl-index l.decls)) ≡ sum_by cell_count (cells l.decls);
}
