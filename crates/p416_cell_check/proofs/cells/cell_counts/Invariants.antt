use Rattle.std.proofs.Common.{◌≡◌, ◌++◌, flat_map, drop}
use Rattle.p416_syntax.specs.Totals.{cells_in}
use Rattle.p416_cell_check.proofs.cells.cell_counts.Given as goal

abbrev pub invariant-loop-decl : goal.invariant-loop-decl
invariant-loop-decl l = l.counts.items ++ flat_map cells_in (drop l.decl-index l.decls) ≡ flat_map cells_in l.decls
