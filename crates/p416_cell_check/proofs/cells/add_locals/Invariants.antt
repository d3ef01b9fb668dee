use Rattle.std.proofs.Common.{◌≡◌, ◌++◌, flat_map, drop}
use Rattle.p416_syntax.specs.Totals.{local_cells}
use Rattle.p416_cell_check.proofs.cells.add_locals.Given as goal

abbrev pub invariant-loop-declared : goal.invariant-loop-declared
invariant-loop-declared l = l.counts.items ++ flat_map local_cells (drop l.declared-index l.locals) ≡ l.fn.counts.items ++ flat_map local_cells l.locals
