use Rattle.std.proofs.Common.{◌≡◌, ◌++◌, drop}
use Rattle.cell_lines.specs.Lines.{cell_lines, lines_from}
use Rattle.cell_lines.proofs.lines.put_cell_lines.Given as goal

abbrev pub invariant-loop-object : goal.invariant-loop-object
invariant-loop-object l =
    l.into ++ lines_from l.store l.object (drop l.object l.signature.objects) ≡ l.fn.into ++ cell_lines l.signature l.store
