use Rattle.std.proofs.Common.{◌≡◌, ◌++◌}
use Rattle.state_store.specs.State.{read}
use Rattle.cell_lines.specs.Lines.{first_lines, number_line}
use Rattle.cell_lines.proofs.lines.put_register.Given as goal

abbrev pub invariant-loop-index : goal.invariant-loop-index
invariant-loop-index l =
    l.into ≡ l.fn.into ++ first_lines (λ index. number_line l.name index (read l.store l.object index)) l.index
