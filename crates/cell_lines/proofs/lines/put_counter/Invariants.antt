use Rattle.std.proofs.Common.{◌≡◌, ◌++◌}
use Rattle.state_store.specs.State.{pair}
use Rattle.cell_lines.specs.Lines.{counts_line, first_lines}
use Rattle.cell_lines.proofs.lines.put_counter.Given as goal

abbrev pub invariant-loop-index : goal.invariant-loop-index
invariant-loop-index l =
    l.into ≡ l.fn.into ++ first_lines (λ index. counts_line l.word l.name index (pair l.store l.object index)) l.index
