use Rattle.v1_block_tables.proofs.Giving.{Bound}
use Rattle.v1_block_tables.proofs.binding.bind_numbers.Given as goal

abbrev pub invariant-loop-i : goal.invariant-loop-i
invariant-loop-i l = Bound l.slots l.numbers l.i l.fn.frame l.frame
