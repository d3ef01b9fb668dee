use Rattle.std.proofs.Common.{◌≡◌, ◌++◌, drop}
use Rattle.p414_sem.specs.Controls.{kept_arguments}
use Rattle.p414_ready_tables.proofs.defaults.kept_arguments.Given as goal

abbrev pub invariant-loop-i : goal.invariant-loop-i
invariant-loop-i l = l.kept ++ kept_arguments (drop l.i l.widths) (drop l.i l.numbers) ≡ kept_arguments l.widths l.numbers
