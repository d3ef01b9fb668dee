use Rattle.std.proofs.Common.{◌≡◌, ◌++◌, true}
use Rattle.p416_stmt_writer.specs.Layouts.{steps, all_said, are_spelt_steps, all_weight}
use Rattle.p416_stmt_writer.proofs.write.write_left.Given as goal

abbrev pub invariant-loop-work : goal.invariant-loop-work
invariant-loop-work l = ((l.sheet ++ all_said (steps l.left)) ≡ (l.fn.sheet ++ all_said (steps l.fn.left))) × (are_spelt_steps (steps l.left) ≡ true)

abbrev pub decreases-loop-work : goal.decreases-loop-work
decreases-loop-work l = all_weight (steps l.left)
