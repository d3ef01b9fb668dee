use Rattle.std.proofs.Common.{◌≡◌, ◌++◌, true}
use Rattle.p416_exp_writer.specs.Layouts.{all_said, are_spelt_works, all_weight}
use Rattle.p416_exp_writer.proofs.write.write_left.Given as goal

abbrev pub invariant-loop-work : goal.invariant-loop-work
invariant-loop-work l = ((l.sheet ++ all_said l.left) ≡ (l.fn.sheet ++ all_said l.fn.left)) × (are_spelt_works l.left ≡ true)

abbrev pub decreases-loop-work : goal.decreases-loop-work
decreases-loop-work l = all_weight l.left
