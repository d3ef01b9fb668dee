use Rattle.std.proofs.Common.{◌≡◌, length}
use Rattle.p414_one_table.specs.Programs as forms
use Rattle.p414_one_table.proofs.fields.repeats.Given as goal

abbrev pub invariant-loop-left : goal.invariant-loop-left
invariant-loop-left l = forms.repeats l.left ≡ forms.repeats l.fields

abbrev pub decreases-loop-left : goal.decreases-loop-left
decreases-loop-left l = length l.left
