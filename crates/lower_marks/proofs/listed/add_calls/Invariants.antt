use Rattle.std.proofs.Common.{◌≡◌, drop}
use Rattle.lower_names.specs.Picked.{with_all}
use Rattle.lower_marks.specs.Preserving.{lists_by}
use Rattle.lower_marks.proofs.listed.add_calls.Given as goal

abbrev pub invariant-loop-call : goal.invariant-loop-call
invariant-loop-call l = with_all l.known (lists_by (drop l.call-index l.calls)) ≡ with_all l.fn.known (lists_by l.calls)
