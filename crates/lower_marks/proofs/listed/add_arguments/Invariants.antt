use Rattle.std.proofs.Common.{◌≡◌, drop, map}
use Rattle.p414_calls.specs.Shown.{shown_argument}
use Rattle.lower_names.specs.Picked.{with_all}
use Rattle.lower_marks.specs.Preserving.{lists_among}
use Rattle.lower_marks.proofs.listed.add_arguments.Given as goal

abbrev pub invariant-loop-k : goal.invariant-loop-k
invariant-loop-k l =
    with_all l.known (lists_among (drop l.k l.places) (map shown_argument (drop l.k l.arguments)))
    ≡ with_all l.fn.known (lists_among l.places (map shown_argument l.arguments))
