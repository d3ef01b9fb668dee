use Rattle.std.proofs.Common.{◌≡◌, ◌++◌, drop, map}
use Rattle.p414_calls.specs.Shown.{shown_argument}
use Rattle.p414_expanded_check.specs.internal.Flow.{passes_on}
use Rattle.p414_expanded_check.proofs.flow.add_on.Given as goal

abbrev pub invariant-loop-argument : goal.invariant-loop-argument
invariant-loop-argument l =
    l.found.items ++ passes_on l.next l.here (map shown_argument (drop l.argument-index l.arguments)) ≡ l.fn.found.items ++ passes_on l.from l.here (map shown_argument l.arguments)
