use Rattle.std.proofs.Common.{◌≡◌, ◌++◌, drop, map}
use Rattle.p414_calls.specs.Shown.{shown_argument}
use Rattle.p414_expanded_check.specs.internal.Flow.{passes_at}
use Rattle.p414_expanded_check.proofs.flow.add_at.Given as goal

abbrev pub invariant-loop-argument : goal.invariant-loop-argument
invariant-loop-argument l =
    l.found.items ++ passes_at l.here l.left (map shown_argument (drop l.argument-index l.arguments)) ≡ l.fn.found.items ++ passes_at l.here l.places (map shown_argument l.arguments)
