use Rattle.std.proofs.Common.{◌≡◌, drop, map}
use Rattle.p414_calls.specs.Shown.{shown_argument}
use Rattle.p414_expanded_check.specs.internal.Flow.{refused_from}
use Rattle.p414_expanded_check.proofs.refused.some_argument.Given as goal

abbrev pub invariant-loop-argument : goal.invariant-loop-argument
invariant-loop-argument l =
    refused_from l.place l.flags l.number (map shown_argument (drop l.argument-index l.arguments)) ≡ refused_from l.place l.flags l.from (map shown_argument l.arguments)
