use Rattle.std.proofs.Common.{◌≡◌, ◌++◌, map, drop}
use Rattle.p414_syntax.specs.ActionExpansion.{given_for}
use Rattle.p414_calls.specs.Shown.{shown_argument}
use Rattle.p414_ready_actions.proofs.expansion.all_given.Given as goal

abbrev pub invariant-loop-argument : goal.invariant-loop-argument
invariant-loop-argument l = map shown_argument l.found.items ++ map (given_for (map shown_argument l.given)) (map shown_argument (drop l.argument-index l.arguments)) ≡ map (given_for (map shown_argument l.given)) (map shown_argument l.arguments)
