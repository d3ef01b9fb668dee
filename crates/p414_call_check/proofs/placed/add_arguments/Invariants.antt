use Rattle.std.proofs.Common.{◌≡◌, ◌++◌, map, drop}
use Rattle.p414_syntax.specs.Arguments.{placed}
use Rattle.p414_calls.specs.Shown.{shown_argument}
use Rattle.p414_call_check.specs.Shown.{shown_wanted, shown_placed}
use Rattle.p414_call_check.proofs.placed.add_arguments.Given as goal

abbrev pub invariant-loop-index : goal.invariant-loop-index
invariant-loop-index l = map shown_placed l.found.items ++ placed (drop l.index (shown_wanted l.wanted)) (map shown_argument (drop l.index l.arguments)) ≡ map shown_placed l.fn.found.items ++ placed (shown_wanted l.wanted) (map shown_argument l.arguments)
