use Rattle.std.proofs.Common.{◌≡◌, map, drop}
use Rattle.std.specs.List.{list_any}
use Rattle.p414_syntax.specs.Arguments.{placed}
use Rattle.p414_syntax.specs.Calls.{is_wrong_argument}
use Rattle.p414_calls.specs.Shown.{shown_argument}
use Rattle.p414_call_check.specs.Shown.{shown_wanted}
use Rattle.p414_call_check.proofs.wrong_calls.some_wrong_placed.Given as goal

abbrev pub invariant-loop-index : goal.invariant-loop-index
invariant-loop-index l = list_any (is_wrong_argument l.names) (placed (drop l.index (shown_wanted l.wanted)) (map shown_argument (drop l.index l.arguments))) ≡ list_any (is_wrong_argument l.names) (placed (shown_wanted l.wanted) (map shown_argument l.arguments))
