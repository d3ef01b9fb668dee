use Rattle.std.proofs.Common.{◌≡◌, drop, filter_map}
use Rattle.p416_syntax.specs.ParserStates.{case_target}
use Rattle.p416_state_check.specs.internal.Outside.{leading_on}
use Rattle.p416_state_check.proofs.graph.add_cases.Given as goal

abbrev pub invariant-loop-case : goal.invariant-loop-case
invariant-loop-case l = leading_on l.node (filter_map case_target (drop l.case-index l.cases)) ≡ leading_on l.fn.node (filter_map case_target l.cases)
