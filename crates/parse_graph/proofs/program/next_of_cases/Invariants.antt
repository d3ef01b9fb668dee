use Rattle.std.proofs.Common.{◌≡◌, ◌++◌, drop, filter_map}
use Rattle.p414_syntax.specs.ParserGraph.{state_number, case_target_of}
use Rattle.parse_graph.proofs.program.next_of_cases.Given as goal

abbrev pub invariant-loop-case : goal.invariant-loop-case
invariant-loop-case l = l.next ++ filter_map (state_number l.names) (filter_map case_target_of (drop l.case-index l.cases)) ≡ filter_map (state_number l.names) (filter_map case_target_of l.cases)
