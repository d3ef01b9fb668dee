use Rattle.std.proofs.Common.{◌≡◌, ◌++◌, ◌≤◌, map, drop, length}
use Rattle.p414_syntax.specs.ParserGraph.{states}
use Rattle.lower_laws_parser.specs.Words.{state_of}
use Rattle.lower_parser.specs.Written.{parser_names}
use Rattle.lower_parser.proofs.parser.add_states.Given as goal

abbrev pub invariant-loop-i : goal.invariant-loop-i
invariant-loop-i l =
    l.made ++ map (state_of l.fn.names (parser_names l.fn.names)) (drop l.i (states l.fn.names)) ≡ l.fn.made ++ map (state_of l.fn.names (parser_names l.fn.names)) (states l.fn.names)
