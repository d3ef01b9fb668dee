use Rattle.std.proofs.Common.{◌≡◌, ◌++◌, map, drop}
use Rattle.p414_syntax.specs.ParserGraph.{states}
use Rattle.p414_ready_parser.specs.Rows.{state_row}
use Rattle.p414_ready_parser.proofs.parser.state_rows.Given as goal

abbrev pub invariant-loop-decl : goal.invariant-loop-decl
invariant-loop-decl l = l.found ++ map (state_row l.names) (states (drop l.decl-index l.decls)) ≡ map (state_row l.names) (states l.decls)
