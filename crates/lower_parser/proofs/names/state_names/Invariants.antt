use Rattle.std.proofs.Common.{◌≡◌, ◌++◌, map, drop}
use Rattle.p414_syntax.specs.References.{referred}
use Rattle.p414_syntax.specs.ParserGraph.{state_name, states}
use Rattle.lower_parser.proofs.names.state_names.Given as goal

abbrev pub invariant-loop-decl : goal.invariant-loop-decl
invariant-loop-decl l = map referred l.found.items ++ map state_name (states (drop l.decl-index l.decls)) ≡ map state_name (states l.decls)
