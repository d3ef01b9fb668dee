use Rattle.std.proofs.Common.{◌≡◌, ◌++◌, map, drop}
use Rattle.p414_syntax.specs.ParserGraph.{states, state_name}
use Rattle.parse_graph.proofs.names.state_names.Given as goal

abbrev pub invariant-loop-decl : goal.invariant-loop-decl
invariant-loop-decl l = map (λ name. name.now) l.names.items ++ map state_name (states (drop l.decl-index l.decls)) ≡ map state_name (states l.decls)
