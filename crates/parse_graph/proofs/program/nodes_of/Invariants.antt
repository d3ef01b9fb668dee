use Rattle.std.proofs.Common.{◌≡◌, ◌++◌, map, drop}
use Rattle.p414_syntax.specs.ParserGraph.{states}
use Rattle.parse_graph.specs.Programs.{node_of}
use Rattle.parse_graph.proofs.program.nodes_of.Given as goal

abbrev pub invariant-loop-decl : goal.invariant-loop-decl
invariant-loop-decl l = l.nodes ++ map (node_of l.names) (states (drop l.decl-index l.decls)) ≡ map (node_of l.names) (states l.decls)
