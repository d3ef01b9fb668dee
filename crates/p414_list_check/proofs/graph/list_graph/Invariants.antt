use Rattle.std.proofs.Common.{◌≡◌, ◌++◌, drop, map}
use Rattle.p414_syntax.specs.Expansion.{lists}
use Rattle.p414_list_check.specs.internal.Expanded.{list_row, list_graph}
use Rattle.p414_list_check.proofs.graph.list_graph.Given as goal

abbrev pub invariant-loop-decl : goal.invariant-loop-decl
invariant-loop-decl l = l.graph ++ map (list_row l.names) (lists (drop l.decl-index l.names)) ≡ list_graph l.names
