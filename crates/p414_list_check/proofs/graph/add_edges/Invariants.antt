use Rattle.std.proofs.Common.{◌≡◌, drop}
use Rattle.p414_syntax.specs.Expansion.{inner_numbers}
use Rattle.p414_list_check.specs.internal.Expanded.{with_edges}
use Rattle.p414_list_check.proofs.graph.add_edges.Given as goal

abbrev pub invariant-loop-item : goal.invariant-loop-item
invariant-loop-item l = with_edges l.graph (inner_numbers l.names (drop l.item-index l.items)) ≡ with_edges l.fn.graph (inner_numbers l.names l.items)
