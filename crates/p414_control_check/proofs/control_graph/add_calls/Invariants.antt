use Rattle.std.proofs.Common.{◌≡◌, drop}
use Rattle.std.specs.Prelude.{filter_map, flat_map}
use Rattle.p414_syntax.specs.ControlExpansion.{control_number, own_call}
use Rattle.p414_control_check.specs.Edges.{with_edges}
use Rattle.p414_control_check.proofs.control_graph.add_calls.Given as goal

abbrev pub invariant-loop-statement : goal.invariant-loop-statement
invariant-loop-statement l =
    with_edges l.graph (filter_map (control_number l.controls) (flat_map own_call (drop l.statement-index l.statements)))
    ≡ with_edges l.fn.graph (filter_map (control_number l.controls) (flat_map own_call l.statements))
