use Rattle.std.proofs.Common.{◌≡◌, drop}
use Rattle.std.specs.Prelude.{flat_map}
use Rattle.p414_control_check.specs.Edges.{with_edges}
use Rattle.p414_pipeline_check.specs.internal.Applied.{leads_to}
use Rattle.lower_copies.proofs.applied_graph.add_statements.Given as goal

abbrev pub invariant-loop-statement : goal.invariant-loop-statement
invariant-loop-statement l =
    with_edges l.graph (flat_map (leads_to l.controls) (drop l.statement-index l.statements))
    ≡ with_edges l.fn.graph (flat_map (leads_to l.controls) l.statements)
