use Rattle.std.proofs.Common.{◌∙◌, ℕ, List, sym, ap, subst}
use Rattle.digraph.specs.Graphs.{IsLeastOnCycle}
use Rattle.parse_graph.specs.declared.nodes.StateNode.{StateNode}
use Rattle.parse_graph.specs.internal.IdleEdges.{idle_graph}
use Rattle.parse_graph.proofs.Idling.{on_cycle, least_idle}
use Rattle.parse_graph.proofs.idle.first_idle_cycle.Goals as goal

pub returns-in-None : goal.returns-in-None
returns-in-None c = λ s idle. c.in-None.ensures s (rw (c.in_ok-idle.ensures.graph, c.as_slice.ensures) (on_cycle c.args.graph.now.states s idle))

pub returns-in-Ok : goal.returns-in-Ok
returns-in-Ok c =
    least_idle c.args.graph.now.states c.in-Ok.state
    (subst (λ (s : ℕ). IsLeastOnCycle (idle_graph c.args.graph.now.states) s) (sym c.in-Ok.ensures.1)
    (subst (λ (g : List (List ℕ)). IsLeastOnCycle g c.in-Some.state) (c.in_ok-idle.ensures.graph ∙ ap (λ (s : List StateNode). idle_graph s) c.as_slice.ensures) c.in-Some.ensures))
