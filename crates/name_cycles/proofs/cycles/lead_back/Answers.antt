use Rattle.std.proofs.Common.{◌∙◌}
use Rattle.name_cycles.proofs.Cycling.{closed_by, leads_back}
use Rattle.name_cycles.proofs.cycles.lead_back.Goals as goal

pub of-requires : goal.of-requires
of-requires c = closed_by c.args.nodes.now c.in_ok-names.names c.in_ok-graph.graph (c.in_ok-names.ensures ∙ c.in_ok-names_of.ensures) c.in_ok-graph.ensures

pub least_on_cycle-requires-clause-closed : goal.least_on_cycle-requires-clause-closed
least_on_cycle-requires-clause-closed c = closed_by c.args.nodes.now c.in_ok-names.names c.in_ok-graph.graph (c.in_ok-names.ensures ∙ c.in_ok-names_of.ensures) c.in_ok-graph.ensures

pub returns : goal.returns
returns c = leads_back c.args.nodes.now c.in_ok-names.names c.in_ok-graph.graph c.least_on_cycle.result c.is_some.result (c.in_ok-names.ensures ∙ c.in_ok-names_of.ensures) c.in_ok-graph.ensures c.is_some.ensures c.least_on_cycle.ensures
