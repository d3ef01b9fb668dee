use Rattle.p416_type_totals.proofs.Turning.{closed_by}
use Rattle.p416_type_totals.proofs.totals.TypeTotals.of.Goals as goal

pub of-requires-2 : goal.of-requires-2
of-requires-2 c = closed_by c.in_ok-types.types c.in_ok-graph.graph c.in_ok-graph.ensures

pub least_on_cycle-requires-clause-closed : goal.least_on_cycle-requires-clause-closed
least_on_cycle-requires-clause-closed c = closed_by c.in_ok-types.types c.in_ok-graph.graph c.in_ok-graph.ensures
