use Rattle.std.proofs.Common.{length, sym, ap, ◌∙◌}
use Rattle.p414_preserved_check.proofs.Marking.{closed_by, marks_found, never_cyclic}
use Rattle.p414_preserved_check.proofs.marks.graph_marks.Goals as goal

pub sizes-requires-clause-closed : goal.sizes-requires-clause-closed
sizes-requires-clause-closed c = closed_by c.args.names.now c.args.graph.now c.requires.graph

pub sizes-requires-clause-own : goal.sizes-requires-clause-own
sizes-requires-clause-own c = c.requires.own ∙ sym (ap length c.requires.graph)

pub returns-in-Some : goal.returns-in-Some
returns-in-Some c = marks_found c.args.names.now c.args.graph.now c.args.own.now c.in_ok-marks.field-0 _ c.requires.graph c.in_ok-marks.ensures c.in-Some.is

pub returns-in-None : goal.returns-in-None
returns-in-None c = absurd (never_cyclic c.args.names.now c.args.graph.now c.args.own.now c.in_ok-marks.field-0 c.requires.acyclic c.requires.graph c.in_ok-marks.ensures c.in-None.is)
