use Rattle.p414_pipeline_check.proofs.Applying.{closed_by, applied_by_parts}
use Rattle.lower_copies.proofs.applied.applied_tables.Goals as goal

pub reached_from-requires-clause-closed : goal.reached_from-requires-clause-closed
reached_from-requires-clause-closed c = closed_by c.args.controls.now c.args.graph.now c.requires

pub returns : goal.returns
returns c =
    applied_by_parts c.args.controls.now c.args.pipeline.now c.args.graph.now c.number.result c.len.result c.in_ok-reached.reached.items c.drop_first.new.marks.items c.requires c.number.ensures c.len.ensures c.in_ok-reached.ensures c.drop_first.ensures
