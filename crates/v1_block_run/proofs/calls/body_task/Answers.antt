use Rattle.v1_block_run.proofs.Entering.{acts_body, acts_none}
use Rattle.v1_block_run.proofs.calls.body_task.Goals as goal

pub returns-in-Some : goal.returns-in-Some
returns-in-Some c =
    acts_body c.args.block.now c.args.action c.args.level c.calls_at-calls.result c.in-Some.found.now c.requires c.calls_at-calls.ensures
    c.if-calls-eq0.false c.in-Some.ensures

pub returns-in-None : goal.returns-in-None
returns-in-None c = acts_none c.args.block.now c.args.action c.args.level c.in-None.ensures
