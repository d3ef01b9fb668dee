use Rattle.v1_block_run.proofs.Entering.{enters_nothing}
use Rattle.v1_block_run.proofs.calls.enter.Goals as goal

pub returns-in_ok-push-in-None : goal.returns-in_ok-push-in-None
returns-in_ok-push-in-None c =
    enters_nothing c.args.block.now c.args.level c.args.action c.args.outgoing c.args.tasks.now c.push.new.self c.requires.outgoing
    c.requires.there c.in-None.ensures c.in_ok-push-in-None.ensures
