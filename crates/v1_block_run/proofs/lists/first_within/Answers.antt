use Rattle.v1_block_run.proofs.Opening.{opens_first, opens_last}
use Rattle.v1_block_run.proofs.lists.first_within.Goals as goal

pub parts-preserved-then-is_nothing : goal.parts-preserved-then-is_nothing
parts-preserved-then-is_nothing c =
    opens_last c.args.block.now c.args.level c.args.ran c.args.place c.args.tasks.now c.parts.at c.in-Some.first c.in-Some.last
    c.parts.tasks c.in-Some.ensures.tree c.in-Some.ensures.before c.parts.invariant (c.is_nothing.ensures c.if-is_nothing.true)

pub parts-preserved : goal.parts-preserved
parts-preserved c =
    opens_first c.args.block.now c.args.level c.args.ran c.args.place c.args.tasks.now c.parts.at c.in-Some.first c.in-Some.last
    c.parts.tasks c.in-Some.ensures.tree c.in-Some.ensures.before c.parts.invariant c.push.new.self c.in_ok-push.ensures
