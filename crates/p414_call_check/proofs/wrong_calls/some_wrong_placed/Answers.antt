use Rattle.p414_call_check.specs.Shown.{shown_wanted}
use Rattle.p414_call_check.proofs.Placing.{is_wrong, is_right, none_wrong}
use Rattle.p414_call_check.proofs.wrong_calls.some_wrong_placed.Goals as goal

pub returns-then-is_wrong_placed : goal.returns-then-is_wrong_placed
returns-then-is_wrong_placed c =
    is_wrong c.args.names.now (shown_wanted c.args.wanted.now) c.args.arguments.now c.loop-index.index c.index-arguments-index.result c.place.result _ c.is_wrong_placed.result c.loop-index-test.true c.index-arguments-index.is c.place.ensures c.is_wrong_placed.ensures c.if-is_wrong_placed.true c.loop-index.invariant

pub loop-index-preserved : goal.loop-index-preserved
loop-index-preserved c =
    is_right c.args.names.now (shown_wanted c.args.wanted.now) c.args.arguments.now c.loop-index.index c.index-arguments-index.result c.place.result _ c.is_wrong_placed.result c.loop-index-test.true c.index-arguments-index.is c.place.ensures c.is_wrong_placed.ensures c.if-is_wrong_placed.false c.loop-index.invariant

pub returns : goal.returns
returns c =
    none_wrong c.args.names.now (shown_wanted c.args.wanted.now) c.args.arguments.now c.loop-index.index _ c.loop-index-test.false c.loop-index.invariant
