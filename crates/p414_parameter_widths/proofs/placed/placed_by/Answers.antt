use Rattle.p414_call_check.specs.Shown.{shown_wanted}
use Rattle.p414_parameter_widths.proofs.Placing.{placed_now, placed_all}
use Rattle.p414_parameter_widths.proofs.placed.placed_by.Goals as goal

pub loop-index-preserved : goal.loop-index-preserved
loop-index-preserved c =
    placed_now (shown_wanted c.args.wanted.now) c.args.arguments.now c.loop-index.index c.index-arguments-index.result c.place.result _ _ _ c.loop-index-test.true c.index-arguments-index.is c.place.ensures c.in_ok-add_argument.ensures c.loop-index.invariant

pub returns : goal.returns
returns c =
    placed_all (shown_wanted c.args.wanted.now) c.args.arguments.now c.loop-index.index _ _ c.loop-index-test.false c.loop-index.invariant
