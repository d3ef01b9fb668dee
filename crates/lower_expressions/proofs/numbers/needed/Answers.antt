use Rattle.std.proofs.Common.{arith, ◌+◌, refl, sym, ◌∙◌}
use Rattle.lower_expressions.proofs.Needing.{needed_more}
use Rattle.lower_expressions.proofs.numbers.needed.Goals as goal

pub loop-width-preserved : goal.loop-width-preserved
loop-width-preserved c =
    sym (needed_more c.loop-width.width c.args.value (c.loop-width.width + 1) c.loop-width-test.true (omega (arith, c.if-value-power.false, c.power.ensures)) refl)
    ∙ c.loop-width.invariant
