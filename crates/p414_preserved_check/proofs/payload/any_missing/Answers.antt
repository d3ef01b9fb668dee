use Rattle.p414_syntax.specs.References.{referred}
use Rattle.p414_preserved_check.specs.internal.Named.{some_input_missing}
use Rattle.p414_preserved_check.proofs.Loops.{found_one, not_this}
use Rattle.p414_preserved_check.proofs.payload.any_missing.Goals as goal

pub returns-then-some_input_missing : goal.returns-then-some_input_missing
returns-then-some_input_missing c = found_one referred (some_input_missing c.args.names.now) c.args.calculations.now c.loop-calculation.calculation-index _ c.some_input_missing.result c.loop-calculation-test.true c.loop-calculation.invariant c.some_input_missing.ensures c.if-some_input_missing.true

pub loop-calculation-preserved : goal.loop-calculation-preserved
loop-calculation-preserved c = not_this referred (some_input_missing c.args.names.now) c.args.calculations.now c.loop-calculation.calculation-index _ c.some_input_missing.result c.loop-calculation-test.true c.loop-calculation.invariant c.some_input_missing.ensures c.if-some_input_missing.false
