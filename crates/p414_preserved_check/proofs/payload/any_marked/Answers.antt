use Rattle.p414_syntax.specs.References.{referred}
use Rattle.p414_preserved_check.specs.internal.Named.{some_input_marked}
use Rattle.p414_preserved_check.proofs.Loops.{found_one, not_this}
use Rattle.p414_preserved_check.proofs.payload.any_marked.Goals as goal

pub returns-then-some_input_marked : goal.returns-then-some_input_marked
returns-then-some_input_marked c = found_one referred (some_input_marked c.args.names.now c.args.marks.now) c.args.calculations.now c.loop-calculation.calculation-index _ c.some_input_marked.result c.loop-calculation-test.true c.loop-calculation.invariant c.some_input_marked.ensures c.if-some_input_marked.true

pub loop-calculation-preserved : goal.loop-calculation-preserved
loop-calculation-preserved c = not_this referred (some_input_marked c.args.names.now c.args.marks.now) c.args.calculations.now c.loop-calculation.calculation-index _ c.some_input_marked.result c.loop-calculation-test.true c.loop-calculation.invariant c.some_input_marked.ensures c.if-some_input_marked.false
