use Rattle.p414_syntax.specs.References.{referred}
use Rattle.p414_preserved_check.specs.internal.Marks.{is_missing}
use Rattle.p414_preserved_check.proofs.Loops.{found_one, not_this}
use Rattle.p414_preserved_check.proofs.marks.some_missing.Goals as goal

pub returns-then-is_missing : goal.returns-then-is_missing
returns-then-is_missing c = found_one referred (is_missing c.args.names.now) c.args.listed.now c.loop-name.name-index _ c.is_missing.result c.loop-name-test.true c.loop-name.invariant c.is_missing.ensures c.if-is_missing.true

pub loop-name-preserved : goal.loop-name-preserved
loop-name-preserved c = not_this referred (is_missing c.args.names.now) c.args.listed.now c.loop-name.name-index _ c.is_missing.result c.loop-name-test.true c.loop-name.invariant c.is_missing.ensures c.if-is_missing.false
