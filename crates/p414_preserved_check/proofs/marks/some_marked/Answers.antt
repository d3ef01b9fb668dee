use Rattle.p414_syntax.specs.References.{referred}
use Rattle.p414_preserved_check.specs.internal.Marks.{is_marked_name}
use Rattle.p414_preserved_check.proofs.Loops.{found_one, not_this}
use Rattle.p414_preserved_check.proofs.marks.some_marked.Goals as goal

pub returns-then-is_marked_name : goal.returns-then-is_marked_name
returns-then-is_marked_name c = found_one referred (is_marked_name c.args.names.now c.args.marks.now) c.args.listed.now c.loop-name.name-index _ c.is_marked_name.result c.loop-name-test.true c.loop-name.invariant c.is_marked_name.ensures c.if-is_marked_name.true

pub loop-name-preserved : goal.loop-name-preserved
loop-name-preserved c = not_this referred (is_marked_name c.args.names.now c.args.marks.now) c.args.listed.now c.loop-name.name-index _ c.is_marked_name.result c.loop-name-test.true c.loop-name.invariant c.is_marked_name.ensures c.if-is_marked_name.false
