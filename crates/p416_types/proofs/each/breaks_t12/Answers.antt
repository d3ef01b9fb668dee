use Rattle.p416_types.proofs.Exactly.{t12_deep, t12_else}
use Rattle.p416_types.proofs.each.breaks_t12.Goals as goal

pub returns-then-branch : goal.returns-then-branch
returns-then-branch c = t12_deep c.args.syntax.now c.in_ok-some_too_deep.field-0 c.in_ok-some_too_deep.ensures c.if-branch.true

pub returns : goal.returns
returns c = t12_else c.args.syntax.now c.in_ok-some_too_deep.field-0 c.in_ok-large.large c.in_ok-some_too_deep.ensures c.if-branch.false c.in_ok-large.ensures
