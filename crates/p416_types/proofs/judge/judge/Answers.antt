use Rattle.p416_types.proofs.Leaving.{t1_misnamed}
use Rattle.p416_types.proofs.judge.judge.Goals as goal

pub returns-then-branch : goal.returns-then-branch
returns-then-branch c = t1_misnamed c.args.syntax.now c.in_ok-is_misnamed_at_top.field-0 _ c.in_ok-is_misnamed_at_top.ensures c.if-branch.true c.refusal.ensures
