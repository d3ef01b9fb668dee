use Rattle.p416_name_set.proofs.Repeating.{new_now, found_now}
use Rattle.p416_name_set.proofs.repeated.is_repeated.Goals as goal

pub loop-name-preserved : goal.loop-name-preserved
loop-name-preserved c = new_now (λ name. name.now) c.args.names.now c.loop-name.name-index _ _ _ c.in_ok-is_seen.field-0 _ c.loop-name-test.true c.if-branch.false c.in_ok-is_seen.ensures c.loop-name.invariant

pub returns-then-branch : goal.returns-then-branch
returns-then-branch c = found_now (λ name. name.now) c.args.names.now c.loop-name.name-index _ _ _ c.in_ok-is_seen.field-0 _ c.loop-name-test.true c.if-branch.true c.in_ok-is_seen.ensures c.loop-name.invariant
