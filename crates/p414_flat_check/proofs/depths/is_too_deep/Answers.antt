use Rattle.p414_flat_check.proofs.Walking.{found_now}
use Rattle.p414_flat_check.proofs.depths.is_too_deep.Goals as goal

pub returns-then-next-eq0 : goal.returns-then-next-eq0
returns-then-next-eq0 c = found_now _ _ _ c.in-Some.ensures.items c.if-next-eq0.true _ c.loop-next.invariant
