use Rattle.std.proofs.Common.{arith}
use Rattle.p414_expanded_check.proofs.Answering.{wrong_is, none_is, next_place, same_among, exact_true, exact_false}
use Rattle.p414_expanded_check.proofs.expanded.is_refused_somewhere.Goals as goal

pub returns-then-branch : goal.returns-then-branch
returns-then-branch c = wrong_is c.args.names.now _ c.args.passes.now c.requires.passes (exact_true c.in_ok-is_refused_at.field-0 c.in_ok-is_refused_at.ensures c.if-branch.true)

pub loop-place-preserved : goal.loop-place-preserved
loop-place-preserved c =
    next_place c.args.names.now c.loop-place.place-index _ c.loop-place.invariant (same_among _ c.loop-place.place-index) (exact_false c.in_ok-is_refused_at.field-0 c.in_ok-is_refused_at.ensures c.if-branch.false)

pub returns : goal.returns
returns c = none_is c.args.names.now c.requires.known (λ p h. c.loop-place.invariant p (omega (arith, h, c.loop-place-test.false)))
