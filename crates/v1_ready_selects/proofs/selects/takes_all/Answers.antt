use Rattle.std.proofs.Common.{ℕ, ◌+◌, ap}
use Rattle.v1_ready_selects.specs.Seen.{seen_scalars}
use Rattle.v1_ready_selects.proofs.Places.{taken_on}
use Rattle.v1_ready_selects.proofs.selects.takes_all.Goals as goal

pub loop-test-preserved : goal.loop-test-preserved
loop-test-preserved c = record {
  taken =
      taken_on (seen_scalars c.args.keys.now) c.args.tests.now c.loop-test.test-index c.loop-test.place _ c.takes_at.result _ c.loop-test-test.true c.if-takes_at.true c.takes_at.ensures
      c.loop-test.invariant.taken;
  counted = ap (λ (n : ℕ). n + 1) c.loop-test.invariant.counted;
}
