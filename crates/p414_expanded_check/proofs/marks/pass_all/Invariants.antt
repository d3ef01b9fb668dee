use Rattle.std.proofs.Common.{◌≡◌, drop}
use Rattle.p414_expanded_check.specs.internal.Flow.{with_passes}
use Rattle.p414_expanded_check.proofs.marks.pass_all.Given as goal

abbrev pub invariant-loop-pass : goal.invariant-loop-pass
invariant-loop-pass l = with_passes l.flags (drop l.pass-index l.passes) ≡ with_passes l.fn.flags l.passes
