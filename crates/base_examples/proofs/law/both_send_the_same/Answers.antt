use Rattle.std.proofs.Common.{refl}
use Rattle.base_examples.proofs.law.both_send_the_same.Goals as goal

pub returns-clause-fates : goal.returns-clause-fates
returns-clause-fates c = λ sessions count last. c.same_fates.ensures tt sessions (λ k d lt. tt) last (count, last) refl

pub returns-clause-traces : goal.returns-clause-traces
returns-clause-traces c = λ sessions count last. c.same_traces.ensures tt sessions (λ k d lt. tt) last (count, last) refl
