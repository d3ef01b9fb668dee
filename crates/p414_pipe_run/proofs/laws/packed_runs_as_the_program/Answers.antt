use Rattle.std.proofs.Common.{refl, ap}
use Rattle.fabric.specs.Twins.{fit_any}
use Rattle.fabric.proofs.SameRuns.{fabric_alike, same_fates_of}
use Rattle.fabric.proofs.Tracing.{same_traces_of}
use Rattle.p414_sem.specs.Runs.{Between, events_of, machine14}
use Rattle.p414_pipe_run.specs.Packed.{Is, OneStore, Shows, packed_machine}
use Rattle.p414_pipe_run.proofs.Corresponding.{steps}
use Rattle.p414_pipe_run.proofs.laws.packed_runs_as_the_program.Goals as goal

pub returns-clause-fates : goal.returns-clause-fates
returns-clause-fates c = λ setting sessions s t same.
    same_fates_of OneStore Is Shows fit_any sessions (λ k l lt. tt) (packed_machine setting) (machine14 setting) (steps OneStore (λ a b is. is) (λ a. refl) setting) s t same

pub returns-clause-packet : goal.returns-clause-packet
returns-clause-packet c = λ setting sessions bound s t arrival same.
    fabric_alike OneStore Is Shows fit_any sessions (λ k l lt. tt) (packed_machine setting) (machine14 setting) (steps OneStore (λ a b is. is) (λ a. refl) setting) bound s t arrival same (tt, tt)

pub returns-clause-traces : goal.returns-clause-traces
returns-clause-traces c = λ setting sessions s.
    same_traces_of Is Is Shows fit_any events_of events_of (λ a b is. ap events_of is) sessions (λ k l lt. tt) (packed_machine setting) (machine14 setting) (steps Is (λ a b is. ap (λ (e : Between). e.store) is) (λ a. refl) setting) s s refl
