use Rattle.fabric.proofs.Joining.{joined_runs, raised_runs}
use Rattle.fabric.proofs.laws.joined_arrivals.Goals as goal

pub returns-clause-joined : goal.returns-clause-joined
returns-clause-joined g c = λ setting sessions bound number state some more.
    joined_runs (g.P.Passes.machine setting) sessions bound number state some more

pub returns-clause-raised : goal.returns-clause-raised
returns-clause-raised g c = λ setting sessions bound by number state arrivals.
    raised_runs (g.P.Passes.machine setting) sessions bound by number state arrivals
