use Rattle.fabric.proofs.QueueRuns.{few_fabric}
use Rattle.fabric.proofs.laws.few_packets.Goals as goal

pub returns-clause-sent : goal.returns-clause-sent
returns-clause-sent g c = λ setting sessions bound state arrival.
    (few_fabric (g.P.Passes.machine setting) sessions bound state arrival).0

pub returns-clause-cut : goal.returns-clause-cut
returns-clause-cut g c = λ setting sessions bound state arrival.
    (few_fabric (g.P.Passes.machine setting) sessions bound state arrival).1
