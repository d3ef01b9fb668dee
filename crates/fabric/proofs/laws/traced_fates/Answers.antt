use Rattle.fabric.proofs.Tracing.{fate_told}
use Rattle.fabric.proofs.laws.traced_fates.Goals as goal

pub returns : goal.returns
returns g c = λ setting sessions bound state before arrival.
    fate_told g.P.Passes.events_of (g.P.Passes.machine setting) sessions bound state before arrival
