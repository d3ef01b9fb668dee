use Rattle.fabric.proofs.Tracing.{same_traces_of}
use Rattle.fabric.proofs.laws.same_traces.Goals as goal

pub returns : goal.returns
returns g c = λ name sessions ports s t same.
    same_traces_of (g.T.Twins.same_state name) (g.T.Twins.same_kept name) (g.T.Twins.same_held name) g.T.Twins.fit g.T.Twins.first_events g.T.Twins.second_events (g.met.T.Twins.events name) sessions ports (g.T.Twins.first name) (g.T.Twins.second name) (g.met.T.Twins.steps name) s t same
