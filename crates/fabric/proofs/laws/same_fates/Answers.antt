use Rattle.fabric.proofs.SameRuns.{same_fates_of}
use Rattle.fabric.proofs.laws.same_fates.Goals as goal

pub returns : goal.returns
returns g c = λ name sessions ports s t same.
    same_fates_of (g.T.Twins.same_state name) (g.T.Twins.same_kept name) (g.T.Twins.same_held name) g.T.Twins.fit sessions ports (g.T.Twins.first name) (g.T.Twins.second name) (g.met.T.Twins.steps name) s t same
