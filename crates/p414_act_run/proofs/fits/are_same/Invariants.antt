use Rattle.p414_act_run.specs.Fits.{AreSame}
use Rattle.p414_act_run.proofs.fits.are_same.Given as goal

abbrev pub invariant-loop-field : goal.invariant-loop-field
invariant-loop-field l = AreSame l.state.layout l.first l.second l.field
