use Rattle.std.proofs.Common.{arith}
use Rattle.std.proofs.lemmas.Grind.{common_steps}
use Rattle.p414_passes.proofs.Beginning.{put_done}
use Rattle.p414_passes.proofs.begin.put_kept.Goals as goal

pub returns : goal.returns
returns c =
    put_done c.args.kept.now c.sets-sets.result.now c.loop-place.place c.loop-place.state c.args.state.now (grind (arith, common_steps)) c.sets-sets.ensures c.loop-place.invariant.layout c.loop-place.invariant.put c.requires.fits
