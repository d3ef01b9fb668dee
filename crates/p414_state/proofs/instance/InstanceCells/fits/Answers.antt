use Rattle.p414_state.proofs.Held.{fits_seen}
use Rattle.p414_state.proofs.instance.InstanceCells.fits.Goals as goal

pub returns : goal.returns
returns c = fits_seen c.self.inside.shape c.self.inside.elements.items c.self.inside.place c.args.self.now c.self.view_is c.self.invariant
