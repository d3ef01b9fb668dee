use Rattle.p414_flat_check.proofs.FieldSets.{has_by}
use Rattle.p414_flat_check.proofs.calculated.FieldSet.has.Goals as goal

pub returns : goal.returns
returns c = has_by c.self.inside.set.keys _ c.key_of-key.result _ _ c.contains.ensures c.key_of-key.ensures c.self.view_is
