use Rattle.p416_listed_check.proofs.Pairing.{has_by}
use Rattle.p416_listed_check.proofs.pairs.PairSet.has.Goals as goal

pub returns : goal.returns
returns c = has_by c.self.inside.set.keys _ c.pair_of-key.result _ _ c.contains.ensures c.pair_of-key.ensures c.self.view_is
