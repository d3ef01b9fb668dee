use Rattle.std.proofs.Common.{refl}
use Rattle.p416_listed_check.proofs.Pairing.{added_by}
use Rattle.p416_listed_check.proofs.pairs.PairSet.add.Goals as goal

pub returns : goal.returns
returns c =
    added_by c.self.inside.set.keys c.insert_full.new.self.keys c.args.self.now _ c.pair_of-key.result (c.args.called.now, c.args.action.now) c.self.view_is refl c.pair_of-key.ensures c.in_ok-insert_full.ensures.keys
