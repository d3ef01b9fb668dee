use Rattle.p414_numbers.proofs.OwnedSets.{added}
use Rattle.p414_numbers.specs.internal.Owned.{octets_of}
use Rattle.p414_numbers.proofs.owned_names.OwnedNames.add.Goals as goal

pub returns : goal.returns
returns c =
    added octets_of c.args.self.now c.self.inside.set.keys c.insert_full.new.self.keys c.in_ok-copied.copied c.args.name.now c.self.view_is c.in_ok-copied.ensures.items c.requires c.in_ok-insert_full.ensures.keys
