use Rattle.std.proofs.Common.{◌∙◌, sym}
use Rattle.p414_numbers.proofs.OwnedSets.{found}
use Rattle.p414_numbers.specs.internal.Owned.{octets_of}
use Rattle.p414_numbers.proofs.owned_names.OwnedNames.find.Goals as goal

pub returns-in-Some : goal.returns-in-Some
returns-in-Some c =
    sym c.in-Some.is ∙ c.get_index_of.ensures.index ∙ found octets_of c.args.self.now c.self.inside.set.keys c.args.name.now c.self.view_is

pub returns-in-None : goal.returns-in-None
returns-in-None c =
    sym c.in-None.is ∙ c.get_index_of.ensures.index ∙ found octets_of c.args.self.now c.self.inside.set.keys c.args.name.now c.self.view_is
