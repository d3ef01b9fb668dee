use Rattle.p414_syntax.specs.References.{referred}
use Rattle.p414_names.proofs.Sets.{added_by}
use Rattle.p414_names.proofs.name_set.NameSet.add.Goals as goal

pub returns : goal.returns
returns c = added_by referred c.args.self.now c.self.inside.set.keys c.insert_full.new.self.keys c.args.name c.in_ok-added.added c.self.view_is c.in_ok-added.ensures.added c.in_ok-added.ensures.keys
