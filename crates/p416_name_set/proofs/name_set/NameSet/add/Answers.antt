use Rattle.p416_name_set.proofs.Sets.{added_by}
use Rattle.p416_name_set.proofs.name_set.NameSet.add.Goals as goal

pub returns : goal.returns
returns c = added_by (λ name. name.now) c.args.self.now c.self.inside.set.keys c.insert_full.new.self.keys c.args.name c.in_ok-added.added c.self.view_is c.in_ok-added.ensures.added c.in_ok-added.ensures.keys
