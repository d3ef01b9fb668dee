use Rattle.std.proofs.Common.{refl}
use Rattle.p414_flat_check.proofs.FieldSets.{added_by}
use Rattle.p414_flat_check.proofs.calculated.FieldSet.add.Goals as goal

pub returns : goal.returns
returns c =
    added_by c.self.inside.set.keys c.insert_full.new.self.keys c.args.self.now _ c.key_of-key.result c.args.field.now c.self.view_is refl c.key_of-key.ensures c.in_ok-insert_full.ensures.keys
