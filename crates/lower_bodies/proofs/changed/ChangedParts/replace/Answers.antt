use Rattle.lower_bodies.proofs.Sets.{replaced_now}
use Rattle.lower_bodies.proofs.changed.ChangedParts.replace.Goals as goal

pub returns : goal.returns
returns c = replaced_now c.args.self.now c.insert.new.self c.insert-2.new.self c.args.instance c.args.element c.in_ok-insert.ensures.updates.0 c.in_ok-insert-2.ensures.updates.0
