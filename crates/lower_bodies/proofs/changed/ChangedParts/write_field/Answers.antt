use Rattle.lower_bodies.proofs.Sets.{written_now}
use Rattle.lower_bodies.proofs.changed.ChangedParts.write_field.Goals as goal

pub returns : goal.returns
returns c = written_now c.args.self.now c.insert.new.self c.insert-2.new.self c.insert-3.new.self c.args.instance c.args.element c.args.field c.in_ok-insert.ensures.updates.0 c.in_ok-insert-2.ensures.updates.0 c.in_ok-insert-3.ensures.updates.0
