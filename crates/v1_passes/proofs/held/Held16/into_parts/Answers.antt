use Rattle.v1_passes.proofs.Ends.{held_parts}
use Rattle.v1_passes.proofs.held.Held16.into_parts.Goals as goal

pub returns-clause-value : goal.returns-clause-value
returns-clause-value c =
    held_parts c.self.inside.packets.now c.self.inside.frame.value c.self.inside.unparsed c.self.inside.port c.args.self c.self.view_is
