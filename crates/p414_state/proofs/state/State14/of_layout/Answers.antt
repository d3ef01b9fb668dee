use Rattle.std.proofs.Common.{rules}
use Rattle.p414_state.proofs.Instances.{new_seen}
use Rattle.p414_state.proofs.state.State14.of_layout.Goals as goal

pub returns : goal.returns
returns c =
    new_seen c.args.layout.now c.in_ok-instances.instances.items c.in_ok-kept.kept.items c.args.octets.now c.new.result.items c.length_of-length.result c.args.port c.args.kind
    c.in_ok-instances.ensures (search rules) c.length_of-length.ensures (search rules)
