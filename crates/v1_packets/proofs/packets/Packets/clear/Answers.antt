use Rattle.v1_packets.proofs.Begun.{cleared}
use Rattle.v1_packets.proofs.packets.Packets.clear.Goals as goal

pub returns-clause-cleared : goal.returns-clause-cleared
returns-clause-cleared c =
    cleared c.args.self.now c.args.frame.now c.clear_requests.new.self c.clear_events.new.self c.clear_requests.ensures c.clear_events.ensures
