use Rattle.v1model_runner.proofs.Running.{behind_next, comes_next}
use Rattle.v1_passes.specs.Runs.{between_of}
use Rattle.v1model_runner.proofs.run.one_more.Goals as goal

pub returns-clause-next : goal.returns-clause-next
returns-clause-next c = λ s arrivals behind.
    comes_next s c.args.runner.now.passes.blocks.setting c.args.runner.now.bound arrivals c.args.arrival.now c.args.runner.now.sessions.now
    (between_of c.args.runner.now.passes.blocks.store c.args.runner.now.passes.work c.args.runner.now.passes.events)
    (between_of c.one.new.self.passes.blocks.store c.one.new.self.passes.work c.one.new.self.passes.events) c.in_ok-fate.fate.sent c.in_ok-fate.fate.cut behind
    c.in_ok-fate.ensures.fate (c.one_packet_more.ensures.goes_on s c.args.runner.now.bound arrivals c.args.arrival.now)

pub returns-clause-behind : goal.returns-clause-behind
returns-clause-behind c = λ s arrivals behind.
    behind_next s c.args.runner.now.passes.blocks.setting c.one.new.self.passes.blocks.setting c.args.runner.now.bound arrivals c.args.arrival.now
    c.args.runner.now.sessions.now c.one.new.self.sessions.now
    (between_of c.args.runner.now.passes.blocks.store c.args.runner.now.passes.work c.args.runner.now.passes.events)
    (between_of c.one.new.self.passes.blocks.store c.one.new.self.passes.work c.one.new.self.passes.events) c.in_ok-fate.fate.sent c.in_ok-fate.fate.cut behind
    c.in_ok-fate.ensures.fate (c.one_packet_more.ensures.goes_on s c.args.runner.now.bound arrivals c.args.arrival.now) c.in_ok-fate.ensures.setting
    c.in_ok-fate.ensures.sessions
