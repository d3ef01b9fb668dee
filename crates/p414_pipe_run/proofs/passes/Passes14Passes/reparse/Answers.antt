use Rattle.std.proofs.Common.{ap}
use Rattle.p414_pipe_run.specs.declared.held.Held14.{Held14}
use Rattle.p414_pipe_run.specs.Prepared.{Running}
use Rattle.p414_pipe_run.proofs.Passing.{reparse_gives}
use Rattle.p414_pipe_run.proofs.passes.Passes14Passes.reparse.Goals as goal

pub returns-clause-gives : goal.returns-clause-gives
returns-clause-gives c =
    reparse_gives c.args.self.now.prepared c.args.self.now.between c.hold.new.self.between c.args.item.now c.in_ok-held.held c.in_ok-held.ensures.is
    (ap (λ (r : Running). r.between) c.in_ok-held.ensures.forgotten)

pub returns-clause-own : goal.returns-clause-own
returns-clause-own c = ap (λ (h : Held14). h.packet.layout) c.in_ok-held.ensures.is
