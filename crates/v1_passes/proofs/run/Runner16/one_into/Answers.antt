use Rattle.std.proofs.Common.{ap}
use Rattle.v1_passes.specs.Runs.{between_of}
use Rattle.v1_passes.proofs.Ends.{between_same}
use Rattle.v1_passes.proofs.Twins.{one_fate_later}
use Rattle.v1_passes.proofs.run.Runner16.one_into.Goals as goal

pub returns-clause-fate : goal.returns-clause-fate
returns-clause-fate g c =
    let old = c.args.self.now in
    let now = c.reuse.new.self in
    let last = c.serve_into.new.passes in
    one_fate_later (g.B.Blocks.setting old.passes.blocks) (g.B.Blocks.setting now.blocks) old.sessions.now old.bound
    (between_of (g.B.Blocks.store old.passes.blocks) old.passes.work old.passes.events) (between_of (g.B.Blocks.store now.blocks) now.work now.events)
    c.args.arrival.now (record { state = between_of (g.B.Blocks.store last.blocks) last.work last.events; sent = c.serve_into.new.fate.sent; cut = c.serve_into.new.fate.cut })
    (ap g.B.Blocks.setting c.reuse.ensures.blocks)
    (between_same _ _ _ _ _ _ (ap g.B.Blocks.store c.reuse.ensures.blocks) c.reuse.ensures.work c.reuse.ensures.events)
    c.in_ok-serve_into.ensures.fate
