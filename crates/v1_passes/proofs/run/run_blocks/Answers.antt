use Rattle.std.proofs.Common.{◌%◌, ◌^◌, ap, ◌∙◌}
use Rattle.fabric.specs.Fabric.{Whole}
use Rattle.v1_core.specs.Passes.{Between}
use Rattle.v1_passes.specs.Runs.{between_of}
use Rattle.v1_passes.proofs.Ends.{between_same}
use Rattle.v1_passes.proofs.Twins.{run_of}
use Rattle.v1_passes.proofs.run.run_blocks.Goals as goal

pub returns-clause-sent : goal.returns-clause-sent
returns-clause-sent g c =
    c.in_ok-total.ensures.sent ∙ ap (λ (w : Whole Between). w.sent) (run_of (g.B.Blocks.setting c.args.blocks) (g.B.Blocks.setting c.new-passes.result.blocks) c.args.sessions.now c.args.bound
    (between_of (g.B.Blocks.store c.new-passes.result.blocks) c.new-passes.result.work c.new-passes.result.events) c.args.arrivals.now
    (ap g.B.Blocks.setting c.new-passes.ensures.blocks) c.requires.entries
    (between_same _ _ _ _ _ _ (ap g.B.Blocks.store c.new-passes.ensures.blocks ∙ c.requires.first) c.new-passes.ensures.work c.new-passes.ensures.events))

pub returns-clause-store : goal.returns-clause-store
returns-clause-store g c =
    c.into_store.ensures ∙ ap (λ (b : Between). b.store) c.in_ok-total.ensures.state ∙ ap (λ (w : Whole Between). w.state.store) (run_of (g.B.Blocks.setting c.args.blocks) (g.B.Blocks.setting c.new-passes.result.blocks) c.args.sessions.now c.args.bound
    (between_of (g.B.Blocks.store c.new-passes.result.blocks) c.new-passes.result.work c.new-passes.result.events) c.args.arrivals.now
    (ap g.B.Blocks.setting c.new-passes.ensures.blocks) c.requires.entries
    (between_same _ _ _ _ _ _ (ap g.B.Blocks.store c.new-passes.ensures.blocks ∙ c.requires.first) c.new-passes.ensures.work c.new-passes.ensures.events))

pub returns-clause-cut : goal.returns-clause-cut
returns-clause-cut g c =
    c.in_ok-total.ensures.cut ∙ ap (λ (w : Whole Between). w.cut % 2 ^ 64) (run_of (g.B.Blocks.setting c.args.blocks) (g.B.Blocks.setting c.new-passes.result.blocks) c.args.sessions.now c.args.bound
    (between_of (g.B.Blocks.store c.new-passes.result.blocks) c.new-passes.result.work c.new-passes.result.events) c.args.arrivals.now
    (ap g.B.Blocks.setting c.new-passes.ensures.blocks) c.requires.entries
    (between_same _ _ _ _ _ _ (ap g.B.Blocks.store c.new-passes.ensures.blocks ∙ c.requires.first) c.new-passes.ensures.work c.new-passes.ensures.events))

pub returns-clause-work : goal.returns-clause-work
returns-clause-work g c =
    c.work-work.ensures ∙ ap (λ (b : Between). b.work) c.in_ok-total.ensures.state ∙ ap (λ (w : Whole Between). w.state.work) (run_of (g.B.Blocks.setting c.args.blocks) (g.B.Blocks.setting c.new-passes.result.blocks) c.args.sessions.now c.args.bound
    (between_of (g.B.Blocks.store c.new-passes.result.blocks) c.new-passes.result.work c.new-passes.result.events) c.args.arrivals.now
    (ap g.B.Blocks.setting c.new-passes.ensures.blocks) c.requires.entries
    (between_same _ _ _ _ _ _ (ap g.B.Blocks.store c.new-passes.ensures.blocks ∙ c.requires.first) c.new-passes.ensures.work c.new-passes.ensures.events))
