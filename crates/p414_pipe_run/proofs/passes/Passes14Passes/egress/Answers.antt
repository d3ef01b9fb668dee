use Rattle.std.proofs.Common.{◌≡◌, false, sym, ap, ◌∙◌}
use Rattle.p414_layout.specs.Shapes.{layout_of}
use Rattle.p414_sem.specs.Passes.{egress14}
use Rattle.p414_pipe_run.specs.Packed.{left_by, packed_egress}
use Rattle.p414_pipe_run.specs.Prepared.{Prepared, Running, setting_of}
use Rattle.p414_pipe_run.proofs.Passing.{egress_gives}
use Rattle.p414_pipe_run.proofs.passes.Passes14Passes.egress.Goals as goal

pub returns-clause-gives : goal.returns-clause-gives
returns-clause-gives c =
    let later : c.forget.new.self.prepared ≡ c.args.self.now.prepared = ap (λ (r : Running). r.prepared) c.forget.ensures in
    egress_gives c.args.self.now.prepared c.args.self.now.between c.forget.new.self.between c.keep.new.self.between c.args.held.packet c.args.held.failed c.args.port c.args.instance c.in_ok-ended.ended c.if-failed.false
    (ap (λ (r : Running). r.between.store) c.forget.ensures)
    (c.in_ok-ended.ensures.is ∙ ap (λ (q : Prepared). packed_egress q.loaded.decls (egress14 (setting_of q) c.forget.new.self.between.store (record { state = c.args.held.packet.state; failed = false }) c.args.port c.args.instance).answer) later)
    (ap (λ (r : Running). r.between) c.keep.ensures
    ∙ c.in_ok-ended.ensures.left ∙ ap (λ (q : Prepared). left_by (egress14 (setting_of q) c.forget.new.self.between.store (record { state = c.args.held.packet.state; failed = false }) c.args.port c.args.instance)) later)

pub keep-requires : goal.keep-requires
keep-requires c =
    c.in_ok-ended.ensures.layout
    ∙ (c.requires.own
    ∙ ap (λ (q : Prepared). layout_of q.loaded.decls) (sym (c.in_ok-ended.ensures.prepared ∙ ap (λ (r : Running). r.prepared) c.forget.ensures)))
