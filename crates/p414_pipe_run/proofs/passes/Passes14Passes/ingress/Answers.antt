use Rattle.std.proofs.Common.{◌≡◌, ap, subst, ◌∙◌}
use Rattle.fabric.specs.Owned.{IsOwnIngress}
use Rattle.p414_pipe_run.specs.Held.{shown_held}
use Rattle.p414_pipe_run.specs.Packed.{left_by, own14, packed_ingress}
use Rattle.p414_pipe_run.specs.Prepared.{Prepared, Running, setting_of}
use Rattle.p414_pipe_run.specs.internal.Ending.{after_held}
use Rattle.p414_pipe_run.proofs.Passing.{ingress_gives}
use Rattle.p414_pipe_run.proofs.passes.Passes14Passes.ingress.Goals as goal

pub returns-clause-gives : goal.returns-clause-gives
returns-clause-gives c =
    let later : c.hold.new.self.prepared ≡ c.args.self.now.prepared = ap (λ (r : Running). r.prepared) c.in_ok-held.ensures.forgotten in
    ingress_gives c.args.self.now.prepared c.args.item.now c.args.self.now.between c.hold.new.self.between c.go_through.new.self.between c.in_ok-held.held c.in_ok-ended.ended
    c.in_ok-held.ensures.is
    (ap (λ (r : Running). r.between.store) c.in_ok-held.ensures.forgotten)
    (c.in_ok-ended.ensures.is ∙ ap (λ (q : Prepared). packed_ingress q.loaded.decls (after_held (setting_of q) c.hold.new.self.between.store (shown_held c.in_ok-held.held)).answer) later)
    (c.in_ok-ended.ensures.left ∙ ap (λ (q : Prepared). left_by (after_held (setting_of q) c.hold.new.self.between.store (shown_held c.in_ok-held.held))) later)

pub returns-clause-own : goal.returns-clause-own
returns-clause-own c =
    subst (λ (q : Prepared). IsOwnIngress (own14 (setting_of q)) c.in_ok-ended.ended) (ap (λ (r : Running). r.prepared) c.in_ok-held.ensures.forgotten) c.in_ok-ended.ensures.own
