use Rattle.std.proofs.Common.{◌≡◌, ap, subst, ◌∙◌}
use Rattle.fabric.specs.Owned.{IsOwnIngress}
use Rattle.p414_sem.specs.CalculatedFields.{fails_verification}
use Rattle.p414_pipe_run.specs.Packed.{own14, packed_ingress}
use Rattle.p414_pipe_run.specs.Prepared.{Prepared, Running, comes_to, setting_of}
use Rattle.p414_pipe_run.specs.internal.Ending.{ingress_answer}
use Rattle.p414_pipe_run.proofs.Passing.{through_ends, through_leaves}
use Rattle.p414_pipe_run.proofs.passes.Passes14.go_through.Goals as goal

pub returns-clause-is : goal.returns-clause-is
returns-clause-is c =
    let first : c.self.inside.ready.now ≡ c.args.self.now.prepared = ap (λ (r : Running). r.prepared) c.self.view_is in
    let same : c.self-2.inside.ready.now ≡ c.args.self.now.prepared = ap (λ (r : Running). r.prepared) c.self-2.view_is ∙ c.in_ok-run_ingress.ensures.prepared in
    through_ends c.args.self.now.prepared c.args.held.packet c.run_ingress.new.packet c.args.self.now.between.store c.run_ingress.new.self.between c.args.held.failed c.in_ok-fails.field-0 c.in_ok-ended.ended c.if-failed.false
    (c.in_ok-fails.ensures ∙ ap (λ (q : Prepared). fails_verification q.loaded.decls (comes_to q) c.args.held.packet.state) first)
    c.if-branch.false c.in_ok-run_ingress.ensures.ran
    (c.in_ok-ended.ensures.is ∙ ap (λ (q : Prepared). packed_ingress q.loaded.decls (ingress_answer q.loaded.decls (comes_to q) c.run_ingress.new.packet.state)) same)

pub returns-clause-left : goal.returns-clause-left
returns-clause-left c =
    let first : c.self.inside.ready.now ≡ c.args.self.now.prepared = ap (λ (r : Running). r.prepared) c.self.view_is in
    through_leaves c.args.self.now.prepared c.args.held.packet c.run_ingress.new.packet c.args.self.now.between.store c.run_ingress.new.self.between c.args.held.failed c.in_ok-fails.field-0 c.if-failed.false
    (c.in_ok-fails.ensures ∙ ap (λ (q : Prepared). fails_verification q.loaded.decls (comes_to q) c.args.held.packet.state) first)
    c.if-branch.false c.in_ok-run_ingress.ensures.ran

pub returns-clause-own : goal.returns-clause-own
returns-clause-own c =
    let same : c.self-2.inside.ready.now ≡ c.args.self.now.prepared = ap (λ (r : Running). r.prepared) c.self-2.view_is ∙ c.in_ok-run_ingress.ensures.prepared in
    subst (λ (q : Prepared). IsOwnIngress (own14 (setting_of q)) c.in_ok-ended.ended) same c.in_ok-ended.ensures.own
