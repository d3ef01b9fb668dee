use Rattle.std.proofs.Common.{◌≡◌, sym, ap, ◌∙◌}
use Rattle.p414_pipe_run.specs.Packed.{packed_egress}
use Rattle.p414_pipe_run.specs.Prepared.{Prepared, Running, comes_to}
use Rattle.p414_pipe_run.specs.internal.Ending.{egress_answer}
use Rattle.p414_pipe_run.proofs.Passing.{out_ends, out_leaves}
use Rattle.p414_pipe_run.proofs.passes.Passes14.go_out.Goals as goal

pub returns-clause-is : goal.returns-clause-is
returns-clause-is c =
    let same : c.self.inside.ready.now ≡ c.args.self.now.prepared = ap (λ (r : Running). r.prepared) c.self.view_is ∙ c.in_ok-run_egress.ensures.prepared in
    out_ends c.args.self.now.prepared c.args.packet.now c.begin_egress.new.state c.run_egress.new.packet c.args.self.now.between.store c.run_egress.new.self.between c.args.port c.args.kind c.in_ok-ended.ended c.in_ok-begin_egress.ensures c.in_ok-run_egress.ensures.ran
    (c.in_ok-ended.ensures.is ∙ ap (λ (q : Prepared). packed_egress q.loaded.decls (egress_answer q.loaded.decls (comes_to q) c.run_egress.new.packet.state)) same)

pub returns-clause-left : goal.returns-clause-left
returns-clause-left c =
    out_leaves c.args.self.now.prepared c.args.packet.now c.begin_egress.new.state c.run_egress.new.packet c.args.self.now.between.store c.run_egress.new.self.between c.args.port c.args.kind c.in_ok-begin_egress.ensures c.in_ok-run_egress.ensures.ran

pub returns-clause-layout : goal.returns-clause-layout
returns-clause-layout c =
    c.in_ok-ended.ensures.layout ∙ (c.in_ok-run_egress.ensures.ran.layout ∙ sym c.requires.layout)
