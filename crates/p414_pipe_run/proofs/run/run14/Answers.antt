use Rattle.std.proofs.Common.{◌%◌, ◌^◌, refl, ap, ◌∙◌}
use Rattle.fabric.specs.Fabric.{fabric_of}
use Rattle.p414_pipe_run.specs.Packed.{packed_machine}
use Rattle.p414_pipe_run.specs.Prepared.{Running, setting_of}
use Rattle.p414_pipe_run.proofs.Running.{first_of, fresh, ran_as}
use Rattle.p414_pipe_run.proofs.run.run14.Goals as goal

pub returns : goal.returns
returns c =
    ran_as c.args.program.now.decls c.args.rule c.args.entries.now c.in_ok-ready.ready c.as_slice.result.now c.in_ok-store.store c.args.bound c.args.arrivals.now c.in_ok-total.total.sent c.in_ok-total.total.cut c.serve_all.new.passes.between c.into_store.result
    c.in_ok-ready.ensures.loaded c.in_ok-ready.ensures.expanded c.as_slice.ensures
    (first_of c.args.program.now.decls c.in_ok-signature.signature c.args.entries.now c.in_ok-store.store c.in_ok-signature.ensures c.in_ok-store.ensures.first)
    (c.packed_runs_as_the_program.ensures.fates (setting_of c.in_ok-ready.ready) c.as_slice.result.now (fresh c.in_ok-store.store) (fresh c.in_ok-store.store) refl c.args.bound c.args.arrivals.now (λ k a lt. (tt, tt)))
    (c.in_ok-total.ensures.sent ∙ ap (λ (r : Running). (fabric_of (packed_machine (setting_of r.prepared)) c.as_slice.result.now c.args.bound r.between c.args.arrivals.now).sent) c.new-passes.ensures)
    (c.in_ok-total.ensures.cut ∙ ap (λ (r : Running). (fabric_of (packed_machine (setting_of r.prepared)) c.as_slice.result.now c.args.bound r.between c.args.arrivals.now).cut % 2 ^ 64) c.new-passes.ensures)
    (c.in_ok-total.ensures.state ∙ ap (λ (r : Running). (fabric_of (packed_machine (setting_of r.prepared)) c.as_slice.result.now c.args.bound r.between c.args.arrivals.now).state) c.new-passes.ensures)
    c.into_store.ensures
