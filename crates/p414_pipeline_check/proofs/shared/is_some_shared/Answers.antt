use Rattle.p414_pipeline_check.proofs.Applying.{shared_by}
use Rattle.p414_pipeline_check.proofs.shared.is_some_shared.Goals as goal

pub returns : goal.returns
returns c =
    shared_by c.args.controls.now c.in_ok-ingress.ingress.items c.in_ok-egress.egress.items c.deref.result.now c.deref-2.result.now c.some_both.result
    c.in_ok-ingress.ensures c.in_ok-egress.ensures c.deref.ensures.value c.deref-2.ensures.value c.some_both.ensures
