use Rattle.std.proofs.Common.{subst, sym, ◌∙◌, ap, ◌∷◌}
use Rattle.std.proofs.lemmas.Result.{on_ok_weaker}
use Rattle.v1_ready_bodies.specs.internal.Steps.{AreNodesIn}
use Rattle.v1_ready_bodies.proofs.cases.pass_behind.Goals as goal

pub returns-clause-within : goal.returns-clause-within
returns-clause-within c =
    on_ok_weaker c.push-2.result
    (λ so h within. subst (AreNodesIn h) (sym (so ∙ ap (λ made. c.take_made-default.result ∷ made) c.in_ok-push.ensures))
    (c.take_made-default.ensures.within h (c.take_made-body.ensures.others h within), (c.take_made-body.ensures.within h within, c.take_made-default.ensures.others h (c.take_made-body.ensures.others h within))))
    c.push-2.ensures
