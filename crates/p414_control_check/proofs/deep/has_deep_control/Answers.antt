use Rattle.std.proofs.Common.{sym, subst}
use Rattle.p414_control_check.specs.internal.Depths.{AreDepths}
use Rattle.p414_control_check.proofs.Deepening.{deep_is}
use Rattle.p414_control_check.proofs.deep.has_deep_control.Goals as goal

pub returns : goal.returns
returns c =
    deep_is c.args.controls.now c.deref.result.now c.some_too_deep.result
    (subst (λ ds. AreDepths c.args.controls.now ds) (sym c.deref.ensures.value) c.in_ok-depths.ensures) (sym c.some_too_deep.ensures)
