use Rattle.std.proofs.Common.{ap, sym, ◌∙◌}
use Rattle.p414_syntax.specs.Arguments.{action_number}
use Rattle.p414_action_check.proofs.Answering.{own_primitive}
use Rattle.p414_action_check.proofs.counts.own_count.Goals as goal

pub returns-in-None : goal.returns-in-None
returns-in-None c =
    c.primitive_count.ensures
    ∙ own_primitive c.args.names.now c.args.inputs.now c.args.call.now (ap (action_number c.args.names.now) (sym c.callee.ensures) ∙ (sym c.action_number.ensures ∙ cc c.in-None.is))
