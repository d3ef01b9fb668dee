use Rattle.std.proofs.Common.{map, ap, ◌∙◌}
use Rattle.v1_ready_operands.specs.Callees.{seen_action}
use Rattle.v1_ready_operands.specs.internal.Passes.{found_by}
use Rattle.v1_ready_operands.proofs.Naming.{action_is}
use Rattle.v1_ready_operands.proofs.callees.action_called.Goals as goal

pub returns : goal.returns
returns c =
    c.found_by.ensures
    ∙ (ap (found_by (map seen_action c.args.callees.actions.now)) c.find-number.ensures ∙ action_is c.args.callees c.requires c.args.name.now)
