use Rattle.std.proofs.Common.{rules}
use Rattle.p416_scopes.specs.Seen.{seen_scope}
use Rattle.p416_uses.proofs.ControlUses.{head_told}
use Rattle.p416_uses.proofs.controls.see_action_head.Goals as goal

pub returns : goal.returns
returns c =
    head_told c.args.found.now c.see_notes.new.found c.see_parameter_names.new.found c.see_order.new.found c.see_parameters.new.found (seen_scope c.args.scope.now) c.args.action.now
    (search rules) (search rules) (search rules) (search rules)
