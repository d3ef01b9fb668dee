use Rattle.std.proofs.Common.{List, map, filter_map, ap, ◌∙◌}
use Rattle.p416_syntax.specs.declared.controls.Local.{Local}
use Rattle.p416_syntax.specs.Declarations.{action_in}
use Rattle.p416_scopes.specs.Seen.{seen_scope}
use Rattle.p416_action_check.specs.internal.Nodes.{action_node}
use Rattle.p416_action_check.proofs.Calling.{control_by}
use Rattle.p416_action_check.proofs.cycles.has_call_cycle.Goals as goal

pub returns : goal.returns
returns c =
    control_by c.lead_back.result c.args.top.now c.args.places.now c.args.control.now c.as_slice.result.now c.of_name-positions.result.now (seen_scope c.in_ok-scope.scope) c.deref.result.now c.as_slice.ensures c.of_name-positions.ensures c.in_ok-scope.ensures.scope
    (c.deref.ensures.value ∙ (c.in_ok-nodes.ensures ∙ ap (λ (locals : List Local). map (action_node (seen_scope c.in_ok-scope.scope)) (filter_map action_in locals)) c.as_slice-2.ensures)) c.lead_back.ensures
