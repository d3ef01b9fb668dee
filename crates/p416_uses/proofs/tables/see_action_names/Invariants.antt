use Rattle.std.proofs.Common.{◌≡◌, flat_map, drop}
use Rattle.p416_syntax.specs.Declarations.{action_name_uses}
use Rattle.p416_scopes.specs.Seen.{seen_scope}
use Rattle.p416_expression_uses.specs.Found.{after_all}
use Rattle.p416_uses.proofs.tables.see_action_names.Given as goal

abbrev pub invariant-loop-action : goal.invariant-loop-action
invariant-loop-action l = after_all l.found (flat_map (action_name_uses (seen_scope l.scope)) (drop l.action-index l.actions)) ≡ after_all l.fn.found (flat_map (action_name_uses (seen_scope l.scope)) l.actions)
