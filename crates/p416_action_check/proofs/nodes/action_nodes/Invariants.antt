use Rattle.std.proofs.Common.{◌≡◌, ◌++◌, map, filter_map, drop}
use Rattle.p416_syntax.specs.Declarations.{action_in}
use Rattle.p416_scopes.specs.Seen.{seen_scope}
use Rattle.p416_action_check.specs.internal.Nodes.{action_node}
use Rattle.p416_action_check.proofs.nodes.action_nodes.Given as goal

abbrev pub invariant-loop-declared : goal.invariant-loop-declared
invariant-loop-declared l =
    (l.nodes.items ++ map (action_node (seen_scope l.fn.scope)) (filter_map action_in (drop l.declared-index l.locals)) ≡ map (action_node (seen_scope l.fn.scope)) (filter_map action_in l.locals))
    × (seen_scope l.scope ≡ seen_scope l.fn.scope)
