use Rattle.std.proofs.Common.{◌≡◌, ◌++◌, map, filter_map, drop}
use Rattle.p416_syntax.specs.Declarations.{top_names}
use Rattle.p416_scopes.specs.Seen.{seen_scope}
use Rattle.p416_signature.specs.internal.Gathered.{listed_row, seen_listed}
use Rattle.p416_signature.proofs.actions.listed_actions.Given as goal

abbrev pub invariant-loop-action : goal.invariant-loop-action
invariant-loop-action l =
    map (seen_listed (top_names l.scope.top.now)) l.rows.items ++ filter_map (listed_row (seen_scope l.scope).names) (drop l.action-index l.actions)
    ≡ filter_map (listed_row (seen_scope l.scope).names) l.actions
