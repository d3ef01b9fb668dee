use Rattle.std.proofs.Common.{◌≡◌, ◌++◌, map, filter_map, drop}
use Rattle.p416_scopes.specs.Seen.{seen_scope}
use Rattle.v1_ready_tables.specs.internal.Listed.{seen_listed, listed_in}
use Rattle.v1_ready_tables.proofs.listed.listed_actions.Given as goal

abbrev pub invariant-loop-action : goal.invariant-loop-action
invariant-loop-action l =
    map seen_listed l.rows.items ++ filter_map (listed_in (seen_scope l.scope)) (drop l.action-index l.actions)
    ≡ filter_map (listed_in (seen_scope l.scope)) l.actions
