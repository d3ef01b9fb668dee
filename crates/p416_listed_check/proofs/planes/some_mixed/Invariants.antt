use Rattle.std.proofs.Common.{◌≡◌, drop}
use Rattle.std.specs.List.{list_any}
use Rattle.p416_scopes.specs.Seen.{seen_scope}
use Rattle.p416_listed_check.specs.internal.Mixed.{is_mixed}
use Rattle.p416_listed_check.proofs.planes.some_mixed.Given as goal

abbrev pub invariant-loop-action : goal.invariant-loop-action
invariant-loop-action l = list_any (is_mixed (seen_scope l.scope) l.actions) (drop l.action-index l.actions) ≡ list_any (is_mixed (seen_scope l.scope) l.actions) l.actions
