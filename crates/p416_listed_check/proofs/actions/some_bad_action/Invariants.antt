use Rattle.std.proofs.Common.{◌≡◌, drop}
use Rattle.std.specs.List.{list_any}
use Rattle.p416_syntax.specs.Tables.{is_bad_action}
use Rattle.p416_scopes.specs.Seen.{seen_scope}
use Rattle.p416_listed_check.specs.Listings.{AreGiven}
use Rattle.p416_listed_check.proofs.actions.some_bad_action.Given as goal

abbrev pub invariant-loop-action : goal.invariant-loop-action
invariant-loop-action l = (list_any (is_bad_action (seen_scope l.scope)) (drop l.action-index l.actions) ≡ list_any (is_bad_action (seen_scope l.scope)) l.actions) × AreGiven (seen_scope l.scope) l.given
