use Rattle.std.proofs.Common.{◌≡◌, map, take}
use Rattle.p416_syntax.specs.Tables.{action_plane}
use Rattle.p416_scopes.specs.Seen.{seen_scope}
use Rattle.p416_listed_check.proofs.planes.planes_of.Given as goal

abbrev pub invariant-loop-action : goal.invariant-loop-action
invariant-loop-action l = map (λ plane. plane.now) l.planes.items ≡ map (action_plane (seen_scope l.scope)) (take l.action-index l.actions)
