use Rattle.p416_scopes.specs.Seen.{seen_scope}
use Rattle.p416_uses.proofs.Turns.{assigned_seen}
use Rattle.p416_uses.proofs.statements.see_assignment.Goals as goal

pub returns : goal.returns
returns c =
    assigned_seen _ _ _ (seen_scope c.args.scope.now) c.args.target.now c.args.value.now _ _ c.in_ok-kind.ensures.found c.in_ok-kind.ensures.kind c.assigned_place.ensures c.in_ok-see_at.ensures
