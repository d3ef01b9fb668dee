use Rattle.std.proofs.Common.{◌≡◌}
use Rattle.p416_visits.specs.Left.{left_in, scope_behind, steps}
use Rattle.p416_visits.proofs.visits.Visits.next.Given as goal

abbrev pub invariant-loop-next : goal.invariant-loop-next
invariant-loop-next l =
    (left_in l.scope l.self.work ≡ left_in l.fn.scope l.fn.self.work)
    × (scope_behind l.scope l.self.work ≡ scope_behind l.fn.scope l.fn.self.work)
    × (l.scope.top ≡ l.fn.scope.top)

abbrev pub decreases-loop-next : goal.decreases-loop-next
decreases-loop-next l = steps l.self.work
