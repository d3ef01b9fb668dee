use Rattle.std.proofs.Common.{◌≡◌, ◌++◌, map, reverse}
use Rattle.v1_layout.specs.Left.{left_at}
use Rattle.v1_layout.proofs.values.push_all.Given as goal

abbrev pub invariant-loop-kind : goal.invariant-loop-kind
invariant-loop-kind l = l.left ≡ map (left_at l.depth) (reverse (map (λ x. x.now) l.yielded)) ++ l.fn.left
