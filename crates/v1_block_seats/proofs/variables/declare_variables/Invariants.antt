use Rattle.std.proofs.Common.{◌≡◌, ◌++◌, map, reverse}
use Rattle.v1_ready_program.specs.Seen.{seen_seats}
use Rattle.v1_block_seats.specs.internal.Wanted.{named_own}
use Rattle.v1_block_seats.proofs.variables.declare_variables.Given as goal

abbrev pub invariant-loop-variable : goal.invariant-loop-variable
invariant-loop-variable l =
    seen_seats l.names ≡ map (named_own l.seats) (reverse (map (λ x. x.now) l.yielded)) ++ seen_seats l.fn.names
