use Rattle.std.proofs.Common.{◌≡◌, ◌+◌, ◌≤◌, length, drop}
use Rattle.v1_ready_program.specs.Seen.{seen_seats}
use Rattle.v1_ready_statements.specs.Blocks.{parameter_seats}
use Rattle.v1_ready_locals.proofs.actions.seat_parameters.Given as goal

abbrev pub invariant-loop-left : goal.invariant-loop-left
invariant-loop-left g l = record {
  seats : seen_seats l.seats ≡ parameter_seats (g.S.Singles.block l.singles) (l.first + l.left) (drop l.left l.parameters) (seen_seats l.fn.seats);
  few : l.left ≤ length l.parameters;
}

abbrev pub decreases-loop-left : goal.decreases-loop-left
decreases-loop-left g l = l.left
