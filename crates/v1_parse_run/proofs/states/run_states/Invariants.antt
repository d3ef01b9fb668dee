use Rattle.std.proofs.Common.{◌≡◌, ◌-◌}
use Rattle.v1_ready_states.specs.States.{parse_from}
use Rattle.v1_parse_run.specs.Made.{made_states}
use Rattle.v1_parse_run.specs.Working.{Works, made_of, moment_of}
use Rattle.v1_parse_run.proofs.states.run_states.Given as goal

abbrev pub invariant-loop : goal.invariant-loop
invariant-loop l = record {
  works : Works l.code l.frame l.store l.octets l.machine;
  same : parse_from (made_states (made_of l.code l.octets) l.states) (l.most - l.counter) l.number (moment_of l.frame l.store l.octets l.machine) ≡ parse_from (made_states (made_of l.code l.octets) l.states) l.most l.fn.first (moment_of l.fn.frame l.fn.store l.octets l.fn.machine);
}
