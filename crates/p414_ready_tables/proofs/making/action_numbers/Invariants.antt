use Rattle.std.proofs.Common.{◌≡◌, ◌++◌, map, drop}
use Rattle.p414_ready_tables.specs.Tables.{some_number}
use Rattle.p414_ready_tables.specs.internal.Defaults.{sig_number}
use Rattle.p414_ready_tables.proofs.making.action_numbers.Given as goal

abbrev pub invariant-loop-action : goal.invariant-loop-action
invariant-loop-action l =
    map some_number l.numbers ++ map (sig_number l.names) (drop l.action-index l.actions) ≡ map (sig_number l.names) l.actions
