use Rattle.std.proofs.Common.{◌≡◌, ◌++◌, map, drop}
use Rattle.v1_block_laws.specs.Variables.{vars_from}
use Rattle.v1_block_seats.specs.Seen.{seen_variable}
use Rattle.v1_block_seats.proofs.numbers.parser_variables.Given as goal

abbrev pub invariant-loop-var : goal.invariant-loop-var
invariant-loop-var l =
    map seen_variable l.found.items ++ vars_from l.number (drop l.var-index l.vars) ≡ vars_from l.fn.first l.vars
