use Rattle.std.proofs.Common.{◌≡◌, ◌++◌, map, drop}
use Rattle.v1_ready_locals.specs.internal.Zipped.{number_in}
use Rattle.v1_ready_locals.proofs.own.numbers_of.Given as goal

abbrev pub invariant-loop-variable : goal.invariant-loop-variable
invariant-loop-variable l = l.numbers.items ++ map number_in (drop l.variable-index l.variables) ≡ map number_in l.variables
