use Rattle.std.proofs.Common.{◌≡◌, ◌++◌, map, flat_map, sum_by}
use Rattle.p416_uses.specs.Variables.{listed, seen_variable, variables_in}
use Rattle.p416_uses.proofs.variables.variables_of.Given as goal

abbrev pub invariant-loop-next : goal.invariant-loop-next
invariant-loop-next l = map seen_variable l.found.items ++ flat_map variables_in l.left ≡ variables_in l.body

abbrev pub decreases-loop-next : goal.decreases-loop-next
decreases-loop-next l = sum_by listed l.left
