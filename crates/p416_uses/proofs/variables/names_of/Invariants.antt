use Rattle.std.proofs.Common.{◌≡◌, ◌++◌, map, drop}
use Rattle.p416_uses.specs.Variables.{declared_name, seen_variable}
use Rattle.p416_uses.proofs.variables.names_of.Given as goal

abbrev pub invariant-loop-variable : goal.invariant-loop-variable
invariant-loop-variable l = map (λ name. name.now) l.names.items ++ map declared_name (map seen_variable (drop l.variable-index l.variables)) ≡ map declared_name (map seen_variable l.variables)
