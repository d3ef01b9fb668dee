use Rattle.std.proofs.Common.{◌≡◌, ◌++◌, map, drop}
use Rattle.p414_act_run.specs.Sums.{calculations, kept_calculation}
use Rattle.p414_act_run.proofs.making.calculation_rows.Given as goal

abbrev pub invariant-loop-decl : goal.invariant-loop-decl
invariant-loop-decl l = l.found ++ map (kept_calculation l.names) (calculations (drop l.decl-index l.decls)) ≡ map (kept_calculation l.names) (calculations l.decls)
