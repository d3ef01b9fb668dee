use Rattle.std.proofs.Common.{◌≡◌, ◌++◌, map, drop}
use Rattle.p416_names.specs.SeenKinds.{seen_kind}
use Rattle.v1_ready_selects.specs.Rows.{rows_of_cases}
use Rattle.v1_ready_selects.proofs.cases.rows_of_cases.Given as goal

abbrev pub invariant-loop-case : goal.invariant-loop-case
invariant-loop-case l = l.rows ++ rows_of_cases l.states (map seen_kind l.keys) (drop l.case-index l.cases) ≡ rows_of_cases l.states (map seen_kind l.keys) l.cases
