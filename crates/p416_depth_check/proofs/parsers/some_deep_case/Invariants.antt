use Rattle.std.proofs.Common.{◌≡◌, drop}
use Rattle.std.specs.List.{list_any}
use Rattle.p416_depth_check.specs.internal.Deep.{is_deep_case}
use Rattle.p416_depth_check.proofs.parsers.some_deep_case.Given as goal

abbrev pub invariant-loop-case : goal.invariant-loop-case
invariant-loop-case l = list_any is_deep_case (drop l.case-index l.cases) ≡ list_any is_deep_case l.cases
