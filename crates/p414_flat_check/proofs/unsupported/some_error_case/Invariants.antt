use Rattle.std.proofs.Common.{◌≡◌, drop}
use Rattle.std.specs.List.{list_any}
use Rattle.p414_syntax.specs.Unsupported.{is_error_case}
use Rattle.p414_flat_check.proofs.unsupported.some_error_case.Given as goal

abbrev pub invariant-loop-case : goal.invariant-loop-case
invariant-loop-case l = list_any is_error_case (drop l.case-index l.cases) ≡ list_any is_error_case l.cases
