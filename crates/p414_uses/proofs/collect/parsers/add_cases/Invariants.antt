use Rattle.std.proofs.Common.{◌≡◌, ◌++◌, map, drop}
use Rattle.std.specs.List.{flat_map}
use Rattle.p414_syntax.specs.Uses.{uses_of_case}
use Rattle.p414_uses.specs.Shown.{shown_use}
use Rattle.p414_uses.proofs.collect.parsers.add_cases.Given as goal

abbrev pub invariant-loop-case : goal.invariant-loop-case
invariant-loop-case l = map shown_use l.found.items ++ flat_map uses_of_case (drop l.case-index l.cases) ≡ map shown_use l.fn.found.items ++ flat_map uses_of_case l.cases
