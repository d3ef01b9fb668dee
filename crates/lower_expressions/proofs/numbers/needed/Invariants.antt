use Rattle.std.proofs.Common.{◌≡◌, ◌-◌}
use Rattle.lower_laws_actions.specs.Mirror.{needed, needed_from}
use Rattle.lower_expressions.proofs.numbers.needed.Given as goal

-- how many are left to try
abbrev pub invariant-loop-width : goal.invariant-loop-width
invariant-loop-width l = needed_from (128 - l.width) l.width l.value ≡ needed l.value
