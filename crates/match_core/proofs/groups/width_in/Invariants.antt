use Rattle.std.proofs.Common.{◌≡◌, drop}
use Rattle.match_core.specs.internal.Groups.{width_in}
use Rattle.match_core.proofs.groups.width_in.Given as goal

abbrev pub invariant-loop-i : goal.invariant-loop-i
invariant-loop-i l = width_in (drop l.i l.specs) ≡ width_in l.specs
