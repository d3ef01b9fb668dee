use Rattle.std.proofs.Common.{◌≡◌, drop}
use Rattle.match_core.specs.internal.Groups.{prefix_in}
use Rattle.match_core.proofs.groups.prefix_in.Given as goal

abbrev pub invariant-loop-i : goal.invariant-loop-i
invariant-loop-i l = prefix_in (drop l.i l.specs) (drop l.i l.numbers) ≡ prefix_in l.specs l.numbers
