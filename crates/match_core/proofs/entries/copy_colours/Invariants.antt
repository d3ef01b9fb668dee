use Rattle.std.proofs.Common.{◌≡◌, take}
use Rattle.match_core.proofs.entries.copy_colours.Given as goal

abbrev pub invariant-loop-one : goal.invariant-loop-one
invariant-loop-one l = l.copied ≡ take l.one-index l.colours
