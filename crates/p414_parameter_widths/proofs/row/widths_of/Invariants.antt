use Rattle.std.proofs.Common.{◌≡◌, ◌++◌, map, drop}
use Rattle.p414_parameter_widths.specs.internal.Noting.{width_of}
use Rattle.p414_parameter_widths.proofs.row.widths_of.Given as goal

abbrev pub invariant-loop-asked : goal.invariant-loop-asked
invariant-loop-asked l = l.widths ++ map width_of (drop l.asked-index l.row) ≡ map width_of l.row
