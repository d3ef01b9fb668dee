use Rattle.std.proofs.Common.{◌≡◌, ◌++◌, map, length}
use Rattle.p416_syntax.specs.Totals.{size_value}
use Rattle.p416_syntax.specs.Uses.{arguments_of}
use Rattle.v1_ready_tables.proofs.defaults.literal_values.Given as goal

abbrev pub invariant-loop-argument : goal.invariant-loop-argument
invariant-loop-argument l = l.values ++ map size_value l.given ≡ map size_value (arguments_of l.arguments)

abbrev pub decreases-loop-argument : goal.decreases-loop-argument
decreases-loop-argument l = length l.given
