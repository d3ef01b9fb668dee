use Rattle.std.proofs.Common.{◌≡◌, drop}
use Rattle.std.specs.Prelude.{nat_lt}
use Rattle.p416_syntax.specs.Totals.{cell_sum}
use Rattle.p416_cell_check.proofs.sums.are_too_many.Given as goal

abbrev pub invariant-loop-count : goal.invariant-loop-count
invariant-loop-count l = nat_lt l.left (cell_sum (drop l.count-index l.counts)) ≡ nat_lt 4194304 (cell_sum l.counts)
