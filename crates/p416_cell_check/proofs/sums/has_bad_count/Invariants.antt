use Rattle.std.proofs.Common.{◌≡◌, drop}
use Rattle.std.specs.List.{list_any}
use Rattle.p416_syntax.specs.Totals.{is_bad_cell_count}
use Rattle.p416_cell_check.proofs.sums.has_bad_count.Given as goal

abbrev pub invariant-loop-count : goal.invariant-loop-count
invariant-loop-count l = list_any is_bad_cell_count (drop l.count-index l.counts) ≡ list_any is_bad_cell_count l.counts
