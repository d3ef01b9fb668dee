use Rattle.std.proofs.Common.{ℕ, ◌<◌}
use Rattle.digraph.specs.Graphs.{Among}
use Rattle.least_order.specs.Labelled.{labels_of}
use Rattle.least_order.proofs.counting.count_of.Given as goal

abbrev pub invariant-loop-row : goal.invariant-loop-row
invariant-loop-row l = (a x : ℕ) → a < l.row-index → Among x (labels_of l.labels a) → x < l.count
