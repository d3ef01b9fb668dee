use Rattle.std.proofs.Common.{ℕ, ◌<◌, ◌≤◌, take}
use Rattle.digraph.specs.Graphs.{Among}
use Rattle.least_order.proofs.counting.above_all.Given as goal

abbrev pub invariant-loop-number : goal.invariant-loop-number
invariant-loop-number l = record {
  least : l.least ≤ l.count;
  above : (x : ℕ) → Among x (take l.number-index l.numbers) → x < l.count;
}
