use Rattle.std.proofs.Common.{◌≡◌, length}
use Rattle.digraph.specs.internal.Search.{up_to}
use Rattle.digraph.proofs.search.drop_greater.Given as goal

abbrev pub invariant-loop-number : goal.invariant-loop-number
invariant-loop-number l = up_to l.most l.numbers ≡ up_to l.most l.fn.numbers

abbrev pub decreases-loop-number : goal.decreases-loop-number
decreases-loop-number l = length l.numbers
