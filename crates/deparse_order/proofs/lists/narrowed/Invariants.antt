use Rattle.std.proofs.Common.{◌≡◌, take}
use Rattle.deparse_order.proofs.lists.narrowed.Given as goal

abbrev pub invariant-loop-number : goal.invariant-loop-number
invariant-loop-number l = l.narrowed ≡ take l.number-index l.numbers
