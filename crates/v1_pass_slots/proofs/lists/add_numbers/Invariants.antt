use Rattle.std.proofs.Common.{◌≡◌, ◌++◌, drop}
use Rattle.v1_pass_slots.specs.Lists.{small_numbers}
use Rattle.v1_pass_slots.proofs.lists.add_numbers.Given as goal

abbrev pub invariant-loop-number : goal.invariant-loop-number
invariant-loop-number l = l.lists ++ small_numbers (drop l.number-index l.numbers) ≡ l.fn.lists ++ small_numbers l.numbers
