use Rattle.std.proofs.Common.{◌≡◌, drop}
use Rattle.v1_pass_slots.specs.Lists.{is_listed}
use Rattle.v1_pass_slots.proofs.slots.is_among.Given as goal

abbrev pub invariant-loop-number : goal.invariant-loop-number
invariant-loop-number l = is_listed l.list (drop l.number-index l.numbers) ≡ is_listed l.list l.numbers
