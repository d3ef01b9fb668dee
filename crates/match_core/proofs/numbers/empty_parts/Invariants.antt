use Rattle.std.proofs.Common.{◌≡◌, length}
use Rattle.match_core.proofs.InParts.{AreEmpty}
use Rattle.match_core.proofs.numbers.empty_parts.Given as goal

abbrev pub invariant-loop : goal.invariant-loop
invariant-loop l = (length l.parts.items ≡ l.counter) × AreEmpty l.parts.items
