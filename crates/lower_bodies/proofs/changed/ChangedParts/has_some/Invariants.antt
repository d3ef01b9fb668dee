use Rattle.std.proofs.Common.{◌≡◌, false, take}
use Rattle.std.specs.List.{list_any}
use Rattle.lower_bodies.specs.Changed.{is_kept}
use Rattle.lower_bodies.specs.Apart.{number_in}
use Rattle.lower_bodies.proofs.changed.ChangedParts.has_some.Given as goal

abbrev pub invariant-loop-slot : goal.invariant-loop-slot
invariant-loop-slot l = list_any (λ slot. is_kept l.self (number_in slot)) (take l.slot-index l.slots) ≡ false
