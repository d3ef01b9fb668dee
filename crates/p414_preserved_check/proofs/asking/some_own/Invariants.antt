use Rattle.std.proofs.Common.{◌≡◌, drop}
use Rattle.std.specs.List.{list_any}
use Rattle.p414_preserved_check.specs.internal.Marks.{own_has}
use Rattle.p414_preserved_check.specs.internal.Asking.{asked_of}
use Rattle.p414_preserved_check.proofs.asking.some_own.Given as goal

abbrev pub invariant-loop-item : goal.invariant-loop-item
invariant-loop-item l = list_any (own_has l.names (asked_of l.names l.sets l.asked)) (drop l.item-index l.items) ≡ list_any (own_has l.names (asked_of l.names l.sets l.asked)) l.items
