use Rattle.std.proofs.Common.{◌≡◌, ◌++◌, map, drop}
use Rattle.std.specs.List.{flat_map}
use Rattle.p414_syntax.specs.Uses.{uses_of_item}
use Rattle.p414_uses.specs.Shown.{shown_use}
use Rattle.p414_uses.proofs.collect.lists.add_items.Given as goal

abbrev pub invariant-loop-item : goal.invariant-loop-item
invariant-loop-item l = map shown_use l.found.items ++ flat_map uses_of_item (drop l.item-index l.items) ≡ map shown_use l.fn.found.items ++ flat_map uses_of_item l.items
