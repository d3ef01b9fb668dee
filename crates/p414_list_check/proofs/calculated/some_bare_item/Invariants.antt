use Rattle.std.proofs.Common.{◌≡◌, drop}
use Rattle.std.specs.List.{list_any}
use Rattle.p414_syntax.specs.Lists.{is_bare_item}
use Rattle.p414_list_check.proofs.calculated.some_bare_item.Given as goal

abbrev pub invariant-loop-item : goal.invariant-loop-item
invariant-loop-item l = list_any is_bare_item (drop l.item-index l.items) ≡ list_any is_bare_item l.items
