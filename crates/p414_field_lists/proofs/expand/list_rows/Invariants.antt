use Rattle.std.proofs.Common.{◌≡◌, ◌++◌, drop}
use Rattle.p414_field_lists.specs.internal.Expanding.{list_rows}
use Rattle.p414_field_lists.proofs.expand.list_rows.Given as goal

abbrev pub invariant-loop-item : goal.invariant-loop-item
invariant-loop-item l = l.rows ++ list_rows l.slots l.ready (drop l.item-index l.items) ≡ list_rows l.slots l.ready l.items
