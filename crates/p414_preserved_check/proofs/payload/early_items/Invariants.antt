use Rattle.std.proofs.Common.{◌≡◌, false, drop}
use Rattle.p414_preserved_check.specs.internal.Early.{early_items}
use Rattle.p414_preserved_check.proofs.payload.early_items.Given as goal

abbrev pub invariant-loop-item : goal.invariant-loop-item
invariant-loop-item l = early_items l.names l.pays l.fills l.paid (drop l.item-index l.items) ≡ early_items l.names l.pays l.fills false l.items
