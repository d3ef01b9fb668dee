use Rattle.std.proofs.Common.{drop}
use Rattle.lower_expressions.specs.Table.{words_in}
use Rattle.lower_primitives.specs.Has.{ItemsHave}
use Rattle.lower_primitives.proofs.fits.items_have.Given as goal

-- where those that are left have it, all have
abbrev pub invariant-loop-item : goal.invariant-loop-item
invariant-loop-item l = ItemsHave (words_in l.table) (drop l.item-index l.items) → ItemsHave (words_in l.table) l.items
