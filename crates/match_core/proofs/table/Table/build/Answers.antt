use Rattle.match_core.proofs.table.Table.build.Goals as goal

pub invariant_of-result : goal.invariant_of-result
invariant_of-result c =
    (c.requires.few, rw c.in_ok-from_slice.ensures.items c.requires.fits, rw c.in_ok-from_slice.ensures.items c.in_ok-index.ensures)
