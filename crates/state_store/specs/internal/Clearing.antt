-- What clearing does to the cells of one object.
use Rattle.std.specs.Prelude.{[], length, replicate}
use Rattle.state_store.specs.declared.cells.Cells.{Cells}
use Rattle.state_store.specs.declared.cells.Cells.TheVariants.{Counts, Numbers, Colours}

-- as many cells, all 0, and no colours left
abbrev pub cleared : Cells → Cells
cleared (Counts cells) = Counts (replicate (length cells) (0, 0))
cleared (Numbers cells) = Numbers (replicate (length cells) 0)
cleared (Colours left) = Colours []
