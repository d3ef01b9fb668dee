-- What a store means: one list of cells for each object, and the colours left for each meter. An object is named by
-- its number, from 0, and a cell by its index. (P4_14 1.0.5, "Counters", "Meters" and "Registers"; v1model.p4. What an
-- index out of range does, and that a meter's colours are handed in, is this project's own.)
use Rattle.std.specs.Prelude.{◌≡◌, ℕ, ◌<◌, Bool, nat_lt, if◌then◌else◌, List, [], length, map, slice_index_or, slice_set}
use Rattle.state_store.specs.declared.shapes.Shape.{Shape}
use Rattle.state_store.specs.declared.shapes.Shape.TheVariants.{Meter}
use Rattle.state_store.specs.declared.cells.Cells.{Cells}
use Rattle.state_store.specs.declared.cells.Cells.TheVariants.{Colours}
use Rattle.state_store.specs.Cells.{size_of, kind_of, width_of, IsCounter, IsRegister, IsMeter, blank, count_in, pair_in, read_in, write_in, colour_in, taken_in, given_in, joined, sum_of_cells, FitsShape}

-- the shape of each object, and its cells or the colours that it has left
pub record Contents : Type 0 where
  pub shapes : List Shape
  pub cells : List Cells

-- the shape of the object with this number (past the last object none is meant)
abbrev pub shape_at : List Shape → ℕ → Shape
shape_at shapes object = slice_index_or shapes object (Meter 0)

-- its cells (past the last object none are meant)
abbrev pub cells_at : Contents → ℕ → Cells
cells_at store object = slice_index_or store.cells object (Colours [])

-- the store with other cells for one object
abbrev pub with_cells : Contents → ℕ → Cells → Contents
with_cells store object cells = record { shapes = store.shapes; cells = slice_set store.cells object cells }

-- a counter has this number
pub record IsCounterAt (shapes : List Shape) (object : ℕ) : Type 0 where
  pub within : object < length shapes
  pub counter : IsCounter (shape_at shapes object)

-- a register has this number
pub record IsRegisterAt (shapes : List Shape) (object : ℕ) : Type 0 where
  pub within : object < length shapes
  pub register : IsRegister (shape_at shapes object)

-- a meter has this number
pub record IsMeterAt (shapes : List Shape) (object : ℕ) : Type 0 where
  pub within : object < length shapes
  pub meter : IsMeter (shape_at shapes object)

-- the store of these objects in which all cells are 0 and no colours are left
abbrev pub new_store : List Shape → Contents
new_store shapes = record { shapes = shapes; cells = map blank shapes }

-- one more packet of so many octets, counted in one cell of a counter
abbrev pub count : Contents → ℕ → ℕ → ℕ → Contents
count store object index octets =
    with_cells store object (count_in (kind_of (shape_at store.shapes object)) (cells_at store object) index octets)

-- the packets and the octets that one cell of a counter counted
abbrev pub pair : Contents → ℕ → ℕ → ℕ × ℕ
pair store object index = pair_in (cells_at store object) index

-- the number in one cell of a register
abbrev pub read : Contents → ℕ → ℕ → ℕ
read store object index = read_in (cells_at store object) index

-- a number written to one cell of a register
abbrev pub write : Contents → ℕ → ℕ → ℕ → Contents
write store object index value =
    with_cells store object (write_in (width_of (shape_at store.shapes object)) (cells_at store object) index value)

-- whether the object has a cell of this index
abbrev pub has_cell : Contents → ℕ → ℕ → Bool
has_cell store object index = nat_lt index (size_of (shape_at store.shapes object))

-- the colour that an execution of a meter gives: the first that is left, and with an index out of range 0
abbrev pub colour : Contents → ℕ → ℕ → ℕ
colour store object index = if has_cell store object index then colour_in (cells_at store object) else 0

-- what such an execution leaves: with an index out of range all colours
abbrev pub colour_taken : Contents → ℕ → ℕ → Contents
colour_taken store object index =
    if has_cell store object index then with_cells store object (taken_in (cells_at store object)) else store

-- one more colour handed in for a meter, behind those that it has left
abbrev pub give : Contents → ℕ → ℕ → Contents
give store object colour = with_cells store object (given_in (cells_at store object) colour)

-- the sums of two stores of counters, cell by cell (this project's own)
abbrev pub sum_of_stores : Contents → Contents → Contents
sum_of_stores store more = record { shapes = store.shapes; cells = joined sum_of_cells store.cells more.cells }

-- a store whose cells are of their shapes, and whose numbers and colours are in their ranges
pub record IsStore (store : Contents) : Type 0 where
  pub lengths : length store.cells ≡ length store.shapes
  pub fits : (object : ℕ) → object < length store.shapes →
      FitsShape (shape_at store.shapes object) (cells_at store object)
