-- The cells of one object by its shape, and what one call does to them. A part that is given for another kind of
-- object stands only so that each function has all cases: no call of a store reaches it.
use Rattle.std.specs.Prelude.{◌≡◌, ℕ, ◌+◌, ◌%◌, ◌^◌, ◌<◌, ◌≤◌, List, [], ◌∷◌, ◌++◌, length, drop, replicate, All, slice_index, slice_index_or, slice_set}
use Rattle.state_store.specs.declared.shapes.Kind.{Kind}
use Rattle.state_store.specs.declared.shapes.Kind.TheVariants.{Packets, Bytes, Both}
use Rattle.state_store.specs.declared.shapes.Shape.{Shape}
use Rattle.state_store.specs.declared.shapes.Shape.TheVariants.{Counter, Direct, Register, Meter}
use Rattle.state_store.specs.declared.cells.Cells.{Cells}
use Rattle.state_store.specs.declared.cells.Cells.TheVariants.{Counts, Numbers, Colours}

-- how many cells an object has; of a meter, how many indexes take a colour
abbrev pub size_of : Shape → ℕ
size_of (Counter kind cells) = cells
size_of (Direct kind cells) = cells
size_of (Register width cells) = cells
size_of (Meter cells) = cells

-- what a counter counts
abbrev pub kind_of : Shape → Kind
kind_of (Counter kind cells) = kind
kind_of (Direct kind cells) = kind
kind_of (Register width cells) = Both
kind_of (Meter cells) = Both

-- how many bits a register's cells have
abbrev pub width_of : Shape → ℕ
width_of (Counter kind cells) = 0
width_of (Direct kind cells) = 0
width_of (Register width cells) = width
width_of (Meter cells) = 0

-- a counter of either form: one that actions count in by an index, or one of a table's entries
abbrev pub IsCounter : Shape → Type 0
IsCounter (Counter kind cells) = Unit {0}
IsCounter (Direct kind cells) = Unit {0}
IsCounter (Register width cells) = ⊥
IsCounter (Meter cells) = ⊥

-- a register
abbrev pub IsRegister : Shape → Type 0
IsRegister (Counter kind cells) = ⊥
IsRegister (Direct kind cells) = ⊥
IsRegister (Register width cells) = Unit {0}
IsRegister (Meter cells) = ⊥

-- a meter
abbrev pub IsMeter : Shape → Type 0
IsMeter (Counter kind cells) = ⊥
IsMeter (Direct kind cells) = ⊥
IsMeter (Register width cells) = ⊥
IsMeter (Meter cells) = Unit {0}

-- a new object: every cell is 0, and no colour was handed in
abbrev pub blank : Shape → Cells
blank (Counter kind cells) = Counts (replicate cells (0, 0))
blank (Direct kind cells) = Counts (replicate cells (0, 0))
blank (Register width cells) = Numbers (replicate cells 0)
blank (Meter cells) = Colours []

-- the counts of packets and of octets after one more packet of so many octets: what the kind doesn't
-- keep stays as it is (P4_14 1.0.5, "Counters"; v1model.p4, `counter.count`; the wrap at 64 bits is
-- this project's own)
abbrev pub counted : Kind → ℕ × ℕ → ℕ → ℕ × ℕ
counted Packets cell octets = ((cell.0 + 1) % 2 ^ 64, cell.1)
counted Bytes cell octets = (cell.0, (cell.1 + octets) % 2 ^ 64)
counted Both cell octets = ((cell.0 + 1) % 2 ^ 64, (cell.1 + octets) % 2 ^ 64)

-- one packet counted in a cell; an index out of range counts nothing
abbrev pub count_at : Kind → List (ℕ × ℕ) → ℕ → ℕ → List (ℕ × ℕ)
count_at kind cells index octets = slice_set cells index (counted kind (slice_index_or cells index (0, 0)) octets)

-- the same in the cells of an object
abbrev pub count_in : Kind → Cells → ℕ → ℕ → Cells
count_in kind (Counts cells) index octets = Counts (count_at kind cells index octets)
count_in kind (Numbers cells) index octets = Numbers cells
count_in kind (Colours left) index octets = Colours left

-- the counts of a cell; an index out of range has none
abbrev pub pair_in : Cells → ℕ → ℕ × ℕ
pair_in (Counts cells) index = slice_index_or cells index (0, 0)
pair_in (Numbers cells) index = (0, 0)
pair_in (Colours left) index = (0, 0)

-- the number of a cell; an index out of range reads 0 (P4_14 1.0.5, "Registers"; v1model.p4,
-- `register.read`; the 0 is this project's own)
abbrev pub read_in : Cells → ℕ → ℕ
read_in (Counts cells) index = 0
read_in (Numbers cells) index = slice_index cells index
read_in (Colours left) index = 0

-- a number written at the register's width; an index out of range writes nothing (P4_14 1.0.5,
-- "Registers"; v1model.p4, `register.write`)
abbrev pub write_at : ℕ → List ℕ → ℕ → ℕ → List ℕ
write_at width cells index value = slice_set cells index (value % 2 ^ width)

-- the same in the cells of an object
abbrev pub write_in : ℕ → Cells → ℕ → ℕ → Cells
write_in width (Counts cells) index value = Counts cells
write_in width (Numbers cells) index value = Numbers (write_at width cells index value)
write_in width (Colours left) index value = Colours left

-- the first colour left, and 0 where none is left (P4_14 1.0.5, "Meters"; v1model.p4,
-- `meter.execute_meter`; that colours are handed in is this project's own)
abbrev pub first_colour : List ℕ → ℕ
first_colour [] = 0
first_colour (colour ∷ left) = colour

-- the same of an object
abbrev pub colour_in : Cells → ℕ
colour_in (Counts cells) = 0
colour_in (Numbers cells) = 0
colour_in (Colours left) = first_colour left

-- the cells once the first colour left is taken
abbrev pub taken_in : Cells → Cells
taken_in (Counts cells) = Counts cells
taken_in (Numbers cells) = Numbers cells
taken_in (Colours left) = Colours (drop 1 left)

-- the cells once a colour is handed in
abbrev pub given_in : Cells → ℕ → Cells
given_in (Counts cells) colour = Counts cells
given_in (Numbers cells) colour = Numbers cells
given_in (Colours left) colour = Colours (left ++ colour ∷ [])

-- each item of the first list joined with that of the second at its place; one that has none stays
abbrev pub joined : {X : Type 0} → (X → X → X) → List X → List X → List X
joined join [] more = []
joined join (x ∷ xs) [] = x ∷ xs
joined join (x ∷ xs) (y ∷ more) = join x y ∷ joined join xs more

-- the sum of two counts, each at 64 bits
abbrev pub sum_of_counts : ℕ × ℕ → ℕ × ℕ → ℕ × ℕ
sum_of_counts a b = ((a.0 + b.0) % 2 ^ 64, (a.1 + b.1) % 2 ^ 64)

-- the sum of two counters, cell by cell
abbrev pub sum_of_cells : Cells → Cells → Cells
sum_of_cells (Counts cells) (Counts more) = Counts (joined sum_of_counts cells more)
sum_of_cells (Counts cells) _ = Counts cells
sum_of_cells (Numbers cells) _ = Numbers cells
sum_of_cells (Colours left) _ = Colours left

-- a count that a kind can have: a part that it doesn't keep is 0, any other below 2 ^ 64
abbrev pub IsCount : Kind → ℕ × ℕ → Type 0
IsCount Packets cell = (cell.0 < 2 ^ 64) × (cell.1 ≡ 0)
IsCount Bytes cell = (cell.0 ≡ 0) × (cell.1 < 2 ^ 64)
IsCount Both cell = (cell.0 < 2 ^ 64) × (cell.1 < 2 ^ 64)

-- cells of this shape: as many as it says, with numbers of its kind or width, and colours up to 2
abbrev pub FitsShape : Shape → Cells → Type 0
FitsShape (Counter kind size) (Counts cells) = (length cells ≡ size) × All (IsCount kind) cells
FitsShape (Direct kind size) (Counts cells) = (length cells ≡ size) × All (IsCount kind) cells
FitsShape (Register width size) (Numbers cells) = (length cells ≡ size) × All (λ number. number < 2 ^ width) cells
FitsShape (Meter size) (Colours left) = All (λ colour. colour ≤ 2) left
FitsShape _ _ = ⊥
