-- What objects do to a store leaves one of the program's.
use Rattle.std.proofs.Common.{ℕ, ◌<◌, ◌≤◌, true, false, Bool, cond, List, [], ◌∷◌, length, sym, subst, arith}
use Rattle.std.specs.Prelude.{All}
use Rattle.std.proofs.lemmas.List.Elements.{All-drop}
use Rattle.state_store.specs.declared.shapes.Shape.{Shape}
use Rattle.state_store.specs.declared.shapes.Shape.TheVariants.{Counter, Direct, Register, Meter}
use Rattle.state_store.specs.declared.cells.Cells.{Cells}
use Rattle.state_store.specs.declared.cells.Cells.TheVariants.{Counts, Numbers, Colours}
use Rattle.state_store.specs.Cells.{FitsShape, taken_in, colour_in}
use Rattle.state_store.specs.State.{Contents, shape_at, cells_at, with_cells, count, write, colour, colour_taken, has_cell}
use Rattle.state_store.proofs.Stores.{count_fits, write_fits, with_cells_is}
use Rattle.lower_laws_base.specs.Context.{Stored}

taken_fits : (shape : Shape) (cells : Cells) → FitsShape shape cells → FitsShape shape (taken_in cells)
taken_fits (Meter size) (Colours left) fits = All-drop (λ colour. colour ≤ 2) 1 left fits
taken_fits (Meter size) (Counts cells) fits = fits
taken_fits (Meter size) (Numbers cells) fits = fits
taken_fits (Counter kind size) (Counts cells) fits = fits
taken_fits (Counter kind size) (Numbers cells) fits = fits
taken_fits (Counter kind size) (Colours left) fits = absurd fits
taken_fits (Direct kind size) (Counts cells) fits = fits
taken_fits (Direct kind size) (Numbers cells) fits = fits
taken_fits (Direct kind size) (Colours left) fits = absurd fits
taken_fits (Register width size) (Counts cells) fits = fits
taken_fits (Register width size) (Numbers cells) fits = fits
taken_fits (Register width size) (Colours left) fits = absurd fits

-- other cells of its shape for one object
module _ (shapes : List Shape) (store : Contents) (stored : Stored shapes store) (object : ℕ) (lt : object < length shapes) where
  there : FitsShape (shape_at store.shapes object) (cells_at store object)
  there = stored.is_store.fits object (subst (λ (z : List Shape). object < length z) (sym stored.shapes_are) lt)

  with_cells_stored : (cells : Cells) → FitsShape (shape_at store.shapes object) cells → Stored shapes (with_cells store object cells)
  with_cells_stored cells fits = record { shapes_are = stored.shapes_are; is_store = with_cells_is store object cells stored.is_store fits }

  pub count_stored : (index octets : ℕ) → Stored shapes (count store object index octets)
  count_stored index octets = with_cells_stored _ (count_fits (shape_at store.shapes object) (cells_at store object) index octets there)

  pub write_stored : (index value : ℕ) → Stored shapes (write store object index value)
  write_stored index value = with_cells_stored _ (write_fits (shape_at store.shapes object) (cells_at store object) index value there)

  pub taken_stored : (index : ℕ) → Stored shapes (colour_taken store object index)
  taken_stored index = by (has_cell store object index) where
    by : (b : Bool) → Stored shapes (cond b (with_cells store object (taken_in (cells_at store object))) store)
    by true = with_cells_stored _ (taken_fits (shape_at store.shapes object) (cells_at store object) there)
    by false = stored

  colour_fits : (shape : Shape) (cells : Cells) → FitsShape shape cells → colour_in cells ≤ 2
  colour_fits shape (Counts cells) fits = omega arith
  colour_fits shape (Numbers cells) fits = omega arith
  colour_fits (Meter size) (Colours left) fits = first left fits where
    first : (left : List ℕ) → All (λ colour. colour ≤ 2) left → colour_in (Colours left) ≤ 2
    first [] all = omega arith
    first (x ∷ left) all = all 0 0 (omega arith)
  colour_fits (Counter kind size) (Colours left) fits = absurd fits
  colour_fits (Direct kind size) (Colours left) fits = absurd fits
  colour_fits (Register width size) (Colours left) fits = absurd fits

  -- a colour is at most 2
  pub colour_small : (index : ℕ) → colour store object index ≤ 2
  colour_small index = by (has_cell store object index) where
    by : (b : Bool) → cond b (colour_in (cells_at store object)) 0 ≤ 2
    by true = colour_fits (shape_at store.shapes object) (cells_at store object) there
    by false = omega arith
