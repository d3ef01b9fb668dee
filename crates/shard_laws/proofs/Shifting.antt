-- Stores of counters that differ by a fixed store, and counts of work that differ by a fixed number.
use Rattle.std.proofs.Common.{◌≡◌, ℕ, zero, suc, ◌+◌, ◌%◌, ◌^◌, ◌<◌, Bool, true, false, cond, List, [], ◌∷◌, length, get_or, All, refl, sym, ◌∙◌, ap, subst, arith}
use Rattle.std.proofs.Math.ListN.{set, length-set}
use Rattle.std.proofs.Math.Nat.{mod-lt, mod-add-mod}
use Rattle.state_store.specs.declared.shapes.Shape.{Shape}
use Rattle.state_store.specs.declared.shapes.Shape.TheVariants.{Counter, Direct, Register, Meter}
use Rattle.state_store.specs.declared.cells.Cells.{Cells}
use Rattle.state_store.specs.declared.cells.Cells.TheVariants.{Counts, Numbers, Colours}
use Rattle.state_store.specs.Cells.{width_of, IsCounter, read_in, write_in, colour_in, taken_in, joined, sum_of_cells, FitsShape}
use Rattle.state_store.specs.State.{Contents, shape_at, cells_at, with_cells, count, read, write, has_cell, colour, colour_taken, sum_of_stores, IsStore}
use Rattle.shard_laws.specs.Likeness.{Pairing}
use Rattle.state_store.proofs.Stores.{write_fits, set-holds}
use Rattle.state_store.proofs.Sums.{count_is, count_commutes_with_sum}

-- numbers that are summed modulo m
pub moved : (m a b n : ℕ) → ((a + n) % m + b) % m ≡ ((a + b) % m + n) % m
moved m a b n = let same : a + n + b ≡ a + b + n = omega arith in
    mod-add-mod (a + n) m b ∙ ap (λ (k : ℕ). k % m) same ∙ sym (mod-add-mod (a + b) m n)

-- a change of one item goes through the join
joined-move : {X : Type 0} (join : X → X → X) (change : X → X) → ((a b : X) → join (change a) b ≡ change (join a b)) → (xs ys : List X) (i : ℕ) (d : X) → joined join (set xs i (change (get_or xs i d))) ys ≡ set (joined join xs ys) i (change (get_or (joined join xs ys) i d))
joined-move join change move [] ys i d = refl
joined-move join change move (x ∷ xs) [] zero d = refl
joined-move join change move (x ∷ xs) [] (suc i) d = refl
joined-move {X} join change move (x ∷ xs) (y ∷ ys) zero d = ap (λ (z : X). z ∷ joined join xs ys) (move x y)
joined-move {X} join change move (x ∷ xs) (y ∷ ys) (suc i) d = ap (λ (rest : List X). join x y ∷ rest) (joined-move join change move xs ys i d)

-- what is read of a sum is read of its first part
pub read_left : (xs ys : List Cells) (object index : ℕ) → read_in (get_or xs object (Colours [])) index ≡ read_in (get_or (joined sum_of_cells xs ys) object (Colours [])) index
read_left [] ys object index = refl
read_left (x ∷ xs) [] object index = refl
read_left (Counts cells ∷ xs) (Counts more ∷ ys) zero index = refl
read_left (Counts cells ∷ xs) (Numbers more ∷ ys) zero index = refl
read_left (Counts cells ∷ xs) (Colours more ∷ ys) zero index = refl
read_left (Numbers cells ∷ xs) (y ∷ ys) zero index = refl
read_left (Colours left ∷ xs) (y ∷ ys) zero index = refl
read_left (x ∷ xs) (y ∷ ys) (suc object) index = read_left xs ys object index

colour_left : (xs ys : List Cells) (object : ℕ) → colour_in (get_or xs object (Colours [])) ≡ colour_in (get_or (joined sum_of_cells xs ys) object (Colours []))
colour_left [] ys object = refl
colour_left (x ∷ xs) [] object = refl
colour_left (Counts cells ∷ xs) (Counts more ∷ ys) zero = refl
colour_left (Counts cells ∷ xs) (Numbers more ∷ ys) zero = refl
colour_left (Counts cells ∷ xs) (Colours more ∷ ys) zero = refl
colour_left (Numbers cells ∷ xs) (y ∷ ys) zero = refl
colour_left (Colours left ∷ xs) (y ∷ ys) zero = refl
colour_left (x ∷ xs) (y ∷ ys) (suc object) = colour_left xs ys object

write_move : (width index value : ℕ) (a b : Cells) → sum_of_cells (write_in width a index value) b ≡ write_in width (sum_of_cells a b) index value
write_move width index value (Counts xs) (Counts ys) = refl
write_move width index value (Counts xs) (Numbers numbers) = refl
write_move width index value (Counts xs) (Colours left) = refl
write_move width index value (Numbers numbers) b = refl
write_move width index value (Colours left) b = refl

taken_move : (a b : Cells) → sum_of_cells (taken_in a) b ≡ taken_in (sum_of_cells a b)
taken_move (Counts xs) (Counts ys) = refl
taken_move (Counts xs) (Numbers numbers) = refl
taken_move (Counts xs) (Colours left) = refl
taken_move (Numbers numbers) b = refl
taken_move (Colours left) b = refl

abbrev of_cells : List Shape → List Cells → Contents
of_cells shapes cells = record { shapes = shapes; cells = cells }

pub write_commutes : (store more : Contents) (object index number : ℕ) → sum_of_stores (write store object index number) more ≡ write (sum_of_stores store more) object index number
write_commutes store more object index number =
    ap (of_cells store.shapes)
    (joined-move sum_of_cells (λ cells. write_in (width_of (shape_at store.shapes object)) cells index number)
    (write_move (width_of (shape_at store.shapes object)) index number) store.cells more.cells object (Colours []))

pub take_commutes : (store more : Contents) (object index : ℕ) → sum_of_stores (colour_taken store object index) more ≡ colour_taken (sum_of_stores store more) object index
take_commutes store more object index = by (has_cell store object index) where
  by : (b : Bool) → sum_of_stores (cond b (with_cells store object (taken_in (cells_at store object))) store) more ≡ cond b (with_cells (sum_of_stores store more) object (taken_in (cells_at (sum_of_stores store more) object))) (sum_of_stores store more)
  by true = ap (of_cells store.shapes) (joined-move sum_of_cells taken_in taken_move store.cells more.cells object (Colours []))
  by false = refl

-- a store stays one when a number is written, and where a colour is taken of a store of counters
pub changed_is : (store : Contents) (object : ℕ) (change : Shape → Cells → Cells) → ((k : ℕ) → k < length store.shapes → FitsShape (shape_at store.shapes k) (cells_at store k) → FitsShape (shape_at store.shapes k) (change (shape_at store.shapes k) (cells_at store k))) → IsStore store → IsStore (with_cells store object (change (shape_at store.shapes object) (cells_at store object)))
changed_is store object change keeps is = record {
  lengths = length-set store.cells object _ ∙ is.lengths;
  fits = λ k within. set-holds (FitsShape (shape_at store.shapes k)) store.cells object k (change (shape_at store.shapes object) (cells_at store object)) (Colours [])
      (λ e. subst (λ o. FitsShape (shape_at store.shapes k) (change (shape_at store.shapes o) (cells_at store o))) (sym e) (keeps k within (is.fits k within))) (is.fits k within);
}

taken_fits : (shape : Shape) (cells : Cells) → IsCounter shape → FitsShape shape cells → FitsShape shape (taken_in cells)
taken_fits (Counter kind size) (Counts cells) counter fits = fits
taken_fits (Direct kind size) (Counts cells) counter fits = fits
taken_fits (Register width size) cells counter fits = absurd counter
taken_fits (Meter size) cells counter fits = absurd counter
taken_fits (Counter kind size) _ counter fits = absurd fits
taken_fits (Direct kind size) _ counter fits = absurd fits

pub taken_is : (store : Contents) (object index : ℕ) → All IsCounter store.shapes → IsStore store → IsStore (colour_taken store object index)
taken_is store object index counters is = by (has_cell store object index) where
  by : (b : Bool) → IsStore (cond b (with_cells store object (taken_in (cells_at store object))) store)
  by true = changed_is store object (λ shape. taken_in) (λ k within. taken_fits (shape_at store.shapes k) (cells_at store k) (counters k (Meter 0) within)) is
  by false = is

-- a store of these counters, and the sum of it and a fixed one
pub record Shifted (shapes : List Shape) (base a b : Contents) : Type 0 where
  pub is : IsStore a
  pub same : a.shapes ≡ shapes
  pub sum : b ≡ sum_of_stores a base

abbrev pub Added : ℕ → ℕ → ℕ → Type 0
Added base a b = (a < 2 ^ 64) × (b ≡ (a + base) % 2 ^ 64)

pub same_taken : (c : Contents) (object index : ℕ) → (colour_taken c object index).shapes ≡ c.shapes
same_taken c object index = by (has_cell c object index) where
  by : (b : Bool) → (cond b (with_cells c object (taken_in (cells_at c object))) c).shapes ≡ c.shapes
  by true = refl
  by false = refl

pub same_colour : (base c : Contents) (object index : ℕ) → colour c object index ≡ colour (sum_of_stores c base) object index
same_colour base c object index = ap (λ (n : ℕ). cond (has_cell c object index) n 0) (colour_left c.cells base.cells object)

unfoldable pub shift : (shapes : List Shape) → All IsCounter shapes → Contents → ℕ → Pairing
shift shapes counters base more = record {
  stores = Shifted shapes base;
  works = Added more;
  ticks = λ a b h. (mod-lt _ (omega arith), ap (λ (x : ℕ). (x + 1) % 2 ^ 64) h.1 ∙ moved (2 ^ 64) a 1 more);
  counts = λ c d object index octets h. record {
    is = count_is c object index octets h.is;
    same = h.same;
    sum = ap (λ (x : Contents). count x object index octets) h.sum ∙ sym (count_commutes_with_sum c base object index octets);
  };
  writes = λ c d object index number h. record {
    is = changed_is c object (λ shape cells. write_in (width_of shape) cells index number) (λ k within. write_fits (shape_at c.shapes k) (cells_at c k) index number) h.is;
    same = h.same;
    sum = ap (λ (x : Contents). write x object index number) h.sum ∙ sym (write_commutes c base object index number);
  };
  takes = λ c d object index h. record {
    is = taken_is c object index (subst (λ (l : List Shape). All IsCounter l) (sym h.same) counters) h.is;
    same = same_taken c object index ∙ h.same;
    sum = ap (λ (x : Contents). colour_taken x object index) h.sum ∙ sym (take_commutes c base object index);
  };
  reads = λ c d object index h. read_left c.cells base.cells object index ∙ ap (λ (x : Contents). read x object index) (sym h.sum);
  colours = λ c d object index h. same_colour base c object index ∙ ap (λ (x : Contents). colour x object index) (sym h.sum);
}
