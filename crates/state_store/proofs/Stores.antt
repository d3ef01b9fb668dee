-- What each call keeps of a store: its cells fit their shapes.
use Rattle.std.proofs.Common.{◌≡◌, ℕ, zero, suc, ◌^◌, ◌<◌, List, [], ◌∷◌, length, map, get_or, All, refl, sym, ◌∙◌, ap, subst, arith}
use Rattle.std.proofs.Math.ListN.{set, length-set}
use Rattle.std.proofs.Math.Nat.{mod-lt}
use Rattle.std.proofs.lemmas.Nat.{pow_pos}
use Rattle.std.proofs.lemmas.List.{get_or-map, get_or_read}
use Rattle.std.proofs.lemmas.Grind.{common_steps}
use Rattle.std.proofs.lemmas.List.Elements.{All-set, All-nil, All-cons, All-head, All-tail, All-replicate}
use Rattle.state_store.specs.declared.shapes.Kind.{Kind}
use Rattle.state_store.specs.declared.shapes.Kind.TheVariants.{Packets, Bytes, Both}
use Rattle.state_store.specs.declared.shapes.Shape.{Shape}
use Rattle.state_store.specs.declared.shapes.Shape.TheVariants.{Counter, Direct, Register, Meter}
use Rattle.state_store.specs.declared.cells.Cells.{Cells}
use Rattle.state_store.specs.declared.cells.Cells.TheVariants.{Counts, Numbers, Colours}
use Rattle.state_store.specs.Cells.{kind_of, width_of, IsCounter, IsRegister, blank, counted, count_in, read_in, write_in, joined, sum_of_counts, sum_of_cells, IsCount, FitsShape}
use Rattle.state_store.specs.State.{Contents, shape_at, cells_at, with_cells, IsRegisterAt, sum_of_stores, IsStore}
use Rattle.state_store.proofs.Joined.{length-joined, get_or-joined}

-- what holds of each item and of the default holds at each index
pub at-All : {X : Type 0} (P : X → Type 0) (xs : List X) (i : ℕ) (d : X) → All P xs → P d → P (get_or xs i d)
at-All P [] i d all default = default
at-All P (x ∷ xs) zero d all default = all zero d (omega arith)
at-All P (x ∷ xs) (suc i) d all default = at-All P xs i d (λ k e lt. all (suc k) e (omega arith)) default

zero_count : (kind : Kind) → IsCount kind (0, 0)
zero_count Packets = (omega arith, refl)
zero_count Bytes = (refl, omega arith)
zero_count Both = (omega arith, omega arith)

counted_count : (kind : Kind) (cell : ℕ × ℕ) (octets : ℕ) → IsCount kind cell → IsCount kind (counted kind cell octets)
counted_count Packets cell octets is = (mod-lt _ (omega arith), is.1)
counted_count Bytes cell octets is = (is.0, mod-lt _ (omega arith))
counted_count Both cell octets is = (mod-lt _ (omega arith), mod-lt _ (omega arith))

sum_count : (kind : Kind) (a b : ℕ × ℕ) → IsCount kind a → IsCount kind b → IsCount kind (sum_of_counts a b)
sum_count Packets a b is more = (mod-lt _ (omega arith), grind (arith, is, more))
sum_count Bytes a b is more = (grind (arith, is, more), mod-lt _ (omega arith))
sum_count Both a b is more = (mod-lt _ (omega arith), mod-lt _ (omega arith))

-- a counter's cells after one more packet
counts_fit : (kind : Kind) (size : ℕ) (cells : List (ℕ × ℕ)) (index octets : ℕ) → (length cells ≡ size) × All (IsCount kind) cells → FitsShape (Counter kind size) (count_in kind (Counts cells) index octets)
counts_fit kind size cells index octets fits =
    (length-set cells index _ ∙ fits.0, All-set (IsCount kind) cells index _ (counted_count kind _ octets (at-All (IsCount kind) cells index (0, 0) fits.1 (zero_count kind))) fits.1)

pub count_fits : (shape : Shape) (cells : Cells) (index octets : ℕ) → FitsShape shape cells → FitsShape shape (count_in (kind_of shape) cells index octets)
count_fits (Counter kind size) (Counts cells) index octets fits = counts_fit kind size cells index octets fits
count_fits (Direct kind size) (Counts cells) index octets fits = counts_fit kind size cells index octets fits
count_fits (Counter kind size) (Numbers cells) index octets fits = fits
count_fits (Counter kind size) (Colours left) index octets fits = fits
count_fits (Direct kind size) (Numbers cells) index octets fits = fits
count_fits (Direct kind size) (Colours left) index octets fits = fits
count_fits (Register width size) (Counts cells) index octets fits = absurd fits
count_fits (Register width size) (Numbers cells) index octets fits = fits
count_fits (Register width size) (Colours left) index octets fits = fits
count_fits (Meter size) (Counts cells) index octets fits = absurd fits
count_fits (Meter size) (Numbers cells) index octets fits = fits
count_fits (Meter size) (Colours left) index octets fits = fits

pub write_fits : (shape : Shape) (cells : Cells) (index value : ℕ) → FitsShape shape cells → FitsShape shape (write_in (width_of shape) cells index value)
write_fits (Register width size) (Numbers cells) index value fits =
    (length-set cells index _ ∙ fits.0, All-set (λ number. number < 2 ^ width) cells index _ (mod-lt _ (pow_pos width)) fits.1)
write_fits (Register width size) (Counts cells) index value fits = fits
write_fits (Register width size) (Colours left) index value fits = fits
write_fits (Counter kind size) (Counts cells) index value fits = fits
write_fits (Counter kind size) (Numbers cells) index value fits = absurd fits
write_fits (Counter kind size) (Colours left) index value fits = fits
write_fits (Direct kind size) (Counts cells) index value fits = fits
write_fits (Direct kind size) (Numbers cells) index value fits = absurd fits
write_fits (Direct kind size) (Colours left) index value fits = fits
write_fits (Meter size) (Counts cells) index value fits = fits
write_fits (Meter size) (Numbers cells) index value fits = absurd fits
write_fits (Meter size) (Colours left) index value fits = fits

read_fits : (shape : Shape) (cells : Cells) (index : ℕ) → FitsShape shape cells → IsRegister shape → read_in cells index < 2 ^ width_of shape
read_fits (Register width size) (Numbers cells) index fits register = at-All (λ number. number < 2 ^ width) cells index 0 fits.1 (pow_pos width)
read_fits (Register width size) (Counts cells) index fits register = absurd fits
read_fits (Register width size) (Colours left) index fits register = absurd fits
read_fits (Counter kind size) cells index fits register = absurd register
read_fits (Direct kind size) cells index fits register = absurd register
read_fits (Meter size) cells index fits register = absurd register

blank_fits : (shape : Shape) → FitsShape shape (blank shape)
blank_fits (Counter kind size) = (grind (arith, common_steps), All-replicate (IsCount kind) size (0, 0) (zero_count kind))
blank_fits (Direct kind size) = (grind (arith, common_steps), All-replicate (IsCount kind) size (0, 0) (zero_count kind))
blank_fits (Register width size) = (grind (arith, common_steps), All-replicate (λ number. number < 2 ^ width) size 0 (pow_pos width))
blank_fits (Meter size) = λ k d lt. absurd (omega arith)

-- what holds of a written item, and of the items that stand, holds after the write
pub set-holds : {X : Type 0} (P : X → Type 0) (xs : List X) (i k : ℕ) (x d : X) → (i ≡ k → P x) → P (get_or xs k d) → P (get_or (set xs i x) k d)
set-holds P [] i k x d here there = there
set-holds P (y ∷ ys) zero zero x d here there = here refl
set-holds P (y ∷ ys) zero (suc k) x d here there = there
set-holds P (y ∷ ys) (suc i) zero x d here there = there
set-holds P (y ∷ ys) (suc i) (suc k) x d here there = set-holds P ys i k x d (λ (e : i ≡ k). here (ap (λ (n : ℕ). suc n) e)) there

-- other cells of its shape for one object leave a store
pub with_cells_is : (store : Contents) (object : ℕ) (cells : Cells) → IsStore store → FitsShape (shape_at store.shapes object) cells → IsStore (with_cells store object cells)
with_cells_is store object cells is fits = record {
  lengths = length-set store.cells object cells ∙ is.lengths;
  fits = λ k within. set-holds (FitsShape (shape_at store.shapes k)) store.cells object k cells (Colours [])
      (λ e. subst (λ o. FitsShape (shape_at store.shapes o) cells) e fits) (is.fits k within);
}

-- what a method reads at an index is the shape and the cells that stand there
pub changed_is : (change : Shape → Cells → Cells) → ((shape : Shape) (cells : Cells) → FitsShape shape cells → FitsShape shape (change shape cells)) → (store : Contents) (object : ℕ) (shape : Shape) (before after : Cells) → IsStore store → object < length store.shapes → shape ≡ get_or store.shapes object shape → before ≡ get_or store.cells object before → after ≡ change shape before → IsStore (with_cells store object after)
changed_is change keeps store object shape before after is within shape_is before_is after_is =
    let at_shape = get_or_read store.shapes object shape within shape_is (Meter 0) in
    let at_cells = get_or_read store.cells object before (omega (arith, is.lengths)) before_is (Colours []) in
    with_cells_is store object after is
    (subst (λ cells. FitsShape (shape_at store.shapes object) cells) (sym after_is)
    (subst (λ s. FitsShape (shape_at store.shapes object) (change s before)) (sym at_shape)
    (keeps (shape_at store.shapes object) before (subst (λ cells. FitsShape (shape_at store.shapes object) cells) (sym at_cells) (is.fits object within)))))

pub read_in_range : (store : Contents) (object index number : ℕ) (cells : Cells) → IsStore store → IsRegisterAt store.shapes object → cells ≡ get_or store.cells object cells → number ≡ read_in cells index → number < 2 ^ width_of (shape_at store.shapes object)
read_in_range store object index number cells is at cells_is number_is =
    let at_cells = get_or_read store.cells object cells (omega (arith, is.lengths, at.within)) cells_is (Colours []) in
    rw (number_is, at_cells) (read_fits _ _ index (is.fits object at.within) at.register)

pub new_is : (shapes copied : List Shape) (cells : List Cells) → copied ≡ shapes → cells ≡ map blank shapes → IsStore (record { shapes = copied; cells = cells })
new_is shapes copied cells same made = rw (same, made) (record {
  lengths = grind (arith, common_steps);
  fits = λ k within. let is = get_or-map blank shapes k (Meter 0) (Colours []) within in
      subst (λ c. FitsShape (shape_at shapes k) c) (sym is) (blank_fits (shape_at shapes k));
})

All-joined : {X : Type 0} (P : X → Type 0) (join : X → X → X) → ((a b : X) → P a → P b → P (join a b)) → (xs ys : List X) → All P xs → All P ys → All P (joined join xs ys)
All-joined P join keeps [] ys all more = All-nil P
All-joined P join keeps (x ∷ xs) [] all more = all
All-joined P join keeps (x ∷ xs) (y ∷ ys) all more =
    All-cons P (join x y) (joined join xs ys) (keeps x y (All-head P x xs all) (All-head P y ys more))
    (All-joined P join keeps xs ys (All-tail P x xs all) (All-tail P y ys more))

sum_fits : (shape : Shape) (cells more : Cells) → IsCounter shape → FitsShape shape cells → FitsShape shape more → FitsShape shape (sum_of_cells cells more)
sum_fits (Counter kind size) (Counts cells) (Counts more) counter fits same =
    (length-joined sum_of_counts cells more ∙ fits.0, All-joined (IsCount kind) sum_of_counts (sum_count kind) cells more fits.1 same.1)
sum_fits (Direct kind size) (Counts cells) (Counts more) counter fits same =
    (length-joined sum_of_counts cells more ∙ fits.0, All-joined (IsCount kind) sum_of_counts (sum_count kind) cells more fits.1 same.1)
sum_fits (Counter kind size) (Counts cells) (Numbers more) counter fits same = fits
sum_fits (Counter kind size) (Counts cells) (Colours more) counter fits same = fits
sum_fits (Counter kind size) (Numbers cells) more counter fits same = absurd fits
sum_fits (Counter kind size) (Colours left) more counter fits same = absurd fits
sum_fits (Direct kind size) (Counts cells) (Numbers more) counter fits same = fits
sum_fits (Direct kind size) (Counts cells) (Colours more) counter fits same = fits
sum_fits (Direct kind size) (Numbers cells) more counter fits same = absurd fits
sum_fits (Direct kind size) (Colours left) more counter fits same = absurd fits
sum_fits (Register width size) cells more counter fits same = absurd counter
sum_fits (Meter size) cells more counter fits same = absurd counter

pub sum_is : (store more : Contents) → All IsCounter store.shapes → more.shapes ≡ store.shapes → IsStore store → IsStore more → IsStore (sum_of_stores store more)
sum_is store more counters same is other = record {
  lengths = length-joined sum_of_cells store.cells more.cells ∙ is.lengths;
  fits = λ k within.
      let long : length more.cells ≡ length store.shapes = other.lengths ∙ ap (λ (shapes : List Shape). length shapes) same in
      let joins = get_or-joined sum_of_cells store.cells more.cells k (Colours []) (omega (arith, is.lengths)) (omega (arith, long)) in
      let others : FitsShape (shape_at store.shapes k) (cells_at more k) =
      subst (λ (shapes : List Shape). FitsShape (shape_at shapes k) (cells_at more k)) same (other.fits k (omega (arith, long, other.lengths))) in
      subst (λ cells. FitsShape (shape_at store.shapes k) cells) (sym joins)
      (sum_fits (shape_at store.shapes k) _ _ (counters k (Meter 0) within) (is.fits k within) others);
}
