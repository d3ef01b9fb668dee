-- The laws of sums of stores of the same counters.
use Rattle.std.proofs.Common.{◌≡◌, ℕ, zero, suc, ◌+◌, ◌%◌, ◌^◌, ◌<◌, List, [], ◌∷◌, length, map, replicate, get_or, All, refl, sym, ◌∙◌, ap, ap₂, subst, arith}
use Rattle.std.proofs.Math.ListN.{set, length-set}
use Rattle.std.proofs.Math.Nat.{mod-eq_of_lt, add-mod-mod, mod-add-mod}
use Rattle.std.proofs.lemmas.List.{ext_get_or, get_or-map, get_or-replicate, length-replicate, length-map}
use Rattle.state_store.specs.declared.shapes.Kind.{Kind}
use Rattle.state_store.specs.declared.shapes.Kind.TheVariants.{Packets, Bytes, Both}
use Rattle.state_store.specs.declared.shapes.Shape.{Shape}
use Rattle.state_store.specs.declared.shapes.Shape.TheVariants.{Counter, Direct, Register, Meter}
use Rattle.state_store.specs.declared.cells.Cells.{Cells}
use Rattle.state_store.specs.declared.cells.Cells.TheVariants.{Counts, Numbers, Colours}
use Rattle.state_store.specs.Cells.{kind_of, size_of, IsCounter, blank, counted, count_in, joined, sum_of_counts, sum_of_cells, IsCount, FitsShape}
use Rattle.state_store.specs.State.{Contents, shape_at, cells_at, new_store, count, sum_of_stores, IsStore}
use Rattle.state_store.specs.Sums.{SumLaws}
use Rattle.state_store.proofs.Joined.{length-joined, get_or-joined}
use Rattle.state_store.proofs.Stores.{new_is, set-holds, count_fits}

-- numbers that are summed modulo m
swapped : (m a b : ℕ) → (a + b) % m ≡ (b + a) % m
swapped m a b = ap (λ (n : ℕ). n % m) (omega arith)

regrouped : (m a b c : ℕ) → ((a + b) % m + c) % m ≡ (a + (b + c) % m) % m
regrouped m a b c = let same : a + b + c ≡ a + (b + c) = omega arith in
    mod-add-mod (a + b) m c ∙ ap (λ (n : ℕ). n % m) same ∙ sym (add-mod-mod a (b + c) m)

moved : (m a b n : ℕ) → ((a + n) % m + b) % m ≡ ((a + b) % m + n) % m
moved m a b n = let same : a + n + b ≡ a + b + n = omega arith in
    mod-add-mod (a + n) m b ∙ ap (λ (k : ℕ). k % m) same ∙ sym (mod-add-mod (a + b) m n)

-- the counts of one cell
counts_swap : (a b : ℕ × ℕ) → sum_of_counts a b ≡ sum_of_counts b a
counts_swap a b = ap₂ (λ (x y : ℕ). (x, y)) (swapped (2 ^ 64) a.0 b.0) (swapped (2 ^ 64) a.1 b.1)

counts_group : (a b c : ℕ × ℕ) → sum_of_counts (sum_of_counts a b) c ≡ sum_of_counts a (sum_of_counts b c)
counts_group a b c = ap₂ (λ (x y : ℕ). (x, y)) (regrouped (2 ^ 64) a.0 b.0 c.0) (regrouped (2 ^ 64) a.1 b.1 c.1)

counts_move : (kind : Kind) (octets : ℕ) (a b : ℕ × ℕ) → sum_of_counts (counted kind a octets) b ≡ counted kind (sum_of_counts a b) octets
counts_move Packets octets a b = ap₂ (λ (x y : ℕ). (x, y)) (moved (2 ^ 64) a.0 b.0 1) refl
counts_move Bytes octets a b = ap₂ (λ (x y : ℕ). (x, y)) refl (moved (2 ^ 64) a.1 b.1 octets)
counts_move Both octets a b = ap₂ (λ (x y : ℕ). (x, y)) (moved (2 ^ 64) a.0 b.0 1) (moved (2 ^ 64) a.1 b.1 octets)

count_below : (kind : Kind) (cell : ℕ × ℕ) → IsCount kind cell → (cell.0 < 2 ^ 64) × (cell.1 < 2 ^ 64)
count_below Packets cell is = (is.0, omega (arith, is.1))
count_below Bytes cell is = (omega (arith, is.0), is.1)
count_below Both cell is = is

count_from_zero : (kind : Kind) (cell : ℕ × ℕ) → IsCount kind cell → sum_of_counts (0, 0) cell ≡ cell
count_from_zero kind cell is =
    let below = count_below kind cell is in
    let first : 0 + cell.0 ≡ cell.0 = omega arith in
    let second : 0 + cell.1 ≡ cell.1 = omega arith in
    ap₂ (λ (x y : ℕ). (x % 2 ^ 64, y % 2 ^ 64)) first second ∙ ap₂ (λ (x y : ℕ). (x, y)) (mod-eq_of_lt below.0) (mod-eq_of_lt below.1)

-- lists joined item by item
joined-swap : {X : Type 0} (join : X → X → X) → ((a b : X) → join a b ≡ join b a) → (xs ys : List X) → length xs ≡ length ys → joined join xs ys ≡ joined join ys xs
joined-swap join swap [] [] long = refl
joined-swap join swap [] (y ∷ ys) long = absurd (omega (arith, long))
joined-swap join swap (x ∷ xs) [] long = absurd (omega (arith, long))
joined-swap {X} join swap (x ∷ xs) (y ∷ ys) long = ap₂ (λ (z : X) (rest : List X). z ∷ rest) (swap x y) (joined-swap join swap xs ys (omega (arith, long)))

joined-group : {X : Type 0} (join : X → X → X) → ((a b c : X) → join (join a b) c ≡ join a (join b c)) → (xs ys zs : List X) → length xs ≡ length ys → length ys ≡ length zs → joined join (joined join xs ys) zs ≡ joined join xs (joined join ys zs)
joined-group join group [] ys zs long more = refl
joined-group join group (x ∷ xs) [] zs long more = absurd (omega (arith, long))
joined-group join group (x ∷ xs) (y ∷ ys) [] long more = absurd (omega (arith, more))
joined-group {X} join group (x ∷ xs) (y ∷ ys) (z ∷ zs) long more =
    ap₂ (λ (w : X) (rest : List X). w ∷ rest) (group x y z) (joined-group join group xs ys zs (omega (arith, long)) (omega (arith, more)))

-- a change of one item goes through the join
joined-move : {X : Type 0} (join : X → X → X) (change : X → X) → ((a b : X) → join (change a) b ≡ change (join a b)) → (xs ys : List X) (i : ℕ) (d : X) → joined join (set xs i (change (get_or xs i d))) ys ≡ set (joined join xs ys) i (change (get_or (joined join xs ys) i d))
joined-move join change move [] ys i d = refl
joined-move join change move (x ∷ xs) [] zero d = refl
joined-move join change move (x ∷ xs) [] (suc i) d = refl
joined-move {X} join change move (x ∷ xs) (y ∷ ys) zero d = ap (λ (z : X). z ∷ joined join xs ys) (move x y)
joined-move {X} join change move (x ∷ xs) (y ∷ ys) (suc i) d = ap (λ (rest : List X). join x y ∷ rest) (joined-move join change move xs ys i d)

-- a list of neutral items is neutral
joined-neutral : {X : Type 0} (join : X → X → X) (none : X) (P : X → Type 0) → ((x : X) → P x → join none x ≡ x) → (size : ℕ) (xs : List X) → length xs ≡ size → All P xs → joined join (replicate size none) xs ≡ xs
joined-neutral {X} join none P neutral size xs long each =
    let made : length (replicate size none) ≡ size = length-replicate size none in
    let summed : length (joined join (replicate size none) xs) ≡ length (replicate size none) = length-joined join (replicate size none) xs in
    ext_get_or none (joined join (replicate size none) xs) xs (summed ∙ made ∙ sym long) (λ k within.
    let inside : k < size = omega (arith, summed, made, within) in
    let in_none : k < length (replicate size none) = omega (arith, made, inside) in
    let in_xs : k < length xs = omega (arith, long, inside) in
    get_or-joined join (replicate size none) xs k none in_none in_xs
    ∙ ap (λ (x : X). join x (get_or xs k none)) (get_or-replicate size k none none inside)
    ∙ neutral (get_or xs k none) (each k none in_xs))

counts_from_zero : (kind : Kind) (size : ℕ) (cells : List (ℕ × ℕ)) → length cells ≡ size → All (IsCount kind) cells → joined sum_of_counts (replicate size (0, 0)) cells ≡ cells
counts_from_zero kind size cells long each =
    joined-neutral sum_of_counts (0, 0) (IsCount kind) (λ cell is. count_from_zero kind cell is) size cells long each

-- the cells of one counter are counts
by_counts : (P : Cells → Type 0) (shape : Shape) (cells : Cells) → IsCounter shape → FitsShape shape cells → ((counts : List (ℕ × ℕ)) → length counts ≡ size_of shape → P (Counts counts)) → P cells
by_counts P (Counter kind size) (Counts cells) counter fits gives = gives cells fits.0
by_counts P (Direct kind size) (Counts cells) counter fits gives = gives cells fits.0
by_counts P (Counter kind size) (Numbers cells) counter fits gives = absurd fits
by_counts P (Counter kind size) (Colours left) counter fits gives = absurd fits
by_counts P (Direct kind size) (Numbers cells) counter fits gives = absurd fits
by_counts P (Direct kind size) (Colours left) counter fits gives = absurd fits
by_counts P (Register width size) cells counter fits gives = absurd counter
by_counts P (Meter size) cells counter fits gives = absurd counter

cells_swap : (shape : Shape) (a b : Cells) → IsCounter shape → FitsShape shape a → FitsShape shape b → sum_of_cells a b ≡ sum_of_cells b a
cells_swap shape a b counter fits more =
    by_counts (λ x. sum_of_cells x b ≡ sum_of_cells b x) shape a counter fits (λ xs long.
    by_counts (λ y. sum_of_cells (Counts xs) y ≡ sum_of_cells y (Counts xs)) shape b counter more (λ ys same.
    ap (λ (counts : List (ℕ × ℕ)). Counts counts) (joined-swap sum_of_counts counts_swap xs ys (long ∙ sym same))))

cells_group : (shape : Shape) (a b c : Cells) → IsCounter shape → FitsShape shape a → FitsShape shape b → FitsShape shape c → sum_of_cells (sum_of_cells a b) c ≡ sum_of_cells a (sum_of_cells b c)
cells_group shape a b c counter first second third =
    by_counts (λ x. sum_of_cells (sum_of_cells x b) c ≡ sum_of_cells x (sum_of_cells b c)) shape a counter first (λ xs one.
    by_counts (λ y. sum_of_cells (sum_of_cells (Counts xs) y) c ≡ sum_of_cells (Counts xs) (sum_of_cells y c)) shape b counter second (λ ys two.
    by_counts (λ z. sum_of_cells (sum_of_cells (Counts xs) (Counts ys)) z ≡ sum_of_cells (Counts xs) (sum_of_cells (Counts ys) z)) shape c counter third (λ zs three.
    ap (λ (counts : List (ℕ × ℕ)). Counts counts) (joined-group sum_of_counts counts_group xs ys zs (one ∙ sym two) (two ∙ sym three)))))

cells_from_zero : (shape : Shape) (cells : Cells) → IsCounter shape → FitsShape shape cells → sum_of_cells (blank shape) cells ≡ cells
cells_from_zero (Counter kind size) (Counts cells) counter fits = ap (λ (counts : List (ℕ × ℕ)). Counts counts) (counts_from_zero kind size cells fits.0 fits.1)
cells_from_zero (Direct kind size) (Counts cells) counter fits = ap (λ (counts : List (ℕ × ℕ)). Counts counts) (counts_from_zero kind size cells fits.0 fits.1)
cells_from_zero (Counter kind size) (Numbers cells) counter fits = absurd fits
cells_from_zero (Counter kind size) (Colours left) counter fits = absurd fits
cells_from_zero (Direct kind size) (Numbers cells) counter fits = absurd fits
cells_from_zero (Direct kind size) (Colours left) counter fits = absurd fits
cells_from_zero (Register width size) cells counter fits = absurd counter
cells_from_zero (Meter size) cells counter fits = absurd counter

cells_move : (kind : Kind) (index octets : ℕ) (a b : Cells) → sum_of_cells (count_in kind a index octets) b ≡ count_in kind (sum_of_cells a b) index octets
cells_move kind index octets (Counts xs) (Counts ys) =
    ap (λ (counts : List (ℕ × ℕ)). Counts counts) (joined-move sum_of_counts (λ cell. counted kind cell octets) (counts_move kind octets) xs ys index (0, 0))
cells_move kind index octets (Counts xs) (Numbers numbers) = refl
cells_move kind index octets (Counts xs) (Colours left) = refl
cells_move kind index octets (Numbers numbers) b = refl
cells_move kind index octets (Colours left) b = refl

-- the cells of all objects, where each list fits the same shapes
abbrev contents : List Shape → List Cells → Contents
contents shapes cells = record { shapes = shapes; cells = cells }

all_swap : (shapes : List Shape) (a b : List Cells) → All IsCounter shapes → IsStore (contents shapes a) → IsStore (contents shapes b) → joined sum_of_cells a b ≡ joined sum_of_cells b a
all_swap shapes a b counters is more =
    let left = length-joined sum_of_cells a b in
    let right = length-joined sum_of_cells b a in
    ext_get_or (Colours []) (joined sum_of_cells a b) (joined sum_of_cells b a) (left ∙ is.lengths ∙ sym more.lengths ∙ sym right) (λ k within.
    let inside : k < length shapes = omega (arith, within, left, is.lengths) in
    let in_a : k < length a = omega (arith, inside, is.lengths) in
    let in_b : k < length b = omega (arith, inside, more.lengths) in
    get_or-joined sum_of_cells a b k (Colours []) in_a in_b
    ∙ cells_swap (shape_at shapes k) (get_or a k (Colours [])) (get_or b k (Colours [])) (counters k (Meter 0) inside) (is.fits k inside) (more.fits k inside)
    ∙ sym (get_or-joined sum_of_cells b a k (Colours []) in_b in_a))

all_group : (shapes : List Shape) (a b c : List Cells) → All IsCounter shapes → IsStore (contents shapes a) → IsStore (contents shapes b) → IsStore (contents shapes c) → joined sum_of_cells (joined sum_of_cells a b) c ≡ joined sum_of_cells a (joined sum_of_cells b c)
all_group shapes a b c counters first second third =
    let left = length-joined sum_of_cells (joined sum_of_cells a b) c in
    let two = length-joined sum_of_cells a b in
    let rest = length-joined sum_of_cells b c in
    let right = length-joined sum_of_cells a (joined sum_of_cells b c) in
    ext_get_or (Colours []) (joined sum_of_cells (joined sum_of_cells a b) c) (joined sum_of_cells a (joined sum_of_cells b c)) (left ∙ two ∙ sym right) (λ k within.
    let inside : k < length shapes = omega (arith, within, left, two, first.lengths) in
    let in_a : k < length a = omega (arith, inside, first.lengths) in
    let in_b : k < length b = omega (arith, inside, second.lengths) in
    let in_c : k < length c = omega (arith, inside, third.lengths) in
    get_or-joined sum_of_cells (joined sum_of_cells a b) c k (Colours []) (omega (arith, in_a, two)) in_c
    ∙ ap (λ (cells : Cells). sum_of_cells cells (get_or c k (Colours []))) (get_or-joined sum_of_cells a b k (Colours []) in_a in_b)
    ∙ cells_group (shape_at shapes k) (get_or a k (Colours [])) (get_or b k (Colours [])) (get_or c k (Colours [])) (counters k (Meter 0) inside) (first.fits k inside) (second.fits k inside) (third.fits k inside)
    ∙ ap (λ (cells : Cells). sum_of_cells (get_or a k (Colours [])) cells) (sym (get_or-joined sum_of_cells b c k (Colours []) in_b in_c))
    ∙ sym (get_or-joined sum_of_cells a (joined sum_of_cells b c) k (Colours []) in_a (omega (arith, in_b, rest))))

all_from_zero : (shapes : List Shape) (a : List Cells) → All IsCounter shapes → IsStore (contents shapes a) → joined sum_of_cells (map blank shapes) a ≡ a
all_from_zero shapes a counters is =
    let made : length (map blank shapes) ≡ length shapes = length-map shapes blank in
    let summed = length-joined sum_of_cells (map blank shapes) a in
    ext_get_or (Colours []) (joined sum_of_cells (map blank shapes) a) a (summed ∙ made ∙ sym is.lengths) (λ k within.
    let inside : k < length shapes = omega (arith, within, summed, made) in
    get_or-joined sum_of_cells (map blank shapes) a k (Colours []) (omega (arith, made, inside)) (omega (arith, is.lengths, inside))
    ∙ ap (λ (cells : Cells). sum_of_cells cells (get_or a k (Colours []))) (get_or-map blank shapes k (Meter 0) (Colours []) inside)
    ∙ cells_from_zero (shape_at shapes k) (get_or a k (Colours [])) (counters k (Meter 0) inside) (is.fits k inside))

-- a store of shapes that are the same is one of these shapes
of_shapes : (shapes : List Shape) (store : Contents) → store.shapes ≡ shapes → IsStore store → IsStore (contents shapes store.cells)
of_shapes shapes store same is = subst (λ (s : List Shape). IsStore (contents s store.cells)) same is

-- a store of which all cells are 0 is a store
pub zero_is : (shapes : List Shape) → IsStore (new_store shapes)
zero_is shapes = new_is shapes shapes (map blank shapes) refl refl

-- a store stays one when a packet is counted
pub count_is : (store : Contents) (object index octets : ℕ) → IsStore store → IsStore (count store object index octets)
count_is store object index octets is = record {
  lengths = length-set store.cells object _ ∙ is.lengths;
  fits = λ k within. set-holds (FitsShape (shape_at store.shapes k)) store.cells object k
      (count_in (kind_of (shape_at store.shapes object)) (cells_at store object) index octets) (Colours [])
      (λ e. subst (λ o. FitsShape (shape_at store.shapes k) (count_in (kind_of (shape_at store.shapes o)) (cells_at store o) index octets)) (sym e)
      (count_fits (shape_at store.shapes k) (cells_at store k) index octets (is.fits k within))) (is.fits k within);
}

-- the empty store is neutral
pub sum_neutral : (store : Contents) → All IsCounter store.shapes → IsStore store → sum_of_stores (new_store store.shapes) store ≡ store
sum_neutral store counters is = ap (λ (cells : List Cells). contents store.shapes cells) (all_from_zero store.shapes store.cells counters is)

-- sums are commutative
pub sum_commutes : (store more : Contents) → All IsCounter store.shapes → more.shapes ≡ store.shapes → IsStore store → IsStore more → sum_of_stores store more ≡ sum_of_stores more store
sum_commutes store more counters same is other =
    ap₂ (λ (shapes : List Shape) (cells : List Cells). contents shapes cells) (sym same)
    (all_swap store.shapes store.cells more.cells counters is (of_shapes store.shapes more same other))

pub sum_neutral_right : (store : Contents) → All IsCounter store.shapes → IsStore store → sum_of_stores store (new_store store.shapes) ≡ store
sum_neutral_right store counters is =
    sum_commutes store (new_store store.shapes) counters refl is (zero_is store.shapes) ∙ sum_neutral store counters is

-- sums are associative
pub sum_associates : (store more third : Contents) → All IsCounter store.shapes → more.shapes ≡ store.shapes → third.shapes ≡ store.shapes → IsStore store → IsStore more → IsStore third → sum_of_stores (sum_of_stores store more) third ≡ sum_of_stores store (sum_of_stores more third)
sum_associates store more third counters same alike is other last =
    ap (λ (cells : List Cells). contents store.shapes cells)
    (all_group store.shapes store.cells more.cells third.cells counters is (of_shapes store.shapes more same other) (of_shapes store.shapes third alike last))

-- a packet counted in a part is counted in the sum
pub count_commutes_with_sum : (store more : Contents) (object index octets : ℕ) → sum_of_stores (count store object index octets) more ≡ count (sum_of_stores store more) object index octets
count_commutes_with_sum store more object index octets =
    ap (λ (cells : List Cells). contents store.shapes cells)
    (joined-move sum_of_cells (λ cells. count_in (kind_of (shape_at store.shapes object)) cells index octets)
    (cells_move (kind_of (shape_at store.shapes object)) index octets) store.cells more.cells object (Colours []))

pub count_commutes_with_sum_right : (store more : Contents) (object index octets : ℕ) → All IsCounter store.shapes → more.shapes ≡ store.shapes → IsStore store → IsStore more → sum_of_stores store (count more object index octets) ≡ count (sum_of_stores store more) object index octets
count_commutes_with_sum_right store more object index octets counters same is other =
    sum_commutes store (count more object index octets) counters same is (count_is more object index octets other)
    ∙ count_commutes_with_sum more store object index octets
    ∙ ap (λ (sum : Contents). count sum object index octets) (sym (sum_commutes store more counters same is other))

pub sum_laws : (store more : Contents) → All IsCounter store.shapes → more.shapes ≡ store.shapes → IsStore store → IsStore more → SumLaws store more
sum_laws store more counters same is other = record {
  neutral_left = sum_neutral store counters is;
  neutral_right = sum_neutral_right store counters is;
  commutes = sum_commutes store more counters same is other;
  associates = λ third alike last. sum_associates store more third counters same alike is other last;
  counts_left = λ object index octets. count_commutes_with_sum store more object index octets;
  counts_right = λ object index octets. count_commutes_with_sum_right store more object index octets counters same is other;
}
