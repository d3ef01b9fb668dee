-- What a change of a store leaves of its registers.
use Rattle.std.proofs.Common.{◌≡◌, ◌≢◌, ◌⊎◌, inl, inr, eqb, ℕ, ◌<◌, ◌≤◌, Bool, true, false, cond, List, [], length, get_or, refl, sym, ap, ◌∙◌, subst}
use Rattle.std.proofs.lemmas.List.{get_or-set_same, get_or-set_other, set_past}
use Rattle.std.proofs.lemmas.Bool.{cases_lt}
use Rattle.std.proofs.lemmas.Bool.Decides.{eqb_tells}
use Rattle.state_store.specs.declared.cells.Cells.{Cells}
use Rattle.state_store.specs.declared.cells.Cells.TheVariants.{Counts, Numbers, Colours}
use Rattle.state_store.specs.Cells.{kind_of, read_in, count_in, taken_in}
use Rattle.state_store.specs.State.{Contents, shape_at, cells_at, with_cells, has_cell, read, write, count, colour_taken}
use Rattle.lower_laws_actions.specs.Same.{SameCells}
use Rattle.lower_laws_actions.proofs.ApartWrites.{SameRegisters}

-- cells that read alike, put in place of an object's, change no register
cells_kept : (store : Contents) (object : ℕ) (new : Cells) → ((index : ℕ) → read_in (cells_at store object) index ≡ read_in new index) → SameRegisters store (with_cells store object new)
cells_kept store object new alike other index = by (cases_lt object (length store.cells)) (eqb_tells object other) where
  by : (object < length store.cells) ⊎ (length store.cells ≤ object) → ((eqb object other ≡ true) × (object ≡ other)) ⊎ ((eqb object other ≡ false) × (object ≢ other)) → read store other index ≡ read (with_cells store object new) other index
  by (inr past) _ = ap (λ (l : List Cells). read_in (get_or l other (Colours [])) index) (sym (set_past store.cells object new past))
  by (inl lt) (inl is) = subst (λ o. read store o index ≡ read (with_cells store object new) o index) is.1
      (alike index ∙ ap (λ (c : Cells). read_in c index) (sym (get_or-set_same store.cells object new (Colours []) lt)))
  by (inl lt) (inr differ) = ap (λ (c : Cells). read_in c index) (sym (get_or-set_other store.cells object other new (Colours []) (λ x. differ.1 (sym x))))

pub count_kept : (store : Contents) (object index octets : ℕ) → SameRegisters store (count store object index octets)
count_kept store object index octets = cells_kept store object _ (by (cells_at store object)) where
  by : (c : Cells) → (k : ℕ) → read_in c k ≡ read_in (count_in (kind_of (shape_at store.shapes object)) c index octets) k
  by (Counts cells) k = refl
  by (Numbers cells) k = refl
  by (Colours left) k = refl

pub taken_kept : (store : Contents) (object index : ℕ) → SameRegisters store (colour_taken store object index)
taken_kept store object index = by (has_cell store object index) where
  alike : (c : Cells) → (k : ℕ) → read_in c k ≡ read_in (taken_in c) k
  alike (Counts cells) k = refl
  alike (Numbers cells) k = refl
  alike (Colours left) k = refl

  by : (b : Bool) → SameRegisters store (cond b (with_cells store object (taken_in (cells_at store object))) store)
  by true = λ other k. cells_kept store object (taken_in (cells_at store object)) (alike (cells_at store object)) other k
  by false = λ other k. refl

pub stored_kept : (store : Contents) (object index n other : ℕ) → eqb object other ≡ false → SameCells store (write store object index n) other
stored_kept store object index n other differ k = by (eqb_tells object other) where
  by : ((eqb object other ≡ true) × (object ≡ other)) ⊎ ((eqb object other ≡ false) × (object ≢ other)) → read store other k ≡ read (write store object index n) other k
  by (inl is) = absurd (cc (differ, is.0))
  by (inr apart) = ap (λ (c : Cells). read_in c k) (sym (get_or-set_other store.cells object other _ (Colours []) (λ x. apart.1 (sym x))))

pub taken_shapes : (store : Contents) (object index : ℕ) → store.shapes ≡ (colour_taken store object index).shapes
taken_shapes store object index = by (has_cell store object index) where
  by : (b : Bool) → store.shapes ≡ (cond {A = Contents} b (with_cells store object (taken_in (cells_at store object))) store).shapes
  by true = refl
  by false = refl
