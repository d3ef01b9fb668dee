-- What P4_14 preserves, field by field.
use Rattle.std.proofs.Common.{◌≡◌, ◌≢◌, ◌⊎◌, inl, inr, eqb, ℕ, ◌<◌, Bool, true, false, ◌&&◌, ◌||◌, cond, List, [], ◌∷◌, length, get_or, set, refl, sym, ap, ap₂, ◌∙◌, arith}
use Rattle.std.specs.Prelude.{slice_index_or, slice_set, nat_eq, fold}
use Rattle.std.specs.List.{list_any}
use Rattle.std.proofs.lemmas.List.{get_or-set_same, get_or-set_other, length-set, get_or_past}
use Rattle.std.proofs.lemmas.Bool.{ltb-true, ltb-false}
use Rattle.std.specs.Prelude.{nat_lt}
use Rattle.std.proofs.lemmas.Bool.Decides.{eqb_tells}
use Rattle.p414_syntax.specs.declared.calculations.Item.{Item}
use Rattle.p414_syntax.specs.declared.calculations.Item.TheVariants as item
use Rattle.p414_syntax.specs.declared.syntax.Decl.{Decl}
use Rattle.p414_sem.specs.Slots.{Slot, standard, declared, slot_of}
use Rattle.p414_sem.specs.State.{State, read as read14}
use Rattle.p414_sem.specs.Passes.{Preserved, preserving_slot, preserving_item}
use Rattle.lower_laws_passes.specs.Preserving.{is_field, is_item, AtFirst, ItemAtFirst, ItemsAtFirst}

abbrev pub numbers_at : Preserved → ℕ → List ℕ
numbers_at q k = slice_index_or q k []

-- one write
slot_at : (s : State) (q : Preserved) (i e g k : ℕ) → k < length q → (f : ℕ) → f < length (numbers_at q k) → (i ≡ k → e ≡ 0) → get_or (numbers_at (preserving_slot s q (declared i e g)) k) f 0 ≡ cond (nat_eq i k && nat_eq g f) (read14 s (declared k 0 f)) (get_or (numbers_at q k) f 0)
slot_at s q i e g k lt f within first = by (eqb_tells i k) (eqb_tells g f) where
  new : List ℕ
  new = slice_set (numbers_at q i) g (read14 s (declared i e g))

  by : ((eqb i k ≡ true) × (i ≡ k)) ⊎ ((eqb i k ≡ false) × (i ≢ k)) → ((eqb g f ≡ true) × (g ≡ f)) ⊎ ((eqb g f ≡ false) × (g ≢ f)) → get_or (numbers_at (preserving_slot s q (declared i e g)) k) f 0 ≡ cond (nat_eq i k && nat_eq g f) (read14 s (declared k 0 f)) (get_or (numbers_at q k) f 0)
  by (inl a) (inl b) =
      ap (λ j. get_or (numbers_at (preserving_slot s q (declared j e g)) k) f 0) a.1
      ∙ ap (λ l. get_or l f 0) (get_or-set_same q k (slice_set (numbers_at q k) g (read14 s (declared k e g))) [] lt)
      ∙ ap (λ j. get_or (slice_set (numbers_at q k) j (read14 s (declared k e j))) f 0) b.1
      ∙ get_or-set_same (numbers_at q k) f (read14 s (declared k e f)) 0 within
      ∙ ap (λ j. read14 s (declared k j f)) (first a.1)
      ∙ ap₂ (λ x y. cond (x && y) (read14 s (declared k 0 f)) (get_or (numbers_at q k) f 0)) (sym a.0) (sym b.0)
  by (inl a) (inr b) =
      ap (λ j. get_or (numbers_at (preserving_slot s q (declared j e g)) k) f 0) a.1
      ∙ ap (λ l. get_or l f 0) (get_or-set_same q k (slice_set (numbers_at q k) g (read14 s (declared k e g))) [] lt)
      ∙ get_or-set_other (numbers_at q k) g f (read14 s (declared k e g)) 0 (λ z. b.1 (sym z))
      ∙ ap₂ (λ x y. cond (x && y) (read14 s (declared k 0 f)) (get_or (numbers_at q k) f 0)) (sym a.0) (sym b.0)
  by (inr a) other =
      ap (λ l. get_or l f 0) (get_or-set_other q i k new [] (λ z. a.1 (sym z)))
      ∙ ap (λ x. cond (x && nat_eq g f) (read14 s (declared k 0 f)) (get_or (numbers_at q k) f 0)) (sym a.0)

slot_is : (s : State) (q : Preserved) (slot : Slot) (k : ℕ) → k < length q → (f : ℕ) → f < length (numbers_at q k) → AtFirst k slot → get_or (numbers_at (preserving_slot s q slot) k) f 0 ≡ cond (is_field k f slot) (read14 s (declared k 0 f)) (get_or (numbers_at q k) f 0)
slot_is s q (standard which) k lt f within first = refl
slot_is s q (declared i e g) k lt f within first = slot_at s q i e g k lt f within first

-- lengths stay
slot_lengths : (s : State) (q : Preserved) (slot : Slot) (k : ℕ) → length (numbers_at (preserving_slot s q slot) k) ≡ length (numbers_at q k)
slot_lengths s q (standard which) k = refl
slot_lengths s q (declared i e g) k = by (eqb_tells k i) where
  new : List ℕ
  new = slice_set (numbers_at q i) g (read14 s (declared i e g))

  by : ((eqb k i ≡ true) × (k ≡ i)) ⊎ ((eqb k i ≡ false) × (k ≢ i)) → length (get_or (set q i new) k []) ≡ length (get_or q k [])
  by (inr b) = ap length (get_or-set_other q i k new [] b.1)
  by (inl a) = at (nat_lt i (length q)) refl where
    at : (b : Bool) → nat_lt i (length q) ≡ b → length (get_or (set q i new) k []) ≡ length (get_or q k [])
    at true lt =
        ap (λ j. length (get_or (set q i new) j [])) a.1 ∙ ap length (get_or-set_same q i new [] (ltb-true _ _ lt))
        ∙ length-set (numbers_at q i) g (read14 s (declared i e g)) ∙ ap (λ j. length (get_or q j [])) (sym a.1)
    at false ge =
        ap length (get_or_past (set q i new) k [] (omega (arith, ltb-false _ _ ge, a.1, length-set q i new)))
        ∙ ap length (sym (get_or_past q k [] (omega (arith, ltb-false _ _ ge, a.1))))

slot_count : (s : State) (q : Preserved) (slot : Slot) → length (preserving_slot s q slot) ≡ length q
slot_count s q (standard which) = refl
slot_count s q (declared i e g) = length-set q i (slice_set (numbers_at q i) g (read14 s (declared i e g)))

-- items, which aren't all fields

item_is : (ds : List Decl) (s : State) (q : Preserved) (x : Item) (k : ℕ) → k < length q → (f : ℕ) → f < length (numbers_at q k) → ItemAtFirst ds k x → get_or (numbers_at (preserving_item ds s q x) k) f 0 ≡ cond (is_item ds k f x) (read14 s (declared k 0 f)) (get_or (numbers_at q k) f 0)
item_is ds s q (item.Field r) k lt f within first = slot_is s q (slot_of ds r) k lt f within first
item_is ds s q _ k lt f within first = refl

pub item_lengths : (ds : List Decl) (s : State) (q : Preserved) (x : Item) (k : ℕ) → length (numbers_at (preserving_item ds s q x) k) ≡ length (numbers_at q k)
item_lengths ds s q (item.Field r) k = slot_lengths s q (slot_of ds r) k
item_lengths ds s q _ k = refl

item_count : (ds : List Decl) (s : State) (q : Preserved) (x : Item) → length (preserving_item ds s q x) ≡ length q
item_count ds s q (item.Field r) = slot_count s q (slot_of ds r)
item_count ds s q _ = refl

pub items_count : (ds : List Decl) (s : State) (xs : List Item) (q : Preserved) → length (fold (preserving_item ds s) q xs) ≡ length q
items_count ds s [] q = refl
items_count ds s (x ∷ xs) q = items_count ds s xs (preserving_item ds s q x) ∙ item_count ds s q x

pub items_lengths : (ds : List Decl) (s : State) (xs : List Item) (q : Preserved) (k : ℕ) → length (numbers_at (fold (preserving_item ds s) q xs) k) ≡ length (numbers_at q k)
items_lengths ds s [] q k = refl
items_lengths ds s (x ∷ xs) q k = items_lengths ds s xs (preserving_item ds s q x) k ∙ item_lengths ds s q x k

-- each field of the list has its number, and the others what they had
pub items_are : (ds : List Decl) (s : State) (xs : List Item) (q : Preserved) (k : ℕ) → k < length q → (f : ℕ) → f < length (numbers_at q k) → ItemsAtFirst ds k xs → get_or (numbers_at (fold (preserving_item ds s) q xs) k) f 0 ≡ cond (list_any (is_item ds k f) xs) (read14 s (declared k 0 f)) (get_or (numbers_at q k) f 0)
items_are ds s [] q k lt f within first = refl
items_are ds s (x ∷ xs) q k lt f within first =
    items_are ds s xs (preserving_item ds s q x) k (omega (arith, lt, item_count ds s q x)) f (omega (arith, within, item_lengths ds s q x k)) first.1
    ∙ ap (λ n. cond (list_any (is_item ds k f) xs) (read14 s (declared k 0 f)) n) (item_is ds s q x k lt f within first.0)
    ∙ by (is_item ds k f x) (list_any (is_item ds k f) xs) where
      by : (a b : Bool) → cond b (read14 s (declared k 0 f)) (cond a (read14 s (declared k 0 f)) (get_or (numbers_at q k) f 0)) ≡ cond (a || b) (read14 s (declared k 0 f)) (get_or (numbers_at q k) f 0)
      by true true = refl
      by true false = refl
      by false true = refl
      by false false = refl
