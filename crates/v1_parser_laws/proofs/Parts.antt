-- Where the headers of a value stand, and what each write to a frame keeps.
use Rattle.std.proofs.Common.{◌≡◌, ◌⊎◌, inl, inr, ℕ, zero, suc, ◌+◌, ◌-◌, ◌*◌, ◌^◌, ◌<◌, ◌≤◌, Bool, true, false, cond, Option, Some, None, List, [], ◌∷◌, ◌++◌, length, take, drop, replicate, get_or, set, refl, sym, ap, ◌∙◌, subst, arith, pow_pos, length-append, length-take-le}
use Rattle.std.proofs.lemmas.Bool.{cases_eq}
use Rattle.std.proofs.lemmas.List.{get_or_append_left, get_or-append_right, get_or-take, get_or-drop, get_or-replicate, get_or-set_same, get_or-set_other, length-set, length-replicate, length-drop}
use Rattle.p416_syntax.specs.Scopes.{Layout as TypeLayout, FieldKind, fields_in}
use Rattle.v1_core.specs.Numbers.{is_same_truth}
use Rattle.v1_core.specs.declared.layout.HeaderSlots.{HeaderSlots}
use Rattle.v1_core.specs.Layouts.{Layout, no_slots}
use Rattle.v1_core.specs.Cells.{Cells, is_live, slot_value, with_slot, header_valid, cleared_numbers, with_validity, stack_place, stack_size, with_stack_place, AreWhole}
use Rattle.v1_core.specs.Seats.{Form, slot_form, header_form, stack_form, struct_form, no_form, form_of, Start, moved, behind_members, behind}
use Rattle.v1_core.specs.Laid.{IsHeader, AreElements, AreMembers, IsLaid}
use Rattle.v1_core.proofs.Starts.{Before, at_once, members_before, ends_behind}
use Rattle.v1_core.proofs.Reading.{by_truth}
use Rattle.v1_core.proofs.Writing.{split_first}

pub below_or : (a n : ℕ) → (a < n) ⊎ (n ≤ a)
below_or a zero = inr (omega arith)
below_or zero (suc n) = inl (omega arith)
below_or (suc a) (suc n) = up (below_or a n) where
  up : (a < n) ⊎ (n ≤ a) → (suc a < suc n) ⊎ (suc n ≤ suc a)
  up (inl lt) = inl (omega arith)
  up (inr le) = inr (omega arith)

-- a header that stands between two places, with its fields
pub record HeaderThere (l : Layout) (b e : Start) (h : ℕ) : Type 0 where
  pub fields : ℕ
  pub start : Start
  pub at : start.header ≡ h
  pub laid : IsHeader l fields start
  pub low : b.slot ≤ start.slot
  pub high : start.slot + fields ≤ e.slot

there_within : (l : Layout) (a b e f : Start) (h : ℕ) → Before a b → Before e f → HeaderThere l b e h → HeaderThere l a f h
there_within l a b e f h x y t = record {
  fields = t.fields;
  start = t.start;
  at = t.at;
  laid = t.laid;
  low = omega (arith, x.slot, t.low);
  high = omega (arith, y.slot, t.high);
}

here_or : (l : Layout) (fields count : ℕ) (b : Start) (h : ℕ) → (b.header ≡ h) ⊎ (b.header + 1 ≤ h) → IsHeader l fields b → (b.header + 1 ≤ h → HeaderThere l (moved b fields 1 0) (moved (moved b fields 1 0) (count * fields) count 0) h) → HeaderThere l b (moved b ((suc count) * fields) (suc count) 0) h
here_or l fields count b h (inl e) laid further =
    let more : (suc count) * fields ≡ fields + count * fields = omega arith in
    record { fields = fields; start = b; at = e; laid = laid; low = omega arith; high = omega arith }
here_or l fields count b h (inr after) laid further =
    let next = moved b fields 1 0 in
    let more : (suc count) * fields ≡ fields + count * fields = omega arith in
    let first : Before b next = record { slot = omega arith; header = omega arith; stack = omega arith } in
    let last : Before (moved next (count * fields) count 0) (moved b ((suc count) * fields) (suc count) 0) = record { slot = omega arith; header = omega arith; stack = omega arith } in
    there_within l b next (moved next (count * fields) count 0) (moved b ((suc count) * fields) (suc count) 0) h first last (further after)

elements_there : (l : Layout) (fields count : ℕ) (b : Start) → AreElements l fields count b → (h : ℕ) → b.header ≤ h → h < b.header + count → HeaderThere l b (moved b (count * fields) count 0) h
elements_there l fields zero b laid h le lt = absurd (omega arith)
elements_there l fields (suc count) b laid h le lt =
    here_or l fields count b h (split_first b.header h le) laid.0
    (λ after. elements_there l fields count (moved b fields 1 0) laid.1 h after (omega arith))

member_or : (l : Layout) (next : Form → Start → Start) → ((k : Form) (s : Start) → Before s (next k s)) → (k : Form) (fields : List FieldKind) (b : Start) (h : ℕ) → (h < (next k b).header) ⊎ ((next k b).header ≤ h) → (h < (next k b).header → HeaderThere l b (next k b) h) → ((next k b).header ≤ h → HeaderThere l (next k b) (behind_members next fields (next k b)) h) → HeaderThere l b (behind_members next fields (next k b)) h
member_or l next grows k fields b h (inl before) here further =
    there_within l b b (next k b) (behind_members next fields (next k b)) h (at_once b) (members_before next grows fields (next k b)) (here before)
member_or l next grows k fields b h (inr after) here further =
    there_within l b (next k b) (behind_members next fields (next k b)) (behind_members next fields (next k b)) h (grows k b)
    (at_once (behind_members next fields (next k b))) (further after)

members_there : (l : Layout) (P : Form → Start → Type 0) (next : Form → Start → Start) → ((k : Form) (s : Start) → Before s (next k s)) → ((k : Form) (s : Start) → P k s → (h : ℕ) → s.header ≤ h → h < (next k s).header → HeaderThere l s (next k s) h) → (fields : List FieldKind) (b : Start) → AreMembers P next fields b → (h : ℕ) → b.header ≤ h → h < (behind_members next fields b).header → HeaderThere l b (behind_members next fields b) h
members_there l P next grows each [] b laid h le lt = absurd (omega arith)
members_there l P next grows each (f ∷ fields) b laid h le lt =
    member_or l next grows (form_of f.kind) fields b h (below_or h (next (form_of f.kind) b).header)
    (λ before. each (form_of f.kind) b laid.0 h le before)
    (λ after. members_there l P next grows each fields (next (form_of f.kind) b) laid.1 h after lt)

pub header_there : (l : Layout) (types : List TypeLayout) (n : ℕ) (k : Form) (b : Start) → IsLaid l types n k b → (h : ℕ) → b.header ≤ h → h < (behind types n k b).header → HeaderThere l b (behind types n k b) h
header_there l types n (slot_form of) b laid h le lt = absurd (omega arith)
header_there l types n (header_form type) b laid h le lt = record {
  fields = length (fields_in types type);
  start = b;
  at = omega arith;
  laid = laid;
  low = omega arith;
  high = omega arith;
}
header_there l types n (stack_form type size) b laid h le lt =
    let inner = moved b (size * length (fields_in types type)) size 0 in
    let ends : Before inner (moved b (size * length (fields_in types type)) size 1) = record { slot = omega arith; header = omega arith; stack = omega arith } in
    there_within l b b inner (moved b (size * length (fields_in types type)) size 1) h (at_once b) ends
    (elements_there l (length (fields_in types type)) size b laid.1 h le lt)
header_there l types zero (struct_form type) b laid h le lt = absurd (omega arith)
header_there l types (suc n) (struct_form type) b laid h le lt =
    members_there l (λ k s. IsLaid l types n k s) (λ k s. behind types n k s) (λ k s. ends_behind types n k s)
    (λ k s p i low high. header_there l types n k s p i low high) (fields_in types type) b laid h le lt
header_there l types n no_form b laid h le lt = absurd (omega arith)

-- what is put at a place of a list is there, or the list isn't so long

pub zero_put : (xs : List ℕ) (i : ℕ) → get_or (set xs i 0) i 0 ≡ 0
zero_put [] zero = refl
zero_put [] (suc i) = refl
zero_put (x ∷ xs) zero = refl
zero_put (x ∷ xs) (suc i) = zero_put xs i

pub off_put : (xs : List Bool) (i : ℕ) → get_or (set xs i false) i false ≡ false
off_put [] zero = refl
off_put [] (suc i) = refl
off_put (x ∷ xs) zero = refl
off_put (x ∷ xs) (suc i) = off_put xs i

-- what is 0 stays so where 0 is put somewhere
pub zero_kept : (xs : List ℕ) (i j : ℕ) → get_or xs j 0 ≡ 0 → get_or (set xs i 0) j 0 ≡ 0
zero_kept xs i j is =
    elim (cases_eq j i) [
      | inl same ↦ rw same (zero_put xs i)
      | inr apart ↦ get_or-set_other xs i j 0 0 apart ∙ is
    ]

pub off_kept : (xs : List Bool) (i j : ℕ) → get_or xs j false ≡ false → get_or (set xs i false) j false ≡ false
off_kept xs i j is =
    elim (cases_eq j i) [
      | inl same ↦ rw same (off_put xs i)
      | inr apart ↦ get_or-set_other xs i j false false apart ∙ is
    ]

-- each write keeps a frame whole

some_put : (xs : List ℕ) (i k n : ℕ) → i < length xs → n < k → get_or (set xs i n) i 0 < k
some_put xs i k n lt fits = subst (λ (m : ℕ). m < k) (sym (get_or-set_same xs i n 0 lt)) fits

numbers_fit : (widths numbers : List ℕ) (i n : ℕ) → length numbers ≡ length widths → n < 2 ^ get_or widths i 0 → ((s : ℕ) → s < length widths → get_or numbers s 0 < 2 ^ get_or widths s 0) → (s : ℕ) → s < length widths → get_or (set numbers i n) s 0 < 2 ^ get_or widths s 0
numbers_fit widths numbers i n many fit fits s lt =
    elim (cases_eq s i) [
      | inl same ↦ subst (λ (j : ℕ). get_or (set numbers i n) j 0 < 2 ^ get_or widths j 0) (sym same) (some_put numbers i (2 ^ get_or widths i 0) n (omega (arith, same, lt, many)) fit)
      | inr apart ↦ subst (λ (m : ℕ). m < 2 ^ get_or widths s 0) (sym (get_or-set_other numbers i s n 0 apart)) (fits s lt)
    ]

pub whole_number : (c : Cells) (i n : ℕ) → n < 2 ^ get_or c.layout.widths i 0 → AreWhole c → AreWhole (with_slot c i n)
whole_number c i n fit w = by (is_live c i) where
  by : (live : Bool) → AreWhole (record c { numbers = cond live (set c.numbers i n) c.numbers })
  by true = record {
    numbers = length-set c.numbers i n ∙ w.numbers;
    valids = w.valids;
    places = w.places;
    fits = numbers_fit c.layout.widths c.numbers i n w.numbers fit w.fits;
    within = w.within;
  }
  by false = record { numbers = w.numbers; valids = w.valids; places = w.places; fits = w.fits; within = w.within }

pub whole_slot : (c : Cells) (i : ℕ) → AreWhole c → AreWhole (with_slot c i 0)
whole_slot c i w = whole_number c i 0 (pow_pos (get_or c.layout.widths i 0)) w

-- what is put at a place of a list is there at most
put_most : (xs : List ℕ) (i n : ℕ) → get_or (set xs i n) i 0 ≤ n
put_most [] zero n = omega arith
put_most [] (suc i) n = omega arith
put_most (x ∷ xs) zero n = omega arith
put_most (x ∷ xs) (suc i) n = put_most xs i n

pub whole_stack : (c : Cells) (i place : ℕ) → place ≤ stack_size c i → AreWhole c → AreWhole (with_stack_place c i place)
whole_stack c i place fit w = record {
  numbers = w.numbers;
  valids = w.valids;
  places = length-set c.places i place ∙ w.places;
  fits = w.fits;
  within = λ s.
      elim (cases_eq s i) [
        | inl same ↦ subst (λ (j : ℕ). get_or (set c.places i place) j 0 ≤ stack_size c j) (sym same) (omega (arith, put_most c.places i place, fit))
        | inr apart ↦ subst (λ (n : ℕ). n ≤ stack_size c s) (sym (get_or-set_other c.places i s place 0 apart)) (w.within s)
      ];
}

pub whole_place : (c : Cells) (i : ℕ) → AreWhole c → AreWhole (with_stack_place c i 0)
whole_place c i w = whole_stack c i 0 (omega arith) w

cleared_length : (from to : ℕ) (xs : List ℕ) → from ≤ to → to ≤ length xs → length (take from xs ++ replicate (to - from) 0 ++ drop to xs) ≡ length xs
cleared_length from to xs order within =
    let front = take from xs ++ replicate (to - from) 0 in
    let first : length (take from xs) ≡ from = length-take-le from xs (omega arith) in
    let middle : length (replicate {A = ℕ} (to - from) 0) ≡ to - from = length-replicate {A = ℕ} (to - from) 0 in
    let last : length (drop to xs) ≡ length xs - to = length-drop to xs in
    omega (arith, length-append (take from xs) (replicate (to - from) 0), length-append front (drop to xs))

cleared_number : (from to : ℕ) (xs : List ℕ) (j : ℕ) → from ≤ to → to ≤ length xs → (get_or (take from xs ++ replicate (to - from) 0 ++ drop to xs) j 0 ≡ get_or xs j 0) ⊎ (get_or (take from xs ++ replicate (to - from) 0 ++ drop to xs) j 0 ≡ 0)
cleared_number from to xs j order within = by (below_or j from) (below_or j to) where
  front : List ℕ
  front = take from xs ++ replicate (to - from) 0

  first : length (take from xs) ≡ from
  first = length-take-le from xs (omega arith)

  middle : length (replicate {A = ℕ} (to - from) 0) ≡ to - from
  middle = length-replicate {A = ℕ} (to - from) 0

  long : length front ≡ to
  long = omega (arith, first, middle, length-append (take from xs) (replicate (to - from) 0))

  by : (j < from) ⊎ (from ≤ j) → (j < to) ⊎ (to ≤ j) → (get_or (front ++ drop to xs) j 0 ≡ get_or xs j 0) ⊎ (get_or (front ++ drop to xs) j 0 ≡ 0)
  by (inl lt) side =
      inl (get_or_append_left front (drop to xs) 0 j (omega (arith, long)) ∙ get_or_append_left (take from xs) (replicate (to - from) 0) 0 j (omega (arith, first)) ∙ get_or-take from xs j 0 lt)
  by (inr low) (inl lt) =
      inr (get_or_append_left front (drop to xs) 0 j (omega (arith, long)) ∙ get_or-append_right (take from xs) (replicate (to - from) 0) from j 0 first low ∙ get_or-replicate (to - from) (j - from) 0 0 (omega arith))
  by (inr low) (inr le) =
      let back : to + (j - to) ≡ j = omega arith in
      inl (get_or-append_right front (drop to xs) to j 0 long le ∙ get_or-drop to xs (j - to) 0 ∙ ap (λ (i : ℕ). get_or xs i 0) back)

either_fits : (n m k : ℕ) → (n ≡ m) ⊎ (n ≡ 0) → m < k → n < k
either_fits n m k (inl e) lt = omega arith
either_fits n m k (inr e) lt = omega arith

pub whole_marked : (c : Cells) (fields : ℕ) (b : Start) (on : Bool) → IsHeader c.layout fields b → AreWhole c → AreWhole (with_validity c b.header on)
whole_marked c fields b on laid w = by (is_same_truth (header_valid c b.header) on) where
  room : b.slot + fields ≤ length c.numbers
  room = omega (arith, laid.room, w.numbers)

  put : List Bool
  put = set c.valids b.header on

  by : (same : Bool) → AreWhole (record c { numbers = cond same c.numbers (cleared_numbers (get_or c.layout.headers b.header no_slots) c.numbers); valids = put })
  by true = record {
    numbers = w.numbers;
    valids = length-set c.valids b.header on ∙ w.valids;
    places = w.places;
    fits = w.fits;
    within = w.within;
  }
  by false =
      subst (λ (s : HeaderSlots). AreWhole (record c { numbers = cleared_numbers s c.numbers; valids = put })) (sym laid.slots)
      (record {
        numbers = cleared_length b.slot (b.slot + fields) c.numbers (omega arith) room ∙ w.numbers;
        valids = length-set c.valids b.header on ∙ w.valids;
        places = w.places;
        fits = λ s lt. either_fits _ _ _ (cleared_number b.slot (b.slot + fields) c.numbers s (omega arith) room) (w.fits s lt);
        within = w.within;
      })

pub whole_validity : (c : Cells) (fields : ℕ) (b : Start) → IsHeader c.layout fields b → AreWhole c → AreWhole (with_validity c b.header false)
whole_validity c fields b laid w = whole_marked c fields b false laid w
