-- What each write to a packed frame changes of what is read, and that this is the value that is written.
use Rattle.std.proofs.Common.{◌≡◌, ◌⊎◌, inl, inr, ℕ, zero, suc, ◌+◌, ◌-◌, ◌<◌, ◌≤◌, Bool, true, false, cond, Option, Some, None, List, [], ◌∷◌, ◌++◌, length, map, take, drop, replicate, get_or, set, refl, sym, ap, ◌∙◌, subst, arith, length-append, length-take-le}
use Rattle.std.proofs.lemmas.List.{get_or_append_left, get_or-append_right, get_or-take, get_or-drop, get_or-replicate, get_or-set_same, get_or-set_other, length-replicate}
use Rattle.p416_syntax.specs.Scopes.{FieldKind}
use Rattle.p416_syntax.specs.Totals.{bits_in}
use Rattle.v1_core.specs.Values.{Field, cleared_field, cleared}
use Rattle.v1_core.specs.Numbers.{is_same_truth}
use Rattle.v1_core.specs.Numbered.{made_valid}
use Rattle.v1_core.specs.declared.layout.HeaderSlots.{HeaderSlots}
use Rattle.v1_core.specs.Layouts.{no_slots}
use Rattle.v1_core.specs.Cells.{Cells, owner_valid, slot_value, header_valid, cleared_numbers, with_validity}
use Rattle.v1_core.specs.Seats.{Start, moved}
use Rattle.v1_core.specs.PackedValues.{field_values, header_value}
use Rattle.v1_core.specs.Laid.{AreFields, IsHeader, OwnersAgree}
use Rattle.v1_core.proofs.Reading.{by_truth}
use Rattle.v1_core.proofs.Same.{fields_same}
use Rattle.v1_core.proofs.Writing.{split_first}

-- numbers that are cleared

outside : (from to : ℕ) (xs : List ℕ) (j : ℕ) → from ≤ to → to ≤ length xs → (j < from) ⊎ (to ≤ j) → get_or (take from xs ++ replicate (to - from) 0 ++ drop to xs) j 0 ≡ get_or xs j 0
outside from to xs j order within (inl lt) =
    let front = take from xs ++ replicate (to - from) 0 in
    let first : length (take from xs) ≡ from = length-take-le from xs (omega arith) in
    get_or_append_left front (drop to xs) 0 j (omega (arith, length-append (take from xs) (replicate (to - from) 0)))
    ∙ get_or_append_left (take from xs) (replicate (to - from) 0) 0 j (omega arith)
    ∙ get_or-take from xs j 0 lt
outside from to xs j order within (inr le) =
    let front = take from xs ++ replicate (to - from) 0 in
    let first : length (take from xs) ≡ from = length-take-le from xs (omega arith) in
    let more : length (replicate {A = ℕ} (to - from) 0) ≡ to - from = length-replicate {A = ℕ} (to - from) 0 in
    let long : length front ≡ to = omega (arith, length-append (take from xs) (replicate (to - from) 0)) in
    let back : to + (j - to) ≡ j = omega arith in
    get_or-append_right front (drop to xs) to j 0 long le ∙ get_or-drop to xs (j - to) 0 ∙ ap (λ (i : ℕ). get_or xs i 0) back

inside : (from to : ℕ) (xs : List ℕ) (j : ℕ) → to ≤ length xs → from ≤ j → j < to → get_or (take from xs ++ replicate (to - from) 0 ++ drop to xs) j 0 ≡ 0
inside from to xs j within le lt =
    let front = take from xs ++ replicate (to - from) 0 in
    let first : length (take from xs) ≡ from = length-take-le from xs (omega arith) in
    let more : length (replicate {A = ℕ} (to - from) 0) ≡ to - from = length-replicate {A = ℕ} (to - from) 0 in
    get_or_append_left front (drop to xs) 0 j (omega (arith, length-append (take from xs) (replicate (to - from) 0)))
    ∙ get_or-append_right (take from xs) (replicate (to - from) 0) from j 0 first le
    ∙ get_or-replicate (to - from) (j - from) 0 0 (omega arith)

-- a header that becomes valid or invalid

-- what is no field of it reads as before
pub validity_others : (c : Cells) (fields : ℕ) (b : Start) (on : Bool) (j : ℕ) → OwnersAgree c.layout → IsHeader c.layout fields b → length c.numbers ≡ length c.layout.widths → (j < b.slot) ⊎ (b.slot + fields ≤ j) → slot_value (with_validity c b.header on) j ≡ slot_value c j
validity_others c fields b on j agree laid many apart =
    ap (λ (m : ℕ). cond (owner_valid (set c.valids b.header on) owner) m 0) numbers
    ∙ ap (λ (live : Bool). cond live (get_or c.numbers j 0) 0) (by owner refl) where
      owner : Option ℕ
      owner = get_or c.layout.owners j None

      slots : HeaderSlots
      slots = get_or c.layout.headers b.header no_slots

      numbers : get_or (cond (is_same_truth (header_valid c b.header) on) c.numbers (cleared_numbers slots c.numbers)) j 0 ≡ get_or c.numbers j 0
      numbers =
          rw laid.slots (by_truth (λ (same : Bool). get_or (cond same c.numbers (cleared_numbers (record { from = b.slot; to = b.slot + fields }) c.numbers)) j 0 ≡ get_or c.numbers j 0) refl
          (outside b.slot (b.slot + fields) c.numbers j (omega arith) (omega (arith, laid.room)) apart) (is_same_truth (header_valid c b.header) on))

      far : b.slot ≤ j → j < b.slot + fields → (j < b.slot) ⊎ (b.slot + fields ≤ j) → ⊥
      far low high (inl lt) = omega arith
      far low high (inr le) = omega arith

      clash : owner ≡ Some b.header → ⊥
      clash own =
          let within : (slots.from ≤ j) × (j < slots.to) = agree j b.header own in
          let low : b.slot ≤ j = subst (λ (s : HeaderSlots). s.from ≤ j) laid.slots within.0 in
          let high : j < b.slot + fields = subst (λ (s : HeaderSlots). j < s.to) laid.slots within.1 in
          far low high apart

      by : (o : Option ℕ) → owner ≡ o → owner_valid (set c.valids b.header on) o ≡ owner_valid c.valids o
      by None e = refl
      by (Some header) e = get_or-set_other c.valids b.header header on false (λ same. clash (subst (λ (h : ℕ). owner ≡ Some h) same e))

-- the owner of a field of it
pub field_owner : (c : Cells) (header : ℕ) (count : ℕ) (b : Start) (j : ℕ) → AreFields c.layout header count b → b.slot ≤ j → j < b.slot + count → get_or c.layout.owners j None ≡ Some header
field_owner c header zero b j laid le lt = absurd (omega arith)
field_owner c header (suc count) b j laid le lt =
    by (split_first b.slot j le) (λ l. field_owner c header count (moved b 1 0 0) j laid.1 l (omega arith)) where
      by : (b.slot ≡ j) ⊎ (b.slot + 1 ≤ j) → (b.slot + 1 ≤ j → get_or c.layout.owners j None ≡ Some header) → get_or c.layout.owners j None ≡ Some header
      by (inl e) rest = subst (λ (i : ℕ). get_or c.layout.owners i None ≡ Some header) e laid.0.owned
      by (inr l) rest = rest l

zero_fields : (fields : List FieldKind) (c d : Cells) (b : Start) → ((i : ℕ) → b.slot ≤ i → i < b.slot + length fields → slot_value d i ≡ 0) → field_values fields d b ≡ map cleared_field (field_values fields c b)
zero_fields [] c d b off = refl
zero_fields (f ∷ fields) c d b off =
    ap (λ (n : ℕ). record { called = f.called; width = bits_in f.kind; number = n } ∷ field_values fields d (moved b 1 0 0)) (off b.slot (omega arith) (omega arith))
    ∙ ap (λ (l : List Field). record { called = f.called; width = bits_in f.kind; number = 0 } ∷ l) (zero_fields fields c d (moved b 1 0 0) (λ i le lt. off i (omega arith) (omega arith)))

same_truth : (a b : Bool) → is_same_truth a b ≡ true → a ≡ b
same_truth true true e = refl
same_truth false false e = refl
same_truth true false e = absurd (cc e)
same_truth false true e = absurd (cc e)

-- the header itself
pub validity_value : (c : Cells) (fields : List FieldKind) (b : Start) (on : Bool) → IsHeader c.layout (length fields) b → length c.numbers ≡ length c.layout.widths → length c.valids ≡ length c.layout.headers → made_valid on (header_value fields c b) ≡ header_value fields (with_validity c b.header on) b
validity_value c fields b on laid many marked =
    by_truth (λ (same : Bool). is_same_truth (header_valid c b.header) on ≡ same → cond same (header_value fields c b) (cleared on (header_value fields c b)) ≡ header_value fields d b)
    (λ e.
    let keeps : (i : ℕ) → b.slot ≤ i → i < b.slot + length fields → slot_value c i ≡ slot_value d i = λ i le lt.
    sym (reads i le lt ∙ ap (λ (l : List ℕ). cond on (get_or l i 0) 0) (ap (λ (s : Bool). cond s c.numbers (cleared_numbers slots c.numbers)) e)
    ∙ ap (λ (v : Bool). cond v (get_or c.numbers i 0) 0) (sym (same_truth (header_valid c b.header) on e)) ∙ sym (own c i (field_owner c b.header (length fields) b i laid.each le lt))) in
    ap (λ (v : Bool). record { valid = v; fields = field_values fields c b }) (same_truth (header_valid c b.header) on e ∙ sym valid)
    ∙ ap (λ (l : List Field). record { valid = header_valid d b.header; fields = l }) (fields_same fields c d b keeps))
    (λ e.
    let off : (i : ℕ) → b.slot ≤ i → i < b.slot + length fields → slot_value d i ≡ 0 = λ i le lt.
    reads i le lt ∙ ap (λ (l : List ℕ). cond on (get_or l i 0) 0) (ap (λ (s : Bool). cond s c.numbers (cleared_numbers slots c.numbers)) e)
    ∙ ap (λ (s : HeaderSlots). cond on (get_or (cleared_numbers s c.numbers) i 0) 0) laid.slots
    ∙ ap (λ (m : ℕ). cond on m 0) (inside b.slot (b.slot + length fields) c.numbers i (omega (arith, laid.room)) le lt)
    ∙ by_truth (λ (v : Bool). ◌≡◌ {A = ℕ} (cond v 0 0) 0) refl refl on in
    ap (λ (v : Bool). record { valid = v; fields = map cleared_field (field_values fields c b) }) (sym valid)
    ∙ ap (λ (l : List Field). record { valid = header_valid d b.header; fields = l }) (sym (zero_fields fields c d b off)))
    (is_same_truth (header_valid c b.header) on) refl where
      d : Cells
      d = with_validity c b.header on

      slots : HeaderSlots
      slots = get_or c.layout.headers b.header no_slots

      valid : header_valid d b.header ≡ on
      valid = get_or-set_same c.valids b.header on false (omega (arith, laid.within))

      own : (x : Cells) (i : ℕ) → get_or x.layout.owners i None ≡ Some b.header → slot_value x i ≡ cond (header_valid x b.header) (get_or x.numbers i 0) 0
      own x i e = ap (λ (o : Option ℕ). cond (owner_valid x.valids o) (get_or x.numbers i 0) 0) e

      reads : (i : ℕ) → b.slot ≤ i → i < b.slot + length fields → slot_value d i ≡ cond on (get_or d.numbers i 0) 0
      reads i le lt = own d i (field_owner c b.header (length fields) b i laid.each le lt) ∙ ap (λ (v : Bool). cond v (get_or d.numbers i 0) 0) valid
