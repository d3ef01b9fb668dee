-- Frames and layouts by their parts.
use Rattle.std.proofs.Common.{◌≡◌, ℕ, zero, suc, ◌<◌, ◌≤◌, Bool, ◌+◌, ◌-◌, ◌^◌, true, false, cond, List, [], ◌∷◌, ◌++◌, length, take, drop, replicate, get_or, set, Option, Some, None, refl, sym, ap, ◌∙◌, subst, arith, pow_pos, append_assoc, append-nil, length-append, length-set, length-take-le, take-append-drop}
use Rattle.std.specs.Prelude.{All}
use Rattle.std.proofs.lemmas.List.Elements.{All-append}
use Rattle.std.proofs.lemmas.List.{drop_more, set_at, replicate_more, length-replicate, get_or_past, set-get_or, get_or-set_same, get_or-set_other, get_or_append_left, get_or-append_right, get_or-replicate, take_all}
use Rattle.std.proofs.lemmas.Bool.{ltb-true, ltb-false, eqb-true, eqb-false}
use Rattle.std.proofs.Math.Dec.{ltb, eqb}
use Rattle.fabric.specs.declared.items.Event.{Event}
use Rattle.fabric.specs.declared.items.RequestKind.{RequestKind}
use Rattle.fabric.specs.declared.items.RequestKind.TheVariants.{CloneI2E, CloneE2E, Resubmit, Recirculate}
use Rattle.v1_core.specs.Numbers.{is_same_truth}
use Rattle.v1_core.specs.declared.layout.HeaderSlots.{HeaderSlots}
use Rattle.v1_core.specs.declared.requests.Requests.{Requests}
use Rattle.v1_core.specs.Layouts.{Layout, no_slots}
use Rattle.v1_core.specs.Cells.{Cells, owner_valid, is_live, slot_value, with_slot, header_slots, cleared_numbers, with_validity, request_of, AreWhole}
use Rattle.v1_core.specs.internal.Parts.{cells_with, request_in, AreWithin, AreOwned, AreFields, IsOwned, AreParts, AreKept}

-- what is past the last mark is none
pub past_marks : (marks : List Bool) (i : ℕ) → length marks ≤ i → false ≡ get_or marks i false
past_marks marks i le = sym (get_or_past marks i false le)

-- the last request of a kind
pub request_is : (layout : Layout) (numbers : List ℕ) (valids : List Bool) (places : List ℕ) (requests : Requests) (events : List Event) (kind : RequestKind) → request_in requests kind ≡ request_of (cells_with layout numbers valids places requests events) kind
request_is layout numbers valids places requests events CloneI2E = refl
request_is layout numbers valids places requests events CloneE2E = refl
request_is layout numbers valids places requests events Resubmit = refl
request_is layout numbers valids places requests events Recirculate = refl

-- each part has what fits it
pub are_whole : (seen c : Cells) → seen ≡ c → AreKept seen → AreWhole c
are_whole seen c view kept = subst AreWhole view kept.whole

-- what stands in a slot is what is read there
pub kept_value : (c : Cells) (slot : ℕ) → AreKept c → get_or c.numbers slot 0 ≡ slot_value c slot
kept_value c slot kept = by (is_live c slot) refl where
  by : (live : Bool) → is_live c slot ≡ live → get_or c.numbers slot 0 ≡ cond live (get_or c.numbers slot 0) 0
  by true e = refl
  by false e = kept.quiet slot e

pub reads_value : (seen c : Cells) (slot n : ℕ) → seen ≡ c → AreKept seen → n ≡ get_or seen.numbers slot 0 → n ≡ slot_value c slot
reads_value seen c slot n view kept is = is ∙ kept_value seen slot kept ∙ ap (λ (x : Cells). slot_value x slot) view

-- as it is at first

zero_at : (n i : ℕ) → get_or {A = ℕ} (replicate n 0) i 0 ≡ 0
zero_at zero i = refl
zero_at (suc n) zero = refl
zero_at (suc n) (suc i) = zero_at n i

pub whole_first : (layout : Layout) (n m k : ℕ) (numbers : List ℕ) (valids : List Bool) (places : List ℕ) (requests : Requests) (events : List Event) → numbers ≡ replicate n 0 → valids ≡ replicate m false → places ≡ replicate k 0 → n ≡ length layout.widths → m ≡ length layout.headers → k ≡ length layout.sizes → AreWhole (cells_with layout numbers valids places requests events)
whole_first layout n m k numbers valids places requests events zeros marks none slots headers stacks = record {
  numbers = ap length zeros ∙ length-replicate {A = ℕ} n 0 ∙ slots;
  valids = ap length marks ∙ length-replicate {A = Bool} m false ∙ headers;
  places = ap length none ∙ length-replicate {A = ℕ} k 0 ∙ stacks;
  fits = λ slot lt. rw (zeros, zero_at n slot) (pow_pos (get_or layout.widths slot 0));
  within = λ stack. rw (none, zero_at k stack) (omega arith);
}

pub kept_first : (layout : Layout) (n m k : ℕ) (numbers : List ℕ) (valids : List Bool) (places : List ℕ) (requests : Requests) (events : List Event) → length layout.owners ≡ length layout.widths → All (AreWithin (length layout.widths)) layout.headers → AreOwned layout.owners layout.headers → AreFields layout.owners layout.headers → numbers ≡ replicate n 0 → valids ≡ replicate m false → places ≡ replicate k 0 → n ≡ length layout.widths → m ≡ length layout.headers → k ≡ length layout.sizes → AreKept (cells_with layout numbers valids places requests events)
kept_first layout n m k numbers valids places requests events owners within owned fields zeros marks none slots headers stacks = record {
  whole = whole_first layout n m k numbers valids places requests events zeros marks none slots headers stacks;
  owners = owners;
  slots = within;
  owned = owned;
  fields = fields;
  quiet = λ slot off. rw zeros (zero_at n slot);
}

-- a number that is put where it is read again
pub kept_put : (layout : Layout) (numbers new : List ℕ) (valids : List Bool) (places : List ℕ) (requests : Requests) (events : List Event) (slot n : ℕ) → AreKept (cells_with layout numbers valids places requests events) → owner_valid valids (get_or layout.owners slot None) ≡ true → n < 2 ^ get_or layout.widths slot 0 → new ≡ set numbers slot n → AreKept (cells_with layout new valids places requests events)
kept_put layout numbers new valids places requests events slot n kept live fits put = record {
  whole = record {
    numbers = ap length put ∙ length-set numbers slot n ∙ kept.whole.numbers;
    valids = kept.whole.valids;
    places = kept.whole.places;
    fits = λ i lt. rw put (in_width i lt (eqb i slot) refl);
    within = kept.whole.within;
  };
  owners = kept.owners;
  slots = kept.slots;
  owned = kept.owned;
  fields = kept.fields;
  quiet = λ i off. rw put (is_zero i off (eqb i slot) refl);
} where
  in_width : (i : ℕ) → i < length layout.widths → (b : Bool) → eqb i slot ≡ b → get_or (set numbers slot n) i 0 < 2 ^ get_or layout.widths i 0
  in_width i lt true e =
      let same : i ≡ slot = eqb-true i slot e in
      let there : slot < length numbers = omega (arith, kept.whole.numbers, lt, same) in
      rw (same, get_or-set_same numbers slot n 0 there) fits
  in_width i lt false e = rw (get_or-set_other numbers slot i n 0 (eqb-false i slot e)) (kept.whole.fits i lt)

  is_zero : (i : ℕ) → owner_valid valids (get_or layout.owners i None) ≡ false → (b : Bool) → eqb i slot ≡ b → get_or (set numbers slot n) i 0 ≡ 0
  is_zero i off true e =
      let same : i ≡ slot = eqb-true i slot e in
      absurd (cc (sym live ∙ ap (λ (k : ℕ). owner_valid valids (get_or layout.owners k None)) (sym same) ∙ off))
  is_zero i off false e = get_or-set_other numbers slot i n 0 (eqb-false i slot e) ∙ kept.quiet i off

-- the numbers of a header, cleared from the first on

-- with 0 in the place of the numbers from one index up to another
abbrev pub cleared : ℕ → ℕ → List ℕ → List ℕ
cleared from to numbers = take from numbers ++ replicate (to - from) 0 ++ drop to numbers

pub nothing_cleared : (from : ℕ) (numbers : List ℕ) → numbers ≡ cleared from from numbers
nothing_cleared from numbers =
    let none : from - from ≡ 0 = omega arith in
    sym (
    ap (λ (n : ℕ). take from numbers ++ replicate n 0 ++ drop from numbers) none
    ∙ ap (λ (l : List ℕ). l ++ drop from numbers) (append-nil (take from numbers))
    ∙ take-append-drop from numbers)

pub one_cleared_more : (numbers now new : List ℕ) (from index : ℕ) → from ≤ index → index < length numbers → now ≡ cleared from index numbers → new ≡ set now index 0 → new ≡ cleared from (index + 1) numbers
one_cleared_more numbers now new from index le lt is put = put ∙ ap (λ (xs : List ℕ). set xs index 0) is ∙ turn numbers lt where
  turn : (xs : List ℕ) → index < length xs → set (take from xs ++ replicate (index - from) 0 ++ drop index xs) index 0 ≡ take from xs ++ replicate (index + 1 - from) 0 ++ drop (index + 1) xs
  turn xs l =
      let n = index - from in
      let front = take from xs ++ replicate n 0 in
      let behind = drop (index + 1) xs in
      let long : length front ≡ index =
      omega (arith, length-append (take from xs) (replicate n 0), length-take-le from xs (omega arith), length-replicate {A = ℕ} n 0) in
      let next : index + 1 - from ≡ n + 1 = omega arith in
      let more : take from xs ++ replicate (index + 1 - from) 0 ≡ front ++ 0 ∷ [] =
      ap (λ (k : ℕ). take from xs ++ replicate k 0) next
      ∙ ap (λ (zs : List ℕ). take from xs ++ zs) (sym (replicate_more n 0)) ∙ sym (append_assoc (take from xs) (replicate n 0) (0 ∷ [])) in
      ap (λ (ys : List ℕ). set (front ++ ys) index 0) (drop_more xs index 0 l)
      ∙ set_at front (get_or xs index 0) behind 0 index long
      ∙ sym (append_assoc front (0 ∷ []) behind)
      ∙ ap (λ (ys : List ℕ). ys ++ behind) (sym more)

-- a number that becomes 0 is no greater, and the others stay
pub zero_put : (numbers now new : List ℕ) (slot : ℕ) → ((i : ℕ) → get_or now i 0 ≤ get_or numbers i 0) → new ≡ set now slot 0 → (i : ℕ) → get_or new i 0 ≤ get_or numbers i 0
zero_put numbers now new slot less put i = rw put (by now slot i (less i)) where
  by : (xs : List ℕ) (k n : ℕ) → get_or xs n 0 ≤ get_or numbers i 0 → get_or (set xs k 0) n 0 ≤ get_or numbers i 0
  by [] k n le = le
  by (x ∷ xs) zero zero le = omega arith
  by (x ∷ xs) zero (suc n) le = le
  by (x ∷ xs) (suc k) zero le = le
  by (x ∷ xs) (suc k) (suc n) le = by xs k n le

-- numbers that are no greater still fit
pub whole_less : (layout : Layout) (numbers new : List ℕ) (valids : List Bool) (places : List ℕ) (requests : Requests) (events : List Event) (header : ℕ) (on : Bool) → AreWhole (cells_with layout numbers valids places requests events) → length new ≡ length numbers → ((i : ℕ) → get_or new i 0 ≤ get_or numbers i 0) → AreWhole (cells_with layout new (set valids header on) places requests events)
whole_less layout numbers new valids places requests events header on whole many less = record {
  numbers = many ∙ whole.numbers;
  valids = length-set valids header on ∙ whole.valids;
  places = whole.places;
  fits = λ slot lt. omega (arith, less slot, whole.fits slot lt);
  within = whole.within;
}

-- what was cleared is 0
cleared_zero : (from to i : ℕ) (xs : List ℕ) → from ≤ i → i < to → to ≤ length xs → get_or (cleared from to xs) i 0 ≡ 0
cleared_zero from to i xs le lt within =
    let front : length (take from xs) ≡ from = length-take-le from xs (omega arith) in
    let zeros : length (replicate (to - from) 0) ≡ to - from = length-replicate {A = ℕ} (to - from) 0 in
    let long : i < length (take from xs ++ replicate (to - from) 0) = omega (arith, length-append (take from xs) (replicate (to - from) 0), front, zeros) in
    get_or_append_left (take from xs ++ replicate (to - from) 0) (drop to xs) 0 i long
    ∙ get_or-append_right (take from xs) (replicate (to - from) 0) from i 0 front le
    ∙ zero_at (to - from) (i - from)

-- a header that becomes valid or invalid, with fields that are 0
pub kept_cleared : (layout : Layout) (numbers new : List ℕ) (valids : List Bool) (places : List ℕ) (requests : Requests) (events : List Event) (header : ℕ) (on : Bool) (slots : HeaderSlots) → AreKept (cells_with layout numbers valids places requests events) → slots ≡ get_or layout.headers header no_slots → slots.to ≤ length numbers → length new ≡ length numbers → new ≡ cleared slots.from slots.to numbers → ((i : ℕ) → get_or new i 0 ≤ get_or numbers i 0) → AreKept (cells_with layout new (set valids header on) places requests events)
kept_cleared layout numbers new valids places requests events header on slots kept is within many clears less = record {
  whole = whole_less layout numbers new valids places requests events header on kept.whole many less;
  owners = kept.owners;
  slots = kept.slots;
  owned = kept.owned;
  fields = kept.fields;
  quiet = λ i off. by i (get_or layout.owners i None) refl off;
} where
  same_header : (i h : ℕ) → get_or layout.owners i None ≡ Some h → h ≡ header → get_or new i 0 ≡ 0
  same_header i h e same =
      let o = kept.owned i h e in
      let its : get_or layout.headers h no_slots ≡ slots = ap (λ (k : ℕ). get_or layout.headers k no_slots) same ∙ sym is in
      ap (λ (xs : List ℕ). get_or xs i 0) clears
      ∙ cleared_zero slots.from slots.to i numbers (subst (λ (s : HeaderSlots). s.from ≤ i) its o.from) (subst (λ (s : HeaderSlots). i < s.to) its o.to) within

  other_header : (i h : ℕ) → get_or layout.owners i None ≡ Some h → (h ≡ header → ⊥) → get_or (set valids header on) h false ≡ false → get_or new i 0 ≡ 0
  other_header i h e other off =
      let was : get_or valids h false ≡ false = sym (get_or-set_other valids header h on false other) ∙ off in
      omega (arith, less i, kept.quiet i (ap (owner_valid valids) e ∙ was))

  by_header : (i h : ℕ) → get_or layout.owners i None ≡ Some h → get_or (set valids header on) h false ≡ false → (b : Bool) → eqb h header ≡ b → get_or new i 0 ≡ 0
  by_header i h e off true q = same_header i h e (eqb-true h header q)
  by_header i h e off false q = other_header i h e (eqb-false h header q) off

  by : (i : ℕ) (o : Option ℕ) → get_or layout.owners i None ≡ o → owner_valid (set valids header on) o ≡ false → get_or new i 0 ≡ 0
  by i None e off = absurd (cc off)
  by i (Some h) e off = by_header i h e off (eqb h header) refl

-- slots that are added

within_more : (n m : ℕ) (headers : List HeaderSlots) → n ≤ m → All (AreWithin n) headers → All (AreWithin m) headers
within_more n m headers le each = λ k d lt. record { order = (each k d lt).order; within = omega (arith, (each k d lt).within) }

-- more slots, of which isn't told yet whether they are fields
pub parts_wider : (widths more : List ℕ) (owners : List (Option ℕ)) (headers : List HeaderSlots) → AreParts widths owners headers → All (λ width. width ≤ 128) more → AreParts (widths ++ more) owners headers
parts_wider widths more owners headers parts narrow = record {
  narrow = All-append (λ width. width ≤ 128) widths more parts.narrow narrow;
  slots = within_more (length widths) (length (widths ++ more)) headers (omega (arith, length-append widths more)) parts.slots;
  owned = parts.owned;
  fields = parts.fields;
}

pub narrow_one : (width : ℕ) → width ≤ 128 → All (λ width. width ≤ 128) (width ∷ [])
narrow_one width le zero d lt = le
narrow_one width le (suc k) d lt = absurd (omega (arith, lt))

-- one that is no field of a header
pub parts_lone : (widths : List ℕ) (width : ℕ) (owners : List (Option ℕ)) (headers : List HeaderSlots) → AreParts widths owners headers → width ≤ 128 → length owners ≡ length widths → AreParts (widths ++ width ∷ []) (owners ++ None ∷ []) headers
parts_lone widths width owners headers parts narrow level =
    let wider = parts_wider widths (width ∷ []) owners headers parts (narrow_one width narrow) in
    record {
      narrow = wider.narrow;
      slots = wider.slots;
      owned = λ slot h e. by slot h e (ltb slot (length owners)) refl;
      fields = λ slot h there from to lt. field slot h there from to (ltb slot (length owners)) refl;
    }
  where
    by : (slot h : ℕ) → get_or (owners ++ None ∷ []) slot None ≡ Some h → (b : Bool) → ltb slot (length owners) ≡ b → IsOwned headers slot h
    by slot h e true q = parts.owned slot h (sym (get_or_append_left owners (None ∷ []) None slot (ltb-true slot (length owners) q)) ∙ e)
    by slot h e false q =
        absurd (none (slot - length owners) (sym (get_or-append_right owners (None ∷ []) (length owners) slot None refl (ltb-false slot (length owners) q)) ∙ e))
      where
        none : (k : ℕ) → get_or (None ∷ []) k None ≡ Some h → ⊥
        none zero w = cc w
        none (suc k) w = cc w

    field : (slot h : ℕ) → h < length headers → (get_or headers h no_slots).from ≤ slot → slot < (get_or headers h no_slots).to → (b : Bool) → ltb slot (length owners) ≡ b → get_or (owners ++ None ∷ []) slot None ≡ Some h
    field slot h there from to true q =
        let lt : slot < length owners = ltb-true slot (length owners) q in
        get_or_append_left owners (None ∷ []) None slot lt ∙ parts.fields slot h there from to lt
    field slot h there from to false q = absurd (omega (arith, to, (parts.slots h no_slots there).within, level, ltb-false slot (length owners) q))

owned_more : (owners : List (Option ℕ)) (headers : List HeaderSlots) (x : HeaderSlots) → AreOwned owners headers → AreOwned owners (headers ++ x ∷ [])
owned_more owners headers x owned = λ slot h e.
    let o = owned slot h e in
    let same : get_or (headers ++ x ∷ []) h no_slots ≡ get_or headers h no_slots = get_or_append_left headers (x ∷ []) no_slots h o.there in
    record {
      there = omega (arith, o.there, length-append headers (x ∷ []));
      from = subst (λ (s : HeaderSlots). s.from ≤ slot) (sym same) o.from;
      to = subst (λ (s : HeaderSlots). slot < s.to) (sym same) o.to;
    }

last_header : (headers : List HeaderSlots) (x : HeaderSlots) → get_or (headers ++ x ∷ []) (length headers) no_slots ≡ x
last_header headers x =
    let first : length headers - length headers ≡ 0 = omega arith in
    get_or-append_right headers (x ∷ []) (length headers) (length headers) no_slots refl (omega arith) ∙ ap (λ (k : ℕ). get_or (x ∷ []) k no_slots) first

-- a header with the slots behind the others
pub parts_with_header : (widths more : List ℕ) (owners : List (Option ℕ)) (headers : List HeaderSlots) (x : HeaderSlots) → AreParts widths owners headers → All (λ width. width ≤ 128) more → length owners ≡ length widths → x.from ≡ length widths → x.to ≡ length widths + length more → AreParts (widths ++ more) owners (headers ++ x ∷ [])
parts_with_header widths more owners headers x parts narrow level from to =
    let wider = parts_wider widths more owners headers parts narrow in
    let one : AreWithin (length (widths ++ more)) x = record { order = omega (arith, from, to); within = omega (arith, to, length-append widths more) } in
    record {
      narrow = wider.narrow;
      slots = All-append (AreWithin (length (widths ++ more))) headers (x ∷ []) wider.slots (all_one x one);
      owned = owned_more owners headers x parts.owned;
      fields = λ slot h there low high lt. field slot h there low high lt (ltb h (length headers)) refl;
    }
  where
    all_one : (y : HeaderSlots) → AreWithin (length (widths ++ more)) y → All (AreWithin (length (widths ++ more))) (y ∷ [])
    all_one y is zero d lt = is
    all_one y is (suc k) d lt = absurd (omega (arith, lt))

    field : (slot h : ℕ) → h < length (headers ++ x ∷ []) → (get_or (headers ++ x ∷ []) h no_slots).from ≤ slot → slot < (get_or (headers ++ x ∷ []) h no_slots).to → slot < length owners → (b : Bool) → ltb h (length headers) ≡ b → get_or owners slot None ≡ Some h
    field slot h there low high lt true q =
        let old : h < length headers = ltb-true h (length headers) q in
        let same : get_or (headers ++ x ∷ []) h no_slots ≡ get_or headers h no_slots = get_or_append_left headers (x ∷ []) no_slots h old in
        parts.fields slot h old (subst (λ (s : HeaderSlots). s.from ≤ slot) same low) (subst (λ (s : HeaderSlots). slot < s.to) same high) lt
    field slot h there low high lt false q =
        let new : h ≡ length headers = omega (arith, there, length-append headers (x ∷ []), ltb-false h (length headers) q) in
        let its : get_or (headers ++ x ∷ []) h no_slots ≡ x = ap (λ (k : ℕ). get_or (headers ++ x ∷ []) k no_slots) new ∙ last_header headers x in
        let begins : x.from ≤ slot = subst (λ (s : HeaderSlots). s.from ≤ slot) its low in
        absurd (omega (arith, begins, from, level, lt))

abbrev number_of : Option ℕ → ℕ
number_of None = 0
number_of (Some n) = n

-- and these are its fields
pub parts_all : (widths more : List ℕ) (owners : List (Option ℕ)) (headers : List HeaderSlots) (x : HeaderSlots) (header n : ℕ) → AreParts widths owners headers → All (λ width. width ≤ 128) more → x.from ≡ length widths → x.to ≡ length widths + length more → length owners ≡ length widths → header ≡ length headers → n ≡ length more → AreParts (widths ++ more) (owners ++ replicate n (Some header)) (headers ++ x ∷ [])
parts_all widths more owners headers x header n parts narrow from to long is count =
    let before = parts_with_header widths more owners headers x parts narrow long from to in
    record {
      narrow = before.narrow;
      slots = before.slots;
      owned = λ slot h e. by before.owned slot h e (ltb slot (length owners)) refl;
      fields = λ slot h there low high lt. field before.fields slot h there low high lt (ltb slot (length owners)) refl;
    }
  where
    field : AreFields owners (headers ++ x ∷ []) → (slot h : ℕ) → h < length (headers ++ x ∷ []) → (get_or (headers ++ x ∷ []) h no_slots).from ≤ slot → slot < (get_or (headers ++ x ∷ []) h no_slots).to → slot < length (owners ++ replicate n (Some header)) → (b : Bool) → ltb slot (length owners) ≡ b → get_or (owners ++ replicate n (Some header)) slot None ≡ Some h
    field fields slot h there low high lt true q =
        let old : slot < length owners = ltb-true slot (length owners) q in
        get_or_append_left owners (replicate n (Some header)) None slot old ∙ fields slot h there low high old
    field fields slot h there low high lt false q =
        let le : length owners ≤ slot = ltb-false slot (length owners) q in
        let few : slot - length owners < n = omega (arith, lt, le, length-append owners (replicate n (Some header)), length-replicate {A = Option ℕ} n (Some header)) in
        get_or-append_right owners (replicate n (Some header)) (length owners) slot None refl le
        ∙ get_or-replicate n (slot - length owners) (Some header) None few
        ∙ ap Some (is ∙ sym (its slot h there high le (ltb h (length headers)) refl))
      where
        its : (slot h : ℕ) → h < length (headers ++ x ∷ []) → slot < (get_or (headers ++ x ∷ []) h no_slots).to → length owners ≤ slot → (b : Bool) → ltb h (length headers) ≡ b → h ≡ length headers
        its slot h there high le true q =
            let old : h < length headers = ltb-true h (length headers) q in
            let same : get_or (headers ++ x ∷ []) h no_slots ≡ get_or headers h no_slots = get_or_append_left headers (x ∷ []) no_slots h old in
            let ends : slot < (get_or headers h no_slots).to = subst (λ (s : HeaderSlots). slot < s.to) same high in
            absurd (omega (arith, ends, (parts.slots h no_slots old).within, long, le))
        its slot h there high le false q = omega (arith, there, length-append headers (x ∷ []), ltb-false h (length headers) q)

    within : (slot h : ℕ) → length owners ≤ slot → slot - length owners < n → header ≡ h → IsOwned (headers ++ x ∷ []) slot h
    within slot h le lt same =
        let its : get_or (headers ++ x ∷ []) h no_slots ≡ x = ap (λ (k : ℕ). get_or (headers ++ x ∷ []) k no_slots) (sym same ∙ is) ∙ last_header headers x in
        record {
          there = omega (arith, same, is, length-append headers (x ∷ []));
          from = subst (λ (s : HeaderSlots). s.from ≤ slot) (sym its) (omega (arith, from, long, le));
          to = subst (λ (s : HeaderSlots). slot < s.to) (sym its) (omega (arith, to, long, le, lt, count));
        }

    far : (slot h k : ℕ) → length owners ≤ slot → k ≡ slot - length owners → get_or (replicate n (Some header)) k None ≡ Some h → (b : Bool) → ltb k n ≡ b → IsOwned (headers ++ x ∷ []) slot h
    far slot h k le behind e true q =
        let lt : k < n = ltb-true k n q in
        let there : get_or (replicate n (Some header)) k None ≡ Some header = get_or-replicate n k (Some header) None lt in
        let same : Some header ≡ Some h = sym there ∙ e in
        within slot h le (omega (arith, lt, behind)) (ap number_of same)
    far slot h k le behind e false q =
        let past : length (replicate n (Some header)) ≤ k = omega (arith, length-replicate {A = Option ℕ} n (Some header), ltb-false k n q) in
        let none : get_or (replicate n (Some header)) k None ≡ None = get_or_past (replicate n (Some header)) k None past in
        absurd (cc (sym none ∙ e))

    by : AreOwned owners (headers ++ x ∷ []) → (slot h : ℕ) → get_or (owners ++ replicate n (Some header)) slot None ≡ Some h → (b : Bool) → ltb slot (length owners) ≡ b → IsOwned (headers ++ x ∷ []) slot h
    by owned slot h e true q = owned slot h (sym (get_or_append_left owners (replicate n (Some header)) None slot (ltb-true slot (length owners) q)) ∙ e)
    by owned slot h e false q =
        let le = ltb-false slot (length owners) q in
        far slot h (slot - length owners) le refl (sym (get_or-append_right owners (replicate n (Some header)) (length owners) slot None refl le) ∙ e) (ltb (slot - length owners) n) refl

-- owners that are filled up
pub owners_more : (owners new : List (Option ℕ)) (to k n : ℕ) (owner : Option ℕ) → new ≡ take to owners ++ replicate (to - k) owner → k ≡ length owners → to ≡ k + n → new ≡ owners ++ replicate n owner
owners_more owners new to k n owner is long count =
    let left : to - k ≡ n = omega arith in
    is ∙ ap (λ (l : List (Option ℕ)). l ++ replicate (to - k) owner) (take_all to owners (omega arith)) ∙ ap (λ (i : ℕ). owners ++ replicate i owner) left

-- marks

-- a header that becomes valid: its fields are 0 already

none_cleared : (xs : List ℕ) (from n : ℕ) → from + n ≤ length xs → ((i : ℕ) → from ≤ i → i < from + n → get_or xs i 0 ≡ 0) → xs ≡ cleared from (from + n) xs
none_cleared xs from zero le zeros =
    let e : from ≡ from + 0 = omega arith in
    nothing_cleared from xs ∙ ap (λ (k : ℕ). cleared from k xs) e
none_cleared xs from (suc n) le zeros =
    let before = none_cleared xs from n (omega arith) (λ i low high. zeros i low (omega (arith, high))) in
    let here : get_or xs (from + n) 0 ≡ 0 = zeros (from + n) (omega arith) (omega arith) in
    let put : xs ≡ set xs (from + n) 0 = sym (set-get_or xs (from + n) 0) ∙ ap (λ (v : ℕ). set xs (from + n) v) here in
    let e : from + n + 1 ≡ from + suc n = omega arith in
    one_cleared_more xs xs xs from (from + n) (omega arith) (omega arith) before put ∙ ap (λ (k : ℕ). cleared from k xs) e

fields_quiet : (c : Cells) (header : ℕ) → AreKept c → header < length c.layout.headers → get_or c.valids header false ≡ false → c.numbers ≡ cleared (get_or c.layout.headers header no_slots).from (get_or c.layout.headers header no_slots).to c.numbers
fields_quiet c header kept there off =
    let s = get_or c.layout.headers header no_slots in
    let within = kept.slots header no_slots there in
    let e : s.from + (s.to - s.from) ≡ s.to = omega (arith, within.order) in
    none_cleared c.numbers s.from (s.to - s.from) (omega (arith, e, within.within, kept.whole.numbers)) (λ i low high. kept.quiet i (ap (owner_valid c.valids) (kept.fields i header there low (omega (arith, high, e)) (omega (arith, high, e, within.within, kept.owners))) ∙ off))
    ∙ ap (λ (k : ℕ). cleared s.from k c.numbers) e

pub turned_on : (seen old new : Cells) (header : ℕ) → seen ≡ old → AreKept seen → header < length seen.layout.headers → new ≡ record seen { valids = set seen.valids header true } → new ≡ with_validity old header true
turned_on seen old new header view kept there is = is ∙ by (get_or seen.valids header false) refl ∙ ap (λ (c : Cells). with_validity c header true) view where
  by : (b : Bool) → get_or seen.valids header false ≡ b → record seen { valids = set seen.valids header true } ≡ with_validity seen header true
  by true e = ap (λ (b : Bool). record seen { numbers = cond (is_same_truth b true) seen.numbers (cleared_numbers (header_slots seen header) seen.numbers); valids = set seen.valids header true }) (sym e)
  by false e =
      ap (λ (l : List ℕ). record seen { numbers = l; valids = set seen.valids header true }) (fields_quiet seen header kept there e)
      ∙ ap (λ (b : Bool). record seen { numbers = cond (is_same_truth b true) seen.numbers (cleared_numbers (header_slots seen header) seen.numbers); valids = set seen.valids header true }) (sym e)

-- one that is invalid already stays as it is
pub stays_off : (seen old : Cells) (header : ℕ) → seen ≡ old → get_or seen.valids header false ≡ false → seen ≡ with_validity old header false
stays_off seen old header view e =
    let same : seen.valids ≡ set seen.valids header false = sym (set-get_or seen.valids header false) ∙ ap (λ (b : Bool). set seen.valids header b) e in
    ap (λ (l : List Bool). record seen { valids = l }) same
    ∙ ap (λ (b : Bool). record seen { numbers = cond (is_same_truth b false) seen.numbers (cleared_numbers (header_slots seen header) seen.numbers); valids = set seen.valids header false }) (sym e)
    ∙ ap (λ (c : Cells). with_validity c header false) view

-- and one that becomes invalid
pub turned_off : (seen old new : Cells) (header : ℕ) → seen ≡ old → get_or seen.valids header false ≡ true → new ≡ record seen { numbers = cleared_numbers (header_slots seen header) seen.numbers; valids = set seen.valids header false } → new ≡ with_validity old header false
turned_off seen old new header view e is =
    is
    ∙ ap (λ (b : Bool). record seen { numbers = cond (is_same_truth b false) seen.numbers (cleared_numbers (header_slots seen header) seen.numbers); valids = set seen.valids header false }) (sym e)
    ∙ ap (λ (c : Cells). with_validity c header false) view

-- a mark that is put, where numbers stay
pub kept_on : (layout : Layout) (numbers : List ℕ) (valids : List Bool) (places : List ℕ) (requests : Requests) (events : List Event) (header : ℕ) → AreKept (cells_with layout numbers valids places requests events) → AreKept (cells_with layout numbers (set valids header true) places requests events)
kept_on layout numbers valids places requests events header kept = record {
  whole = record {
    numbers = kept.whole.numbers;
    valids = length-set valids header true ∙ kept.whole.valids;
    places = kept.whole.places;
    fits = kept.whole.fits;
    within = kept.whole.within;
  };
  owners = kept.owners;
  slots = kept.slots;
  owned = kept.owned;
  fields = kept.fields;
  quiet = λ i off. by i (get_or layout.owners i None) refl off;
} where
  still : (h : ℕ) → h < length valids → get_or (set valids header true) h false ≡ false → (b : Bool) → eqb h header ≡ b → get_or valids h false ≡ false
  still h there off true q =
      let same : h ≡ header = eqb-true h header q in
      let on : get_or (set valids header true) header false ≡ true = get_or-set_same valids header true false (omega (arith, there, same)) in
      absurd (cc (sym on ∙ ap (λ (k : ℕ). get_or (set valids header true) k false) (sym same) ∙ off))
  still h there off false q = sym (get_or-set_other valids header h true false (eqb-false h header q)) ∙ off

  by : (i : ℕ) (o : Option ℕ) → get_or layout.owners i None ≡ o → owner_valid (set valids header true) o ≡ false → get_or numbers i 0 ≡ 0
  by i None e off = absurd (cc off)
  by i (Some h) e off =
      let there : h < length valids = omega (arith, (kept.owned i h e).there, kept.whole.valids) in
      kept.quiet i (ap (owner_valid valids) e ∙ still h there off (eqb h header) refl)

-- what is set is what is got

pub set_got : (c : Cells) (slot n : ℕ) → slot < length c.numbers → slot_value (with_slot c slot n) slot ≡ cond (is_live c slot) n 0
set_got c slot n lt = by (is_live c slot) where
  by : (live : Bool) → cond live (get_or (cond live (set c.numbers slot n) c.numbers) slot 0) 0 ≡ cond live n 0
  by true = get_or-set_same c.numbers slot n 0 lt
  by false = refl

-- and every other slot stays
pub set_others : (c : Cells) (slot n i : ℕ) → (i ≡ slot → ⊥) → slot_value (with_slot c slot n) i ≡ slot_value c i
set_others c slot n i other = by (is_live c slot) where
  by : (live : Bool) → cond (is_live c i) (get_or (cond live (set c.numbers slot n) c.numbers) i 0) 0 ≡ cond (is_live c i) (get_or c.numbers i 0) 0
  by true = ap (λ (m : ℕ). cond (is_live c i) m 0) (get_or-set_other c.numbers slot i n 0 other)
  by false = refl

-- where the slot is a field of an invalid header nothing changes
pub set_nothing : (c : Cells) (slot n : ℕ) → is_live c slot ≡ false → with_slot c slot n ≡ c
set_nothing c slot n off = ap (λ (b : Bool). record c { numbers = cond b (set c.numbers slot n) c.numbers }) off
