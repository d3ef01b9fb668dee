-- The parts of a value in one frame become those of a value of its form in another frame: then that is the same value.
use Rattle.std.proofs.Common.{◌≡◌, ◌⊎◌, inl, inr, ℕ, zero, suc, ◌+◌, ◌%◌, ◌^◌, min, ◌<◌, ◌≤◌, Bool, true, false, cond, Option, Some, None, length, get_or, refl, sym, ap, ◌∙◌, subst, arith, pow_pos}
use Rattle.std.proofs.Math.Nat.{mod-eq_of_lt, mod-lt}
use Rattle.std.proofs.lemmas.Bool.{cases_eq}
use Rattle.std.proofs.lemmas.List.{get_or-set_same, get_or-set_other}
use Rattle.v1_core.specs.Layouts.{Layout}
use Rattle.v1_core.specs.Cells.{Cells, owner_valid, is_live, slot_value, header_valid, with_validity, stack_place, stack_size, AreWhole}
use Rattle.v1_core.proofs.Frames.{set_got, set_others}
use Rattle.v1_core.specs.Seats.{Start}
use Rattle.v1_core.specs.Laid.{OwnersAgree}
use Rattle.v1_core.proofs.Kept.{validity_others}
use Rattle.v1_ready_blocks.specs.declared.places.Range.{Range}
use Rattle.v1_ready_blocks.specs.Places.{slot_width, all_taken, validity_taken, number_taken, place_taken, taken}
use Rattle.v1_parser_laws.proofs.Parts.{below_or, HeaderThere, whole_number, whole_stack, whole_marked}
use Rattle.v1_deed_laws.proofs.Whole.{Untouched}
use Rattle.v1_deed_laws.proofs.Alike.{Offset, Shifted}
use Rattle.v1_deed_laws.proofs.Matching.{OwnersMatch, Matches}

-- a number that isn't the first one is behind it
past : (j k : ℕ) → j ≤ k → (k ≡ j → ⊥) → (j < k) ⊎ (k ≤ j) → 1 + j ≤ k
past j k le differ (inl lt) = omega (arith, lt)
past j k le differ (inr ge) = absurd (differ (omega (arith, le, ge)))

-- one part after another, from this frame

module _ (step : ℕ → ℕ → Cells → Cells → Cells) (c : Cells) (base low high : ℕ) (P : Cells → Type 0) (Q : ℕ → Cells → Type 0)
    (stays : (i j : ℕ) (x : Cells) → low ≤ j → j < high → base + j ≡ low + i → P x → P (step i j c x))
    (made : (i j : ℕ) (x : Cells) → low ≤ j → j < high → base + j ≡ low + i → P x → Q j (step i j c x))
    (keeps : (i j k : ℕ) (x : Cells) → low ≤ j → j < high → base + j ≡ low + i → P x → Q k x → Q k (step i j c x)) where
  takes_stay : (n i j : ℕ) (x : Cells) → low ≤ j → j + n ≤ high → base + j ≡ low + i → P x → P (all_taken step n i j c x)
  takes_stay zero i j x le fit off p = p
  takes_stay (suc n) i j x le fit off p =
      takes_stay n (1 + i) (1 + j) (step i j c x) (omega (arith, le)) (omega (arith, fit)) (omega (arith, off)) (stays i j x le (omega (arith, fit)) off p)

  takes_keep : (n i j k : ℕ) (x : Cells) → low ≤ j → j + n ≤ high → base + j ≡ low + i → P x → Q k x → Q k (all_taken step n i j c x)
  takes_keep zero i j k x le fit off p q = q
  takes_keep (suc n) i j k x le fit off p q =
      takes_keep n (1 + i) (1 + j) k (step i j c x) (omega (arith, le)) (omega (arith, fit)) (omega (arith, off)) (stays i j x le (omega (arith, fit)) off p)
      (keeps i j k x le (omega (arith, fit)) off p q)

  takes_done : (n i j : ℕ) (x : Cells) → low ≤ j → j + n ≤ high → base + j ≡ low + i → P x → (k : ℕ) → j ≤ k → k < j + n → Q k (all_taken step n i j c x)
  takes_done zero i j x le fit off p k first last = absurd (omega (arith, first, last))
  takes_done (suc n) i j x le fit off p k first last =
      elim (cases_eq k j) [
        | inl same ↦ subst (λ (h : ℕ). Q h (all_taken step n (1 + i) (1 + j) c (step i j c x))) (sym same)
            (takes_keep n (1 + i) (1 + j) j (step i j c x) (omega (arith, le)) (omega (arith, fit)) (omega (arith, off)) (stays i j x le (omega (arith, fit)) off p) (made i j x le (omega (arith, fit)) off p))
        | inr apart ↦ takes_done n (1 + i) (1 + j) (step i j c x) (omega (arith, le)) (omega (arith, fit)) (omega (arith, off)) (stays i j x le (omega (arith, fit)) off p) k (past j k first apart (below_or j k)) (omega (arith, last))
      ]

number_at : (live : Bool) (n : ℕ) → cond live (cond live n 0) 0 ≡ cond live n 0
number_at true n = refl
number_at false n = refl

module _ (c o : Cells) (laid : o.layout ≡ c.layout) (a e b f : Start) (agree : OwnersAgree o.layout) (source : AreWhole c) (whole : AreWhole o) (off : Offset a b e f) (ab : Matches o.layout a e b) (ba : Matches o.layout b f a) (there : (h : ℕ) → b.header ≤ h → h < f.header → HeaderThere o.layout b f h) where
  abbrev Now : Cells → Type 0
  Now d = Untouched o d b f × AreWhole d

  clash : (low high i j : ℕ) → low ≤ j → j < high → (i < low) ⊎ (high ≤ i) → i ≡ j → ⊥
  clash low high i j le lt (inl before) same = omega (arith, le, lt, before, same)
  clash low high i j le lt (inr after) same = omega (arith, le, lt, after, same)

  -- first, whether headers are valid

  abbrev HeaderTaken : ℕ → Cells → Type 0
  HeaderTaken j d = (i : ℕ) → a.header + j ≡ b.header + i → header_valid d j ≡ header_valid c i

  far : (start fields j : ℕ) → b.slot ≤ start → start + fields ≤ f.slot → (j < b.slot) ⊎ (f.slot ≤ j) → (j < start) ⊎ (start + fields ≤ j)
  far start fields j low high (inl lt) = inl (omega (arith, low, lt))
  far start fields j low high (inr le) = inr (omega (arith, high, le))

  marks : (d : Cells) (h : ℕ) (on : Bool) (t : HeaderThere d.layout b f h) → b.header ≤ h → h < f.header → Now d → Now (with_validity d t.start.header on)
  marks d h on t le lt now = (
    record {
      layout = now.0.layout;
      values = now.0.values;
      slots = λ j out. now.0.slots j out ∙ sym (validity_others d t.fields t.start on j (subst OwnersAgree (sym now.0.layout) agree) t.laid now.1.numbers (far t.start.slot t.fields j t.low t.high out));
      headers = λ j out. now.0.headers j out ∙ sym (get_or-set_other d.valids t.start.header j on false (λ same. clash b.header f.header j h le lt out (same ∙ t.at)));
      stacks = now.0.stacks;
    },
    whole_marked d t.fields t.start on t.laid now.1,
  )

  header_stays : (i j : ℕ) (d : Cells) → b.header ≤ j → j < f.header → a.header + j ≡ b.header + i → Now d → Now (validity_taken i j c d)
  header_stays i j d le lt is now =
      let t : HeaderThere d.layout b f j = subst (λ (l : Layout). HeaderThere l b f j) (sym now.0.layout) (there j le lt) in
      subst (λ (k : ℕ). Now (with_validity d k (header_valid c i))) t.at (marks d j (header_valid c i) t le lt now)

  header_made : (i j : ℕ) (d : Cells) → b.header ≤ j → j < f.header → a.header + j ≡ b.header + i → Now d → HeaderTaken j (validity_taken i j c d)
  header_made i j d le lt is now k at =
      let same : i ≡ k = omega (arith, is, at) in
      let room : j < length d.layout.headers = subst (λ (l : Layout). j < length l.headers) (sym now.0.layout) (ba.headers_in j le lt) in
      get_or-set_same d.valids j (header_valid c i) false (omega (arith, room, now.1.valids))
      ∙ ap (header_valid c) same

  header_keeps : (i j k : ℕ) (d : Cells) → b.header ≤ j → j < f.header → a.header + j ≡ b.header + i → Now d → HeaderTaken k d → HeaderTaken k (validity_taken i j c d)
  header_keeps i j k d le lt is now q =
      elim (cases_eq k j) [
        | inl same ↦ subst (λ (h : ℕ). HeaderTaken h (validity_taken i j c d)) (sym same) (header_made i j d le lt is now)
        | inr differ ↦ λ h at. get_or-set_other d.valids j k (header_valid c i) false differ ∙ q h at
      ]

  abbrev HeadersTaken : Cells → Type 0
  HeadersTaken d = (j i : ℕ) → b.header ≤ j → j < f.header → a.header + j ≡ b.header + i → header_valid d j ≡ header_valid c i

  all_marked : (n i j : ℕ) → i ≡ a.header → j ≡ b.header → j + n ≡ f.header → Now o → Now (all_taken validity_taken n i j c o) × HeadersTaken (all_taken validity_taken n i j c o)
  all_marked n i j from to end now = (
    takes_stay validity_taken c a.header b.header f.header Now HeaderTaken header_stays header_made header_keeps n i j o (omega (arith, to)) (omega (arith, end)) (omega (arith, from, to)) now,
    λ k h le lt at.
        takes_done validity_taken c a.header b.header f.header Now HeaderTaken header_stays header_made header_keeps n i j o (omega (arith, to)) (omega (arith, end)) (omega (arith, from, to)) now k (omega (arith, to, le)) (omega (arith, end, lt)) h at,
  )

  -- then numbers

  abbrev Marked : Cells → Type 0
  Marked d = Now d × HeadersTaken d

  abbrev SlotTaken : ℕ → Cells → Type 0
  SlotTaken j d = (i : ℕ) → a.slot + j ≡ b.slot + i → slot_value d j ≡ slot_value c i

  slot_stays : (i j : ℕ) (d : Cells) → b.slot ≤ j → j < f.slot → a.slot + j ≡ b.slot + i → Marked d → Marked (number_taken i j c d)
  slot_stays i j d le lt is now = (
    (
      record {
        layout = now.0.0.layout;
        values = now.0.0.values;
        slots = λ k out. now.0.0.slots k out ∙ sym (set_others d j (slot_value c i % 2 ^ slot_width d j) k (λ same. clash b.slot f.slot k j le lt out same));
        headers = now.0.0.headers;
        stacks = now.0.0.stacks;
      },
      whole_number d j (slot_value c i % 2 ^ slot_width d j) (mod-lt (slot_value c i) (pow_pos (slot_width d j))) now.0.1,
    ),
    now.1,
  )

  -- a slot is there in the one frame where the other one is in the other
  live_by : (d : Cells) (q p : Option ℕ) → HeadersTaken d → OwnersMatch a.header e.header b.header q p → owner_valid d.valids p ≡ owner_valid c.valids q
  live_by d None None taken_so h = refl
  live_by d None (Some q) taken_so h = absurd h
  live_by d (Some q) None taken_so h = absurd h
  live_by d (Some q) (Some r) taken_so h = taken_so r q (omega (arith, h.0, h.2)) (omega (arith, h.1, h.2, off.header)) h.2

  live_alike : (i j : ℕ) (d : Cells) → b.slot ≤ j → j < f.slot → a.slot + j ≡ b.slot + i → Marked d → is_live d j ≡ is_live c i
  live_alike i j d le lt is now =
      subst (λ (l : Layout). owner_valid d.valids (get_or l.owners j None) ≡ is_live c i) (sym now.0.0.layout)
      (subst (λ (l : Layout). owner_valid d.valids (get_or o.layout.owners j None) ≡ owner_valid c.valids (get_or l.owners i None)) laid
      (live_by d (get_or o.layout.owners i None) (get_or o.layout.owners j None) now.1 (ab.owners i j (omega (arith, is, le)) (omega (arith, is, lt, off.slot)) is)))

  -- what is read fits where it goes
  slot_fits : (i j : ℕ) → b.slot ≤ j → j < f.slot → a.slot + j ≡ b.slot + i → slot_value c i % 2 ^ slot_width o j ≡ slot_value c i
  slot_fits i j le lt is =
      let low : a.slot ≤ i = omega (arith, is, le) in
      let high : i < e.slot = omega (arith, is, lt, off.slot) in
      mod-eq_of_lt (subst (λ (w : ℕ). slot_value c i < 2 ^ w) (ap (λ (l : Layout). get_or l.widths i 0) (sym laid) ∙ ab.widths i j low high is) (by (is_live c i) (subst (λ (l : Layout). i < length l.widths) laid (ab.slots_in i low high)))) where
        by : (live : Bool) → i < length c.layout.widths → cond live (get_or c.numbers i 0) 0 < 2 ^ get_or c.layout.widths i 0
        by true room = source.fits i room
        by false room = pow_pos (get_or c.layout.widths i 0)

  slot_made : (i j : ℕ) (d : Cells) → b.slot ≤ j → j < f.slot → a.slot + j ≡ b.slot + i → Marked d → SlotTaken j (number_taken i j c d)
  slot_made i j d le lt is now k at =
      let same : i ≡ k = omega (arith, is, at) in
      let room : j < length d.layout.widths = subst (λ (l : Layout). j < length l.widths) (sym now.0.0.layout) (ba.slots_in j le lt) in
      let wide : slot_width d j ≡ slot_width o j = ap (λ (l : Layout). get_or l.widths j 0) now.0.0.layout in
      set_got d j (slot_value c i % 2 ^ slot_width d j) (omega (arith, room, now.0.1.numbers))
      ∙ (ap (λ (live : Bool). cond live (slot_value c i % 2 ^ slot_width d j) 0) (live_alike i j d le lt is now)
      ∙ (ap (λ (w : ℕ). cond (is_live c i) (slot_value c i % 2 ^ w) 0) wide
      ∙ (ap (λ (n : ℕ). cond (is_live c i) n 0) (slot_fits i j le lt is)
      ∙ (number_at (is_live c i) (get_or c.numbers i 0) ∙ ap (slot_value c) same))))

  slot_keeps : (i j k : ℕ) (d : Cells) → b.slot ≤ j → j < f.slot → a.slot + j ≡ b.slot + i → Marked d → SlotTaken k d → SlotTaken k (number_taken i j c d)
  slot_keeps i j k d le lt is now q =
      elim (cases_eq k j) [
        | inl same ↦ subst (λ (h : ℕ). SlotTaken h (number_taken i j c d)) (sym same) (slot_made i j d le lt is now)
        | inr differ ↦ λ h at. set_others d j (slot_value c i % 2 ^ slot_width d j) k differ ∙ q h at
      ]

  abbrev SlotsTaken : Cells → Type 0
  SlotsTaken d = (j i : ℕ) → b.slot ≤ j → j < f.slot → a.slot + j ≡ b.slot + i → slot_value d j ≡ slot_value c i

  all_numbered : (n i j : ℕ) (d : Cells) → i ≡ a.slot → j ≡ b.slot → j + n ≡ f.slot → Marked d → Marked (all_taken number_taken n i j c d) × SlotsTaken (all_taken number_taken n i j c d)
  all_numbered n i j d from to end now = (
    takes_stay number_taken c a.slot b.slot f.slot Marked SlotTaken slot_stays slot_made slot_keeps n i j d (omega (arith, to)) (omega (arith, end)) (omega (arith, from, to)) now,
    λ k h le lt at.
        takes_done number_taken c a.slot b.slot f.slot Marked SlotTaken slot_stays slot_made slot_keeps n i j d (omega (arith, to)) (omega (arith, end)) (omega (arith, from, to)) now k (omega (arith, to, le)) (omega (arith, end, lt)) h at,
  )

  -- and the places of stacks

  abbrev Numbered : Cells → Type 0
  Numbered d = Marked d × SlotsTaken d

  abbrev StackTaken : ℕ → Cells → Type 0
  StackTaken j d = (i : ℕ) → a.stack + j ≡ b.stack + i → stack_place d j ≡ stack_place c i

  stack_stays : (i j : ℕ) (d : Cells) → b.stack ≤ j → j < f.stack → a.stack + j ≡ b.stack + i → Numbered d → Numbered (place_taken i j c d)
  stack_stays i j d le lt is now = (
    (
      (
        record {
          layout = now.0.0.0.layout;
          values = now.0.0.0.values;
          slots = now.0.0.0.slots;
          headers = now.0.0.0.headers;
          stacks = λ k out. now.0.0.0.stacks k out ∙ sym (get_or-set_other d.places j k (min (stack_place c i) (stack_size d j)) 0 (λ same. clash b.stack f.stack k j le lt out same));
        },
        whole_stack d j (min (stack_place c i) (stack_size d j)) (most (stack_place c i) (stack_size d j)) now.0.0.1,
      ),
      now.0.1,
    ),
    now.1,
  ) where
    most : (m n : ℕ) → min m n ≤ n
    most m n = omega arith

  stack_made : (i j : ℕ) (d : Cells) → b.stack ≤ j → j < f.stack → a.stack + j ≡ b.stack + i → Numbered d → StackTaken j (place_taken i j c d)
  stack_made i j d le lt is now k at =
      let same : i ≡ k = omega (arith, is, at) in
      let low : a.stack ≤ i = omega (arith, is, le) in
      let high : i < e.stack = omega (arith, is, lt, off.stack) in
      let room : j < length d.layout.sizes = subst (λ (l : Layout). j < length l.sizes) (sym now.0.0.0.layout) (ba.stacks_in j le lt) in
      let size : stack_size d j ≡ stack_size c i = ap (λ (l : Layout). get_or l.sizes j 0) now.0.0.0.layout ∙ (sym (ab.sizes i j low high is) ∙ ap (λ (l : Layout). get_or l.sizes i 0) laid) in
      get_or-set_same d.places j (min (stack_place c i) (stack_size d j)) 0 (omega (arith, room, now.0.0.1.places))
      ∙ (least (stack_place c i) (stack_size d j) (stack_size c i) size (source.within i) ∙ ap (stack_place c) same) where
        least : (m n s : ℕ) → n ≡ s → m ≤ s → min m n ≡ m
        least m n s y le = omega (arith, y, le)

  stack_keeps : (i j k : ℕ) (d : Cells) → b.stack ≤ j → j < f.stack → a.stack + j ≡ b.stack + i → Numbered d → StackTaken k d → StackTaken k (place_taken i j c d)
  stack_keeps i j k d le lt is now q =
      elim (cases_eq k j) [
        | inl same ↦ subst (λ (h : ℕ). StackTaken h (place_taken i j c d)) (sym same) (stack_made i j d le lt is now)
        | inr differ ↦ λ h at. get_or-set_other d.places j k (min (stack_place c i) (stack_size d j)) 0 differ ∙ q h at
      ]

  all_placed : (n i j : ℕ) (d : Cells) → i ≡ a.stack → j ≡ b.stack → j + n ≡ f.stack → Numbered d → Numbered (all_taken place_taken n i j c d) × ((k h : ℕ) → b.stack ≤ k → k < f.stack → a.stack + k ≡ b.stack + h → stack_place (all_taken place_taken n i j c d) k ≡ stack_place c h)
  all_placed n i j d from to end now = (
    takes_stay place_taken c a.stack b.stack f.stack Numbered StackTaken stack_stays stack_made stack_keeps n i j d (omega (arith, to)) (omega (arith, end)) (omega (arith, from, to)) now,
    λ k h le lt at.
        takes_done place_taken c a.stack b.stack f.stack Numbered StackTaken stack_stays stack_made stack_keeps n i j d (omega (arith, to)) (omega (arith, end)) (omega (arith, from, to)) now k (omega (arith, to, le)) (omega (arith, end, lt)) h at,
  )

  unchanged : Now o
  unchanged = (
    record { layout = refl; values = λ values. refl; slots = λ i out. refl; headers = λ i out. refl; stacks = λ i out. refl },
    whole,
  )

  -- all of them
  pub takes : (r q : Range) → r.slot ≡ a.slot → r.slot + r.slots ≡ e.slot → r.header ≡ a.header → r.header + r.headers ≡ e.header → r.stack ≡ a.stack → r.stack + r.stacks ≡ e.stack → q.slot ≡ b.slot → q.slot + q.slots ≡ f.slot → q.header ≡ b.header → q.header + q.headers ≡ f.header → q.stack ≡ b.stack → q.stack + q.stacks ≡ f.stack → Untouched o (taken r q c o) b f × AreWhole (taken r q c o) × Shifted c (taken r q c o) a e b
  takes r q s1 s2 h1 h2 k1 k2 s3 s4 h3 h4 k3 k4 =
      let headers = all_marked (min r.headers q.headers) r.header q.header h1 h3 (fewer a.header e.header b.header f.header r.header r.headers q.header q.headers h1 h2 h3 h4 off.header) unchanged in
      let slots = all_numbered (min r.slots q.slots) r.slot q.slot _ s1 s3 (fewer a.slot e.slot b.slot f.slot r.slot r.slots q.slot q.slots s1 s2 s3 s4 off.slot) headers in
      let stacks = all_placed (min r.stacks q.stacks) r.stack q.stack _ k1 k3 (fewer a.stack e.stack b.stack f.stack r.stack r.stacks q.stack q.stacks k1 k2 k3 k4 off.stack) slots in (
        stacks.0.0.0.0,
        stacks.0.0.0.1,
        record {
          slots = λ i j le lt is. sym (stacks.0.1 j i (omega (arith, is, le)) (omega (arith, is, lt, off.slot)) is);
          headers = λ i j le lt is. sym (stacks.0.0.1 j i (omega (arith, is, le)) (omega (arith, is, lt, off.header)) is);
          stacks = λ i j le lt is. sym (stacks.1 j i (omega (arith, is, le)) (omega (arith, is, lt, off.stack)) is);
        },
      ) where
        fewer : (a e b f i n j m : ℕ) → i ≡ a → i + n ≡ e → j ≡ b → j + m ≡ f → a + f ≡ b + e → j + min n m ≡ f
        fewer a e b f i n j m x y z w o = omega (arith, x, y, z, w, o)
