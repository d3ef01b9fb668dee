-- Emptying the parts of a value makes it the one with which a new frame begins.
use Rattle.std.proofs.Common.{◌≡◌, ◌⊎◌, inl, inr, ℕ, zero, suc, ◌+◌, ◌%◌, ◌^◌, ◌<◌, ◌≤◌, Bool, true, false, cond, Option, Some, None, List, [], ◌∷◌, length, replicate, get_or, set, refl, sym, ap, ◌∙◌, subst, arith, pow_pos}
use Rattle.std.proofs.lemmas.Bool.{cases_eq}
use Rattle.std.proofs.lemmas.List.{get_or-set_other}
use Rattle.std.proofs.Math.Nat.{mod-eq_of_lt}
use Rattle.p416_syntax.specs.declared.program.Syntax16.{Syntax16}
use Rattle.p416_syntax.specs.Scopes.{Layout as TypeLayout, FieldKind, fields_in}
use Rattle.p416_syntax.specs.Declarations.{layouts_of}
use Rattle.v1_core.specs.Values.{Value, a_number, no_value, fitted}
use Rattle.v1_core.specs.Slots.{PartOwner}
use Rattle.v1_core.specs.Numbered.{Numbered, part_value, new_numbered}
use Rattle.v1_core.specs.Layouts.{Layout}
use Rattle.v1_core.specs.Cells.{Cells, is_live, slot_value, with_slot, header_valid, with_validity, stack_place, new_cells, AreWhole}
use Rattle.v1_core.proofs.Frames.{set_others}
use Rattle.v1_core.specs.Seats.{some_bits, a_truth, an_error, Form, slot_form, header_form, stack_form, struct_form, no_form, Start, behind, Seat, behind_seat, seat_behind, seat_at}
use Rattle.v1_core.specs.PackedValues.{member_values, value_from, seat_value}
use Rattle.v1_core.specs.Laid.{IsLaidAt, IsSeatLaid, OwnersAgree}
use Rattle.v1_core.specs.Programs.{layout16, owner_seat, part_seat, of_values}
use Rattle.v1_core.specs.PackedFrames.{IsFrameOf}
use Rattle.v1_core.proofs.Reading.{by_truth}
use Rattle.v1_core.proofs.Writing.{split_first}
use Rattle.v1_core.proofs.Same.{Same, value_same}
use Rattle.v1_core.proofs.Kept.{validity_others}
use Rattle.v1_core.proofs.Blank.{new_is}
use Rattle.v1_core.proofs.Laws.{part_put, part_read, program_laid}
use Rattle.v1_ready_blocks.specs.declared.places.Range.{Range}
use Rattle.v1_ready_blocks.specs.Places.{all_made, made_invalid, made_zero, made_first, emptied}
use Rattle.v1_parser_laws.specs.Ranges.{IsRangeOf, all_of, IsBegun, EmptiedBegins}
use Rattle.v1_parser_laws.proofs.Parts.{HeaderThere, header_there, zero_put, off_put, zero_kept, off_kept, whole_slot, whole_place, whole_validity}

-- one part after another

module _ (make : ℕ → Cells → Cells) (low high : ℕ) (P : Cells → Type 0) (Q : ℕ → Cells → Type 0)
    (stays : (i : ℕ) (x : Cells) → low ≤ i → i < high → P x → P (make i x))
    (made : (i : ℕ) (x : Cells) → low ≤ i → i < high → P x → Q i (make i x))
    (keeps : (i j : ℕ) (x : Cells) → low ≤ i → i < high → P x → Q j x → Q j (make i x)) where
  all_stay : (n from : ℕ) (x : Cells) → low ≤ from → from + n ≤ high → P x → P (all_made make n from x)
  all_stay zero from x le fit p = p
  all_stay (suc n) from x le fit p = all_stay n (1 + from) (make from x) (omega arith) (omega arith) (stays from x le (omega arith) p)

  all_keep : (n from j : ℕ) (x : Cells) → low ≤ from → from + n ≤ high → P x → Q j x → Q j (all_made make n from x)
  all_keep zero from j x le fit p q = q
  all_keep (suc n) from j x le fit p q =
      all_keep n (1 + from) j (make from x) (omega arith) (omega arith) (stays from x le (omega arith) p) (keeps from j x le (omega arith) p q)

  all_done : (n from : ℕ) (x : Cells) → low ≤ from → from + n ≤ high → P x → (i : ℕ) → from ≤ i → i < from + n → Q i (all_made make n from x)
  all_done zero from x le fit p i first last = absurd (omega arith)
  all_done (suc n) from x le fit p i first last =
      by (split_first from i first) (λ l. all_done n (1 + from) (make from x) (omega arith) (omega arith) (stays from x le (omega arith) p) i (omega arith) (omega arith)) where
        here : P (make from x)
        here = stays from x le (omega arith) p

        by : (from ≡ i) ⊎ (from + 1 ≤ i) → (from + 1 ≤ i → Q i (all_made make n (1 + from) (make from x))) → Q i (all_made make n (1 + from) (make from x))
        by (inl e) further =
            subst (λ (k : ℕ). Q k (all_made make n (1 + from) (make from x))) e
            (all_keep n (1 + from) from (make from x) (omega arith) (omega arith) here (made from x le (omega arith) p))
        by (inr l) further = further l

-- outside of two places everything is as it was
record Keeps (c d : Cells) (b e : Start) : Type 0 where
  layout : d.layout ≡ c.layout
  whole : AreWhole d
  values : (values : List Value) → of_values values c ≡ of_values values d
  slots : (i : ℕ) → (i < b.slot) ⊎ (e.slot ≤ i) → slot_value c i ≡ slot_value d i
  headers : (i : ℕ) → (i < b.header) ⊎ (e.header ≤ i) → header_valid c i ≡ header_valid d i
  stacks : (i : ℕ) → (i < b.stack) ⊎ (e.stack ≤ i) → stack_place c i ≡ stack_place d i

-- and between them headers are invalid, slots 0, and stacks at place 0

abbrev HeadersOff : Start → Start → Cells → Type 0
HeadersOff b e d = (i : ℕ) → b.header ≤ i → i < e.header → header_valid d i ≡ false

abbrev SlotsZero : Start → Start → Cells → Type 0
SlotsZero b e d = (i : ℕ) → b.slot ≤ i → i < e.slot → slot_value d i ≡ 0

apart_from : (low high i j : ℕ) → low ≤ i → i < high → (j < low) ⊎ (high ≤ j) → j ≡ i → ⊥
apart_from low high i j le lt (inl before) same = omega arith
apart_from low high i j le lt (inr after) same = omega arith

module _ (c : Cells) (b e : Start) (agree : OwnersAgree c.layout) (there : (h : ℕ) → b.header ≤ h → h < e.header → HeaderThere c.layout b e h) where
  abbrev Now : Cells → Type 0
  Now d = Keeps c d b e

  -- the header with a number, in a frame with the same parts
  found : (d : Cells) → Now d → (h : ℕ) → b.header ≤ h → h < e.header → HeaderThere d.layout b e h
  found d now h le lt = subst (λ (l : Layout). HeaderThere l b e h) (sym now.layout) (there h le lt)

  far : (start fields j : ℕ) → b.slot ≤ start → start + fields ≤ e.slot → (j < b.slot) ⊎ (e.slot ≤ j) → (j < start) ⊎ (start + fields ≤ j)
  far start fields j low high (inl lt) = inl (omega arith)
  far start fields j low high (inr le) = inr (omega arith)

  off_by : (d : Cells) (h : ℕ) (t : HeaderThere d.layout b e h) → b.header ≤ h → h < e.header → Now d → Now (with_validity d t.start.header false)
  off_by d h t le lt now = record {
    layout = now.layout;
    whole = whole_validity d t.fields t.start t.laid now.whole;
    values = now.values;
    slots = λ j out. now.slots j out ∙ sym (validity_others d t.fields t.start false j (subst OwnersAgree (sym now.layout) agree) t.laid now.whole.numbers (far t.start.slot t.fields j t.low t.high out));
    headers = λ j out. now.headers j out ∙ sym (get_or-set_other d.valids t.start.header j false false (λ same. apart_from b.header e.header h j le lt out (same ∙ t.at)));
    stacks = now.stacks;
  }

  off_stays : (h : ℕ) (d : Cells) → b.header ≤ h → h < e.header → Now d → Now (made_invalid h d)
  off_stays h d le lt now =
      let t = found d now h le lt in
      subst (λ (k : ℕ). Now (with_validity d k false)) t.at (off_by d h t le lt now)

  all_off : (n : ℕ) → b.header + n ≡ e.header → Now c → Now (all_made made_invalid n b.header c) × HeadersOff b e (all_made made_invalid n b.header c)
  all_off n ends now = (
    all_stay made_invalid b.header e.header Now (λ i d. header_valid d i ≡ false) off_stays (λ i d le lt p. off_put d.valids i) (λ i j d le lt p q. off_kept d.valids i j q)
        n b.header c (omega arith) (omega arith) now,
    λ i le lt.
        all_done made_invalid b.header e.header Now (λ i d. header_valid d i ≡ false) off_stays (λ i d le lt p. off_put d.valids i) (λ i j d le lt p q. off_kept d.valids i j q)
        n b.header c (omega arith) (omega arith) now i le (omega arith),
  )

  abbrev Off : Cells → Type 0
  Off d = Now d × HeadersOff b e d

  zero_stays : (i : ℕ) (d : Cells) → b.slot ≤ i → i < e.slot → Off d → Off (made_zero i d)
  zero_stays i d le lt now = (
    record {
      layout = now.0.layout;
      whole = whole_slot d i now.0.whole;
      values = now.0.values;
      slots = λ j out. now.0.slots j out ∙ sym (set_others d i 0 j (λ same. apart_from b.slot e.slot i j le lt out same));
      headers = now.0.headers;
      stacks = now.0.stacks;
    },
    now.1,
  )

  zero_made : (i : ℕ) (d : Cells) → slot_value (with_slot d i 0) i ≡ 0
  zero_made i d = by (is_live d i) where
    by : (live : Bool) → cond live (get_or (cond live (set d.numbers i 0) d.numbers) i 0) 0 ≡ 0
    by true = zero_put d.numbers i
    by false = refl

  zero_keeps : (i j : ℕ) (d : Cells) → slot_value d j ≡ 0 → slot_value (with_slot d i 0) j ≡ 0
  zero_keeps i j d is =
      elim (cases_eq j i) [
        | inl same ↦ rw same (zero_made i d)
        | inr apart ↦ set_others d i 0 j apart ∙ is
      ]

  all_zero : (n : ℕ) (d : Cells) → b.slot + n ≡ e.slot → Off d → Off (all_made made_zero n b.slot d) × SlotsZero b e (all_made made_zero n b.slot d)
  all_zero n d ends now = (
    all_stay made_zero b.slot e.slot Off (λ i d. slot_value d i ≡ 0) zero_stays (λ i d le lt p. zero_made i d) (λ i j d le lt p q. zero_keeps i j d q)
        n b.slot d (omega arith) (omega arith) now,
    λ i le lt.
        all_done made_zero b.slot e.slot Off (λ i d. slot_value d i ≡ 0) zero_stays (λ i d le lt p. zero_made i d) (λ i j d le lt p q. zero_keeps i j d q)
        n b.slot d (omega arith) (omega arith) now i le (omega arith),
  )

  abbrev Zero : Cells → Type 0
  Zero d = Off d × SlotsZero b e d

  first_stays : (i : ℕ) (d : Cells) → b.stack ≤ i → i < e.stack → Zero d → Zero (made_first i d)
  first_stays i d le lt now = (
    (
      record {
        layout = now.0.0.layout;
        whole = whole_place d i now.0.0.whole;
        values = now.0.0.values;
        slots = now.0.0.slots;
        headers = now.0.0.headers;
        stacks = λ j out. now.0.0.stacks j out ∙ sym (get_or-set_other d.places i j 0 0 (λ same. apart_from b.stack e.stack i j le lt out same));
      },
      now.0.1,
    ),
    now.1,
  )

  all_first : (n : ℕ) (d : Cells) → b.stack + n ≡ e.stack → Zero d → Zero (all_made made_first n b.stack d) × ((i : ℕ) → b.stack ≤ i → i < e.stack → stack_place (all_made made_first n b.stack d) i ≡ 0)
  all_first n d ends now = (
    all_stay made_first b.stack e.stack Zero (λ i d. stack_place d i ≡ 0) first_stays (λ i d le lt p. zero_put d.places i) (λ i j d le lt p q. zero_kept d.places i j q)
        n b.stack d (omega arith) (omega arith) now,
    λ i le lt.
        all_done made_first b.stack e.stack Zero (λ i d. stack_place d i ≡ 0) first_stays (λ i d le lt p. zero_put d.places i) (λ i j d le lt p q. zero_kept d.places i j q)
        n b.stack d (omega arith) (omega arith) now i le (omega arith),
  )

-- a new frame

zero_at : (n i : ℕ) → get_or {A = ℕ} (replicate n 0) i 0 ≡ 0
zero_at zero zero = refl
zero_at zero (suc i) = refl
zero_at (suc n) zero = refl
zero_at (suc n) (suc i) = zero_at n i

off_at : (n i : ℕ) → get_or (replicate n false) i false ≡ false
off_at zero zero = refl
off_at zero (suc i) = refl
off_at (suc n) zero = refl
off_at (suc n) (suc i) = off_at n i

new_slot : (l : Layout) (i : ℕ) → slot_value (new_cells l) i ≡ 0
new_slot l i =
    ap (λ (m : ℕ). cond (is_live (new_cells l) i) m 0) (zero_at (length l.widths) i)
    ∙ by_truth (λ (live : Bool). ◌≡◌ {A = ℕ} (cond live 0 0) 0) refl refl (is_live (new_cells l) i)

-- what is written fits

zero_fits : (width n : ℕ) → n ≡ 0 → n % 2 ^ width ≡ n
zero_fits width n is = let some : 0 < 2 ^ width = pow_pos width in mod-eq_of_lt (omega (arith, is, some))

members_fit : (value : Form → Start → Value) (next : Form → Start → Start) (fields : List FieldKind) (b : Start) (v : Value) → fitted (member_values value next fields b) v ≡ v
members_fit value next [] b v = refl
members_fit value next (f ∷ fields) b v = refl

fits : (types : List TypeLayout) (c d : Cells) (n : ℕ) (k : Form) (b : Start) → SlotsZero b (behind types n k b) d → fitted (value_from types c n k b) (value_from types d n k b) ≡ value_from types d n k b
fits types c d n (slot_form (some_bits width)) b zeros = ap (λ (m : ℕ). a_number width m) (zero_fits width (slot_value d b.slot) (zeros b.slot (omega arith) (omega arith)))
fits types c d n (slot_form a_truth) b zeros = refl
fits types c d n (slot_form an_error) b zeros = refl
fits types c d n (header_form type) b zeros = refl
fits types c d n (stack_form type size) b zeros = refl
fits types c d zero (struct_form type) b zeros = refl
fits types c d (suc n) (struct_form type) b zeros =
    members_fit (λ k s. value_from types c n k s) (λ k s. behind types n k s) (fields_in types type) b (value_from types d (suc n) (struct_form type) b)
fits types c d n no_form b zeros = refl

-- the whole

there_at : (l : Layout) (types : List TypeLayout) (n : ℕ) (k : Form) (b : Start) (owner : Option ℕ) → IsLaidAt l types n k b owner → (h : ℕ) → b.header ≤ h → h < (behind types n k b).header → HeaderThere l b (behind types n k b) h
there_at l types n (slot_form of) b owner laid h le lt = absurd (omega arith)
there_at l types n (header_form type) b owner laid h le lt = header_there l types n (header_form type) b laid h le lt
there_at l types n (stack_form type size) b owner laid h le lt = header_there l types n (stack_form type size) b laid h le lt
there_at l types n (struct_form type) b owner laid h le lt = header_there l types n (struct_form type) b laid h le lt
there_at l types n no_form b owner laid h le lt = absurd (omega arith)

module _ (syntax : Syntax16) (c : Cells) (owner : PartOwner) (t : Seat) (r : Range) (is : IsFrameOf syntax c) (found : owner_seat syntax owner ≡ Some t) (range : IsRangeOf (layouts_of syntax.decls) t r) where
  seated : part_seat syntax (all_of owner) ≡ Some t
  seated = ap (seat_behind (λ s. seat_at (layouts_of syntax.decls) [] s)) found

  laid : IsSeatLaid c.layout (layouts_of syntax.decls) t
  laid = (part_put syntax c c (all_of owner) no_value t is.layout refl seated).laid

  agree : OwnersAgree c.layout
  agree = subst OwnersAgree (sym is.layout) (program_laid syntax).0.agree

  there : (h : ℕ) → t.start.header ≤ h → h < (behind_seat (layouts_of syntax.decls) t).header → HeaderThere c.layout t.start (behind_seat (layouts_of syntax.decls) t) h
  there h le lt = there_at c.layout (layouts_of syntax.decls) t.depth t.form t.start t.owner laid h le lt

  begins : Keeps c c t.start (behind_seat (layouts_of syntax.decls) t)
  begins = record {
    layout = refl;
    whole = is.whole;
    values = λ values. refl;
    slots = λ i out. refl;
    headers = λ i out. refl;
    stacks = λ i out. refl;
  }

  abbrev first : Cells
  first = all_made made_invalid r.headers t.start.header c

  abbrev second : Cells
  second = all_made made_zero r.slots t.start.slot (all_made made_invalid r.headers t.start.header c)

  abbrev third : Cells
  third = all_made made_first r.stacks t.start.stack (all_made made_zero r.slots t.start.slot (all_made made_invalid r.headers t.start.header c))

  is_third : emptied r c ≡ third
  is_third =
      ap (λ (k : ℕ). all_made made_first r.stacks k (all_made made_zero r.slots r.slot (all_made made_invalid r.headers r.header c))) range.stack
      ∙ ap (λ (k : ℕ). all_made made_first r.stacks t.start.stack (all_made made_zero r.slots k (all_made made_invalid r.headers r.header c))) range.slot
      ∙ ap (λ (k : ℕ). all_made made_first r.stacks t.start.stack (all_made made_zero r.slots t.start.slot (all_made made_invalid r.headers k c))) range.header

  off : Off c t.start (behind_seat (layouts_of syntax.decls) t) agree there first
  off = all_off c t.start (behind_seat (layouts_of syntax.decls) t) agree there r.headers (omega (arith, range.header, range.headers)) begins

  zero_now : Zero c t.start (behind_seat (layouts_of syntax.decls) t) agree there second
  zero_now = all_zero c t.start (behind_seat (layouts_of syntax.decls) t) agree there r.slots first (omega (arith, range.slot, range.slots)) off

  done : Zero c t.start (behind_seat (layouts_of syntax.decls) t) agree there third × ((i : ℕ) → t.start.stack ≤ i → i < (behind_seat (layouts_of syntax.decls) t).stack → stack_place third i ≡ 0)
  done = all_first c t.start (behind_seat (layouts_of syntax.decls) t) agree there r.stacks second (omega (arith, range.stack, range.stacks)) zero_now

  keeps : Keeps c third t.start (behind_seat (layouts_of syntax.decls) t)
  keeps = done.0.0.0

  abbrev new : Cells
  new = new_cells (layout16 syntax)

  as_new : Same third new t.start (behind_seat (layouts_of syntax.decls) t)
  as_new = record {
    slots = λ i le lt. done.0.1 i le lt ∙ sym (new_slot (layout16 syntax) i);
    headers = λ i le lt. done.0.0.1 i le lt ∙ sym (off_at (length (layout16 syntax).headers) i);
    stacks = λ i le lt. done.1 i le lt ∙ sym (zero_at (length (layout16 syntax).sizes) i);
  }

  value_is : part_value (new_numbered syntax) (all_of owner) ≡ seat_value (layouts_of syntax.decls) third t
  value_is =
      ap (λ (x : Numbered). part_value x (all_of owner)) (sym (new_is syntax))
      ∙ part_read syntax new (all_of owner) t refl seated
      ∙ sym (value_same (layouts_of syntax.decls) third new t.depth t.form t.start as_new)

  value_fits : fitted (seat_value (layouts_of syntax.decls) c t) (part_value (new_numbered syntax) (all_of owner)) ≡ seat_value (layouts_of syntax.decls) third t
  value_fits =
      ap (fitted (seat_value (layouts_of syntax.decls) c t)) value_is
      ∙ fits (layouts_of syntax.decls) c third t.depth t.form t.start done.0.1

  begun : IsBegun syntax c third owner
  begun = record {
    is = part_read syntax third (all_of owner) t (keeps.layout ∙ is.layout) seated ∙ sym value_is;
    value =
        (part_put syntax c third (all_of owner) (part_value (new_numbered syntax) (all_of owner)) t is.layout keeps.layout seated).put keeps.values
        (record {
          slots = λ i le lt. keeps.slots i (inl lt);
          headers = λ i le lt. keeps.headers i (inl lt);
          stacks = λ i le lt. keeps.stacks i (inl lt);
        })
        (record {
          slots = λ i le lt. keeps.slots i (inr le);
          headers = λ i le lt. keeps.headers i (inr le);
          stacks = λ i le lt. keeps.stacks i (inr le);
        })
        (λ on. value_fits);
    frame = record { layout = keeps.layout ∙ is.layout; whole = keeps.whole };
  }

pub emptied_begins : EmptiedBegins
emptied_begins syntax c owner t r is found range =
    subst (λ (d : Cells). IsBegun syntax c d owner) (sym (is_third syntax c owner t r is found range)) (begun syntax c owner t r is found range)
