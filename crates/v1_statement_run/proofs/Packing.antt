-- The bits of headers, slot after slot.
use Rattle.std.proofs.Common.{◌≡◌, ℕ, zero, suc, ◌+◌, ◌-◌, ◌*◌, ◌/◌, ◌^◌, ◌<◌, ◌≤◌, Bool, true, false, nat_lt, slice_index, List, [], ◌++◌, length, take, drop, refl, sym, ap, subst, ◌∙◌, arith, append_assoc}
use Rattle.std.proofs.lemmas.Bool.{lt-ltb, ltb-true}
use Rattle.std.proofs.lemmas.List.{append-nil, drop-drop}
use Rattle.p4x_bits.specs.BitLists.{num, bits, octet_bits}
use Rattle.p4x_bits.proofs.BitLists.{num_of_take_below, length-octet_bits}
use Rattle.v1_core.specs.Cells.{Cells, slot_value, with_slot, with_validity}
use Rattle.v1_ready_blocks.specs.declared.places.Range.{Range}
use Rattle.v1_ready_blocks.specs.Places.{slot_width}
use Rattle.v1_ready_blocks.specs.Stacks.{element_of}
use Rattle.v1_ready_blocks.specs.Packets.{total_width, filled, slot_bits, header_bits, element_bits}
use Rattle.v1_statement_run.specs.Parts.{IsFilled}
use Rattle.v1_statement_run.proofs.Turns.{one_less, next, none_left}

-- the bits of so many slots, summed from the first on

pub record Totalling (c : Cells) (n slot i total : ℕ) : Type 0 where
  pub same : total + total_width c (n - i) (slot + i) ≡ total_width c n slot
  pub small : total ≤ 128 * i

pub total_begins : (c : Cells) (n slot : ℕ) → Totalling c n slot 0 0
total_begins c n slot =
    let a : n - 0 ≡ n = omega arith in
    let b : slot + 0 ≡ slot = omega arith in
    let z : 0 + total_width c (n - 0) (slot + 0) ≡ total_width c (n - 0) (slot + 0) = omega arith in
    record { same = z ∙ ap (λ k. total_width c k (slot + 0)) a ∙ ap (λ k. total_width c n k) b; small = omega arith }

left_width : (c : Cells) (n slot i w : ℕ) → i < n → w ≡ slot_width c (slot + i) → total_width c (n - i) (slot + i) ≡ w + total_width c (n - (i + 1)) (slot + (i + 1))
left_width c n slot i w h is =
    ap (λ k. total_width c k (slot + i)) (one_less n i h)
    ∙ ap (λ k. slot_width c (slot + i) + total_width c (n - (i + 1)) k) (next slot i)
    ∙ ap (λ k. k + total_width c (n - (i + 1)) (slot + (i + 1))) (sym is)

pub total_goes : (c : Cells) (n slot i total w : ℕ) → i < n → w ≡ slot_width c (slot + i) → w ≤ 128 → Totalling c n slot i total → Totalling c n slot (i + 1) (total + w)
total_goes c n slot i total w h is few g = record {
  same = omega (arith, g.same, left_width c n slot i w h is);
  small = omega (arith, g.small, few);
}

pub total_ends : (c : Cells) (n slot i total : ℕ) → n ≤ i → Totalling c n slot i total → total ≡ total_width c n slot
total_ends c n slot i total h g =
    let z : total_width c (n - i) (slot + i) ≡ 0 = ap (λ k. total_width c k (slot + i)) (none_left n i h) in omega (arith, g.same, z)

pub total_few : (c : Cells) (n slot i total : ℕ) → i ≤ n → Totalling c n slot i total → total ≤ 128 * n
total_few c n slot i total h g = omega (arith, g.small, h)

-- it is the same where the layout is

pub total_same : (c d : Cells) → c.layout ≡ d.layout → (n slot : ℕ) → total_width c n slot ≡ total_width d n slot
total_same c d e zero slot = refl
total_same c d e (suc n) slot = omega (arith, width e, total_same c d e n (1 + slot))
  where
    width : c.layout ≡ d.layout → slot_width c slot ≡ slot_width d slot
    width same = ap (λ l. slice_index l.widths slot) same

-- slots that are filled

octets_length : (octets : List ℕ) → length (octet_bits octets) ≡ 8 * length octets
octets_length octets = length-octet_bits octets

pub record Filling (bits : List Bool) (n slot i at : ℕ) (old now : Cells) : Type 0 where
  pub layout : now.layout ≡ old.layout
  pub same : filled (n - i) (slot + i) (drop at bits) now ≡ filled n slot bits old
  pub room : at + total_width now (n - i) (slot + i) ≤ length bits
  pub small : at ≤ 128 * i

pub fill_begins : (octets : List ℕ) (n slot : ℕ) (c : Cells) → total_width c n slot ≤ 8 * length octets → Filling (octet_bits octets) n slot 0 0 c c
fill_begins octets n slot c h =
    let a : n - 0 ≡ n = omega arith in
    let b : slot + 0 ≡ slot = omega arith in
    let t : total_width c (n - 0) (slot + 0) ≡ total_width c n slot = ap (λ k. total_width c k (slot + 0)) a ∙ ap (λ k. total_width c n k) b in
    record {
      layout = refl;
      same = ap (λ k. filled k (slot + 0) (octet_bits octets) c) a ∙ ap (λ k. filled n k (octet_bits octets) c) b;
      room = omega (arith, h, t, octets_length octets);
      small = omega arith;
    }

pub fill_width : (bits : List Bool) (octets : List ℕ) (n slot i at w : ℕ) (old now : Cells) → bits ≡ octet_bits octets → i < n → w ≡ slot_width now (slot + i) → Filling bits n slot i at old now → at + w ≤ 8 * length octets
fill_width bits octets n slot i at w old now e h is g =
    omega (arith, g.room, left_width now n slot i w h is, octets_length octets, ap length e)

pub fill_fits : (octets : List ℕ) (at w n : ℕ) → n ≡ num (take w (drop at (octet_bits octets))) → n < 2 ^ w
fill_fits octets at w n is = subst (λ k. k < 2 ^ w) (sym is) (num_of_take_below w (drop at (octet_bits octets)))

pub fill_goes : (bits : List Bool) (n slot i at w number : ℕ) (old now new : Cells) → i < n → w ≡ slot_width now (slot + i) → w ≤ 128 → number ≡ num (take w (drop at bits)) → new ≡ with_slot now (slot + i) number → Filling bits n slot i at old now → Filling bits n slot (i + 1) (at + w) old new
fill_goes bits n slot i at w number old now new h is few reads put g =
    let layout : new.layout ≡ now.layout = ap (λ c. c.layout) put in
    let left : total_width new (n - (i + 1)) (slot + (i + 1)) ≡ total_width now (n - (i + 1)) (slot + (i + 1)) = total_same new now layout (n - (i + 1)) (slot + (i + 1)) in
    record {
      layout = layout ∙ g.layout;
      same =
          ap (λ c. filled (n - (i + 1)) (slot + (i + 1)) (drop (at + w) bits) c) put
          ∙ ap (λ k. filled (n - (i + 1)) (slot + (i + 1)) (drop (at + w) bits) (with_slot now (slot + i) k)) reads
          ∙ ap (λ l. filled (n - (i + 1)) (slot + (i + 1)) l (with_slot now (slot + i) (num (take w (drop at bits))))) (sym (drop-drop w at bits))
          ∙ ap (λ k. filled (n - (i + 1)) k (drop w (drop at bits)) (with_slot now (slot + i) (num (take w (drop at bits))))) (sym (next slot i))
          ∙ ap (λ k. filled (n - (i + 1)) (1 + (slot + i)) (drop k (drop at bits)) (with_slot now (slot + i) (num (take k (drop at bits))))) is
          ∙ ap (λ k. filled k (slot + i) (drop at bits) now) (sym (one_less n i h))
          ∙ g.same;
      room = omega (arith, g.room, left_width now n slot i w h is, left);
      small = omega (arith, g.small, few);
    }

pub fill_ends : (bits : List Bool) (n slot i at : ℕ) (old now : Cells) → n ≤ i → Filling bits n slot i at old now → now ≡ filled n slot bits old
fill_ends bits n slot i at old now h g =
    sym (ap (λ k. filled k (slot + i) (drop at bits) now) (none_left n i h)) ∙ g.same

-- an extraction

pub few_bits : (c : Cells) (octets : List ℕ) (n slot total : ℕ) → total ≡ total_width c n slot → length octets < (total + 7) / 8 → nat_lt (total_width c n slot) (8 * length octets + 1) ≡ false
few_bits c octets n slot total is few = by_value (nat_lt (total_width c n slot) (8 * length octets + 1)) refl
  where
    by_value : (b : Bool) → nat_lt (total_width c n slot) (8 * length octets + 1) ≡ b → b ≡ false
    by_value true e = let lt = ltb-true _ _ e in absurd (omega (arith, lt, is, few))
    by_value false e = refl

pub enough_bits : (c : Cells) (octets : List ℕ) (n slot total : ℕ) → total ≡ total_width c n slot → (total + 7) / 8 ≤ length octets → nat_lt (total_width c n slot) (8 * length octets + 1) ≡ true
enough_bits c octets n slot total is le = lt-ltb (total_width c n slot) (8 * length octets + 1) (omega (arith, is, le))

pub still_enough : (c d : Cells) (octets : List ℕ) (n slot header total : ℕ) → d ≡ with_validity c header true → total ≡ total_width c n slot → (total + 7) / 8 ≤ length octets → total_width d n slot ≤ 8 * length octets
still_enough c d octets n slot header total valid is le =
    omega (arith, total_same d c (ap (λ (x : Cells). x.layout) valid) n slot, is, le)

pub has_filled : (r : Range) (octets : List ℕ) (old now new : Cells) (total count : ℕ) → total ≡ total_width old r.slots r.slot → (total + 7) / 8 ≤ length octets → count ≡ total / 8 → now ≡ with_validity old r.header true → new ≡ filled r.slots r.slot (octet_bits octets) now → IsFilled r octets old new count
has_filled r octets old now new total count is le counts valid fills = record {
  taken = counts ∙ ap (λ k. k / 8) is;
  within = omega (arith, counts, le);
  fields = fills ∙ ap (filled r.slots r.slot (octet_bits octets)) valid;
}

-- bits that are emitted

pub record EmittingSlots (c : Cells) (n slot i : ℕ) (old now : List Bool) : Type 0 where
  pub same : now ++ slot_bits c (n - i) (slot + i) ≡ old ++ slot_bits c n slot

pub slots_begin : (c : Cells) (n slot : ℕ) (old more : List Bool) → more ≡ [] → EmittingSlots c n slot 0 old (old ++ more)
slots_begin c n slot old more none =
    let a : n - 0 ≡ n = omega arith in
    let b : slot + 0 ≡ slot = omega arith in
    let e : old ++ more ≡ old = ap (λ l. old ++ l) none ∙ append-nil old in
    record { same = ap (λ l. l ++ slot_bits c (n - 0) (slot + 0)) e ∙ ap (λ k. old ++ slot_bits c k (slot + 0)) a ∙ ap (λ k. old ++ slot_bits c n k) b }

pub slots_go : (c : Cells) (n slot i w number : ℕ) (old now new : List Bool) → i < n → w ≡ slot_width c (slot + i) → number ≡ slot_value c (slot + i) → new ≡ now ++ bits w number → EmittingSlots c n slot i old now → EmittingSlots c n slot (i + 1) old new
slots_go c n slot i w number old now new h wide is put g = record {
  same =
      ap (λ l. l ++ slot_bits c (n - (i + 1)) (slot + (i + 1))) put
      ∙ ap (λ k. (now ++ bits k number) ++ slot_bits c (n - (i + 1)) (slot + (i + 1))) wide
      ∙ ap (λ k. (now ++ bits (slot_width c (slot + i)) k) ++ slot_bits c (n - (i + 1)) (slot + (i + 1))) is
      ∙ ap (λ k. (now ++ bits (slot_width c (slot + i)) (slot_value c (slot + i))) ++ slot_bits c (n - (i + 1)) k) (sym (next slot i))
      ∙ append_assoc now (bits (slot_width c (slot + i)) (slot_value c (slot + i))) (slot_bits c (n - (i + 1)) (1 + (slot + i)))
      ∙ ap (λ k. now ++ slot_bits c k (slot + i)) (sym (one_less n i h))
      ∙ g.same;
}

pub slots_end : (c : Cells) (n slot i : ℕ) (old now last : List Bool) → n ≤ i → last ≡ now → EmittingSlots c n slot i old now → last ≡ old ++ slot_bits c n slot
slots_end c n slot i old now last h is g =
    is ∙ sym (append-nil now) ∙ sym (ap (λ k. now ++ slot_bits c k (slot + i)) (none_left n i h)) ∙ g.same

pub record Emitting (c : Cells) (r : Range) (i : ℕ) (old now : List Bool) : Type 0 where
  pub same : now ++ element_bits c r i (r.headers - i) ≡ old ++ element_bits c r 0 r.headers

pub emit_begins : (c : Cells) (r : Range) (old : List Bool) → Emitting c r 0 old old
emit_begins c r old =
    let a : r.headers - 0 ≡ r.headers = omega arith in record { same = ap (λ k. old ++ element_bits c r 0 k) a }

pub emit_goes : (c : Cells) (r e : Range) (i : ℕ) (old now new : List Bool) → i < r.headers → e ≡ element_of r i → new ≡ now ++ header_bits c e → Emitting c r i old now → Emitting c r (i + 1) old new
emit_goes c r e i old now new h is put g =
    let n : 1 + i ≡ i + 1 = omega arith in
    record {
      same =
          ap (λ l. l ++ element_bits c r (i + 1) (r.headers - (i + 1))) put
          ∙ ap (λ x. (now ++ header_bits c x) ++ element_bits c r (i + 1) (r.headers - (i + 1))) is
          ∙ ap (λ k. (now ++ header_bits c (element_of r i)) ++ element_bits c r k (r.headers - (i + 1))) (sym n)
          ∙ append_assoc now (header_bits c (element_of r i)) (element_bits c r (1 + i) (r.headers - (i + 1)))
          ∙ ap (λ k. now ++ element_bits c r i k) (sym (one_less r.headers i h))
          ∙ g.same;
    }

pub emit_ends : (c : Cells) (r : Range) (i : ℕ) (old now : List Bool) → r.headers ≤ i → Emitting c r i old now → now ≡ old ++ element_bits c r 0 r.headers
emit_ends c r i old now h g =
    sym (append-nil now) ∙ sym (ap (λ k. now ++ element_bits c r i k) (none_left r.headers i h)) ∙ g.same
