-- The elements of a stack that move.
use Rattle.std.proofs.Common.{◌≡◌, ◌≢◌, ◌⊎◌, inl, inr, ℕ, zero, suc, ◌+◌, ◌-◌, ◌*◌, ◌<◌, ◌≤◌, min, nat_lt, Bool, true, false, cond, Option, Some, List, [], ◌∷◌, ◌++◌, length, map, take, drop, get_or, refl, sym, ap, ◌∙◌, subst, arith}
use Rattle.std.proofs.lemmas.List.{get_or-set_other, ext_get_or, get_or-take, get_or-drop, get_or-map, get_or_append_left, get_or-append_right, length-take, length-drop, length-map, length-append}
use Rattle.std.proofs.lemmas.Bool.{ltb-true, ltb-false}
use Rattle.p416_syntax.specs.declared.program.Syntax16.{Syntax16}
use Rattle.p416_syntax.specs.Names.{Name}
use Rattle.p416_syntax.specs.Scopes.{FieldKind, fields_in}
use Rattle.p416_syntax.specs.Totals.{bits_in}
use Rattle.p416_syntax.specs.Declarations.{layouts_of}
use Rattle.v1_core.specs.Values.{Field, Header, no_header, a_header, cleared_field, cleared, to_element}
use Rattle.v1_core.specs.Slots.{FramePart}
use Rattle.v1_core.specs.Numbered.{made_valid}
use Rattle.v1_core.specs.Numbers.{is_same_truth}
use Rattle.v1_core.specs.HeaderCalls as sem_calls
use Rattle.v1_core.specs.Cells.{Cells, slot_value, header_valid, stack_place, AreWhole}
use Rattle.v1_core.specs.Seats.{header_form, stack_form, Start, moved, Seat, seat}
use Rattle.v1_core.specs.PackedValues.{field_values, header_value, element_values}
use Rattle.v1_core.specs.Laid.{AreFields, IsHeader, OwnersAgree}
use Rattle.v1_core.specs.Programs.{frame_kinds, part_seat}
use Rattle.v1_core.specs.PackedFrames.{IsFrameOf}
use Rattle.v1_core.proofs.Laws.{program_laid}
use Rattle.v1_core.proofs.Reading.{read_once}
use Rattle.v1_core.proofs.Kept.{validity_others, validity_value}
use Rattle.v1_ready_laws.specs.Widths.{KindsNarrow, TypesNarrow}
use Rattle.v1_ready_laws.proofs.Paths.{element_is, elements_count}
use Rattle.v1_ready_blocks.specs.declared.places.Range.{Range}
use Rattle.v1_ready_blocks.specs.Places.{copied, made_invalid, all_made}
use Rattle.v1_ready_blocks.specs.Stacks.{fields_each, element_copied, moved_up, moved_down, pushed, popped}
use Rattle.v1_parser_laws.specs.Ranges.{IsRangeOf}
use Rattle.v1_parser_laws.proofs.Parts.{whole_marked}
use Rattle.v1_place_laws.specs.Finding.{in_element}
use Rattle.v1_place_laws.proofs.Elements.{element_at}
use Rattle.v1_place_laws.proofs.Parts.{further_part, part_further}
use Rattle.v1_place_laws.proofs.Writing.{part_stands}
use Rattle.v1_deed_laws.specs.Forms.{OneForm}
use Rattle.v1_deed_laws.proofs.Alike.{Shifted, header_alike}
use Rattle.v1_deed_laws.proofs.Whole.{Untouched}
use Rattle.v1_deed_laws.proofs.Parts.{Copied, parts_copied}

-- an invalid header has only its names and widths
cleared_fields : (fields : List FieldKind) (c d : Cells) (a b : Start) → map cleared_field (field_values fields c a) ≡ map cleared_field (field_values fields d b)
cleared_fields [] c d a b = refl
cleared_fields (f ∷ fields) c d a b =
    ap (λ (l : List Field). record { called = f.called; width = bits_in f.kind; number = 0 } ∷ l) (cleared_fields fields c d (moved a 1 0 0) (moved b 1 0 0))

abbrev header_with : Bool → List Field → Header
header_with on fields = record { valid = on; fields = fields }

pub cleared_same : (fields : List FieldKind) (c d : Cells) (a b : Start) → cleared false (header_value fields c a) ≡ cleared false (header_value fields d b)
cleared_same fields c d a b = ap (header_with false) (cleared_fields fields c d a b)

-- the fields of an invalid header are 0
fields_zero : (c : Cells) (header : ℕ) (fields : List FieldKind) (b : Start) → AreFields c.layout header (length fields) b → header_valid c header ≡ false → map cleared_field (field_values fields c b) ≡ field_values fields c b
fields_zero c header [] b laid off = refl
fields_zero c header (f ∷ fields) b laid off =
    let none : 0 ≡ slot_value c b.slot = ap (λ (on : Bool). cond on (slot_value c b.slot) 0) (sym off) ∙ read_once c b.slot header laid.0 in
    ap (λ (n : ℕ). first n ∷ map cleared_field (field_values fields c (moved b 1 0 0))) none
    ∙ ap (λ (l : List Field). first (slot_value c b.slot) ∷ l) (fields_zero c header fields (moved b 1 0 0) laid.1 off) where
      first : ℕ → Field
      first n = record { called = f.called; width = bits_in f.kind; number = n }

invalid_is : (c : Cells) (fields : List FieldKind) (b : Start) → AreFields c.layout b.header (length fields) b → cleared false (header_value fields c b) ≡ made_valid false (header_value fields c b)
invalid_is c fields b laid = by (header_valid c b.header) refl where
  by : (on : Bool) → header_valid c b.header ≡ on → header_with false (map cleared_field (field_values fields c b)) ≡ cond (is_same_truth on false) (header_with on (field_values fields c b)) (header_with false (map cleared_field (field_values fields c b)))
  by true e = refl
  by false e = ap (header_with false) (fields_zero c b.header fields b laid e)

-- elements reach no further than their stack
below_times : (j size len : ℕ) → j < size → j * len + len ≤ size * len
below_times j zero len lt = absurd (omega (arith, lt))
below_times zero (suc size) len lt = omega arith
below_times (suc j) (suc size) len lt = let h = below_times j size len (omega (arith, lt)) in omega (arith, h)

other_place : (j k : ℕ) → k ≢ j → (k < j) ⊎ (j < k)
other_place j k apart = by (nat_lt k j) refl where
  by : (t : Bool) → nat_lt k j ≡ t → (k < j) ⊎ (j < k)
  by true e = inl (ltb-true k j e)
  by false e = inr (more (not_below e)) where
    not_below : nat_lt k j ≡ false → j ≤ k
    not_below f = ltb-false k j f

    more : j ≤ k → j < k
    more le = strictly le (nat_lt j k) refl where
      strictly : j ≤ k → (u : Bool) → nat_lt j k ≡ u → j < k
      strictly l true f = ltb-true j k f
      strictly l false f = absurd (apart (let m : k ≤ j = ltb-false j k f in omega (arith, l, m)))

same_headers : (x y : Header) → a_header x ≡ a_header y → x ≡ y
same_headers x y e = let same : x ≡ y = cc e in same

module _ (syntax : Syntax16) (narrow : TypesNarrow (layouts_of syntax.decls)) (kinds : KindsNarrow (frame_kinds syntax)) (q : FramePart) (n : ℕ) (type : Name) (size : ℕ) (a : Start) (owner : Option ℕ) (at : part_seat syntax q ≡ Some (record { depth = n; form = stack_form type size; start = a; owner = owner })) where
  abbrev fields : List FieldKind
  fields = fields_in (layouts_of syntax.decls) type

  abbrev len : ℕ
  len = length (fields_in (layouts_of syntax.decls) type)

  abbrev place_of : ℕ → Start
  place_of k = moved a (k * len) k 0

  abbrev end : Start
  end = moved a (size * len) size 1

  abbrev pub element : Cells → ℕ → Header
  element c k = header_value fields c (place_of k)

  abbrev seat_of : ℕ → Seat
  seat_of k = in_element len k (seat n (header_form type) a)

  part_of_element : (k : ℕ) → k < size → part_seat syntax (further_part (to_element k) q) ≡ Some (seat_of k)
  part_of_element k lt = part_further syntax q (to_element k) (record { depth = n; form = stack_form type size; start = a; owner = owner }) (seat_of k) at (element_at n type len size a k lt)

  -- a frame of the program in which only the elements differ
  pub record Kept (c d : Cells) : Type 0 where
    pub untouched : Untouched c d a end
    pub whole : AreWhole d
    pub place : stack_place d a.stack ≡ stack_place c a.stack

  kept_itself : (c : Cells) → AreWhole c → Kept c c
  kept_itself c whole = record {
    untouched = record { layout = refl; values = λ values. refl; slots = λ i out. refl; headers = λ i out. refl; stacks = λ i out. refl };
    whole = whole;
    place = refl;
  }

  kept_on : (c d e : Cells) → Kept c d → Kept d e → Kept c e
  kept_on c d e x y = record {
    untouched = record {
      layout = y.untouched.layout ∙ x.untouched.layout;
      values = λ values. x.untouched.values values ∙ y.untouched.values values;
      slots = λ i out. x.untouched.slots i out ∙ y.untouched.slots i out;
      headers = λ i out. x.untouched.headers i out ∙ y.untouched.headers i out;
      stacks = λ i out. x.untouched.stacks i out ∙ y.untouched.stacks i out;
    };
    whole = y.whole;
    place = y.place ∙ x.place;
  }

  frame_kept : (c d : Cells) → IsFrameOf syntax c → Kept c d → IsFrameOf syntax d
  frame_kept c d is x = record { layout = x.untouched.layout ∙ is.layout; whole = x.whole }

  -- what one element is, and that the others stay
  record OneChanged (c d : Cells) (j : ℕ) (h : Header) : Type 0 where
    kept : Kept c d
    here : element d j ≡ h
    others : (k : ℕ) → k < size → k ≢ j → element d k ≡ element c k

  -- outside of one element everything reads as before
  one_changed : (c d : Cells) (j : ℕ) (h : Header) → j < size → Untouched c d (place_of j) (moved (place_of j) len 1 0) → AreWhole d → element d j ≡ h → OneChanged c d j h
  one_changed c d j h lt un whole here = record {
    kept = record {
      untouched = record {
        layout = un.layout;
        values = un.values;
        slots = λ i out. un.slots i (slots_out i out);
        headers = λ i out. un.headers i (headers_out i out);
        stacks = λ i out. un.stacks i (stacks_out i);
      };
      whole = whole;
      place = sym (un.stacks a.stack (stacks_out a.stack));
    };
    here = here;
    others = λ k k_lt apart. header_alike fields d c (place_of k) (place_of k) (alike k k_lt (other_place j k apart));
  } where
    last : j * len + len ≤ size * len
    last = below_times j size len lt

    slots_out : (i : ℕ) → (i < a.slot) ⊎ (a.slot + size * len ≤ i) → (i < a.slot + j * len) ⊎ (a.slot + j * len + len ≤ i)
    slots_out i (inl before) = inl (omega (arith, before))
    slots_out i (inr after) = inr (omega (arith, after, last))

    headers_out : (i : ℕ) → (i < a.header) ⊎ (a.header + size ≤ i) → (i < a.header + j) ⊎ (a.header + j + 1 ≤ i)
    headers_out i (inl before) = inl (omega (arith, before))
    headers_out i (inr after) = inr (omega (arith, after, lt))

    stacks_out : (i : ℕ) → (i < a.stack + 0) ⊎ (a.stack + 0 + 0 ≤ i)
    stacks_out i = by (nat_lt i (a.stack + 0)) refl where
      by : (t : Bool) → nat_lt i (a.stack + 0) ≡ t → (i < a.stack + 0) ⊎ (a.stack + 0 + 0 ≤ i)
      by true e = inl (ltb-true i (a.stack + 0) e)
      by false e = inr (let le : a.stack + 0 ≤ i = ltb-false i (a.stack + 0) e in omega (arith, le))

    alike : (k : ℕ) → k < size → (k < j) ⊎ (j < k) → Shifted d c (place_of k) (moved (place_of k) len 1 0) (place_of k)
    alike k k_lt side = record {
      slots = λ i m le up same. subst (λ (p : ℕ). slot_value d i ≡ slot_value c p) (equal i m (a.slot + k * len) same) (sym (un.slots i (slot_apart i le up side)));
      headers = λ i m le up same. subst (λ (p : ℕ). header_valid d i ≡ header_valid c p) (equal i m (a.header + k) same) (sym (un.headers i (header_apart i le up side)));
      stacks = λ i m le up same. absurd (omega (arith, le, up));
    } where
      equal : (i m b : ℕ) → b + m ≡ b + i → i ≡ m
      equal i m b e = omega (arith, e)

      slot_apart : (i : ℕ) → a.slot + k * len ≤ i → i < a.slot + k * len + len → (k < j) ⊎ (j < k) → (i < a.slot + j * len) ⊎ (a.slot + j * len + len ≤ i)
      slot_apart i le up (inl before) = inl (let f = below_times k j len before in omega (arith, le, up, f))
      slot_apart i le up (inr after) = inr (let f = below_times j k len after in omega (arith, le, up, f))

      header_apart : (i : ℕ) → a.header + k ≤ i → i < a.header + k + 1 → (k < j) ⊎ (j < k) → (i < a.header + j) ⊎ (a.header + j + 1 ≤ i)
      header_apart i le up (inl before) = inl (omega (arith, le, up, before))
      header_apart i le up (inr after) = inr (omega (arith, le, up, after))

  -- an element becomes invalid
  off : (c : Cells) (j : ℕ) → IsFrameOf syntax c → j < size → OneChanged c (made_invalid (a.header + j) c) j (cleared false (header_value fields c a))
  off c j is lt =
      one_changed c (made_invalid (a.header + j) c) j (cleared false (header_value fields c a)) lt
      (record {
        layout = refl;
        values = λ values. refl;
        slots = λ i out. sym (validity_others c len (place_of j) false i agree laid is.whole.numbers out);
        headers = λ i out. sym (get_or-set_other c.valids (a.header + j) i false false (apart i out));
        stacks = λ i out. refl;
      })
      (whole_marked c len (place_of j) false laid is.whole)
      (sym (validity_value c fields (place_of j) false laid is.whole.numbers is.whole.valids)
      ∙ (sym (invalid_is c fields (place_of j) laid.each) ∙ cleared_same fields c c (place_of j) a)) where
        agree : OwnersAgree c.layout
        agree = subst OwnersAgree (sym is.layout) (program_laid syntax).0.agree

        laid : IsHeader c.layout (length (fields_in (layouts_of syntax.decls) type)) (moved a (j * length (fields_in (layouts_of syntax.decls) type)) j 0)
        laid = (part_stands syntax c (further_part (to_element j) q) (seat_of j) is.layout narrow kinds (part_of_element j lt)).laid

        apart : (i : ℕ) → (i < a.header + j) ⊎ (a.header + j + 1 ≤ i) → i ≢ a.header + j
        apart i (inl before) same = omega (arith, before, same)
        apart i (inr after) same = omega (arith, after, same)

  -- so many become invalid, from one on
  record Offs (c d : Cells) (j m : ℕ) : Type 0 where
    kept : Kept c d
    these : (k : ℕ) → k < size → j ≤ k → k < j + m → element d k ≡ cleared false (header_value fields c a)
    before : (k : ℕ) → k < size → k < j → element d k ≡ element c k
    after : (k : ℕ) → k < size → j + m ≤ k → element d k ≡ element c k

  offs : (m j from : ℕ) (c : Cells) → IsFrameOf syntax c → from ≡ a.header + j → j + m ≤ size → Offs c (all_made made_invalid m from c) j m
  offs zero j from c is e le = record {
    kept = kept_itself c is.whole;
    these = λ k lt low high. absurd (omega (arith, low, high));
    before = λ k lt low. refl;
    after = λ k lt high. refl;
  }
  offs (suc m) j from c is e le =
      let one : OneChanged c (made_invalid from c) j (cleared false (header_value fields c a)) =
      subst (λ (h : ℕ). OneChanged c (made_invalid h c) j (cleared false (header_value fields c a))) (sym e) (off c j is (omega (arith, le))) in
      let d : Cells = made_invalid from c in
      let more : Offs d (all_made made_invalid m (1 + from) d) (suc j) m = offs m (suc j) (1 + from) d (frame_kept c d is one.kept) (omega (arith, e)) (omega (arith, le)) in
      let end_is : Cells = all_made made_invalid m (1 + from) d in
      record {
        kept = kept_on c d end_is one.kept more.kept;
        these = λ k lt low high. this k lt low high one more (nat_lt j k) refl;
        before = λ k lt low. more.before k lt (omega (arith, low)) ∙ one.others k lt (λ same. omega (arith, low, same));
        after = λ k lt high. more.after k lt (omega (arith, high)) ∙ one.others k lt (λ same. omega (arith, high, same));
      } where
        this : (k : ℕ) → k < size → j ≤ k → k < j + suc m → OneChanged c (made_invalid from c) j (cleared false (header_value fields c a)) → Offs (made_invalid from c) (all_made made_invalid m (1 + from) (made_invalid from c)) (suc j) m → (t : Bool) → nat_lt j k ≡ t → element (all_made made_invalid m (1 + from) (made_invalid from c)) k ≡ cleared false (header_value fields c a)
        this k lt low high one more true is_more = more.these k lt (let f = ltb-true j k is_more in omega (arith, f)) (omega (arith, high)) ∙ cleared_same fields (made_invalid from c) c a a
        this k lt low high one more false is_more =
            let f : k ≤ j = ltb-false j k is_more in
            let same : k ≡ j = omega (arith, f, low) in
            more.before k lt (omega (arith, f)) ∙ (ap (element (made_invalid from c)) same ∙ one.here)

  module _ (stack : Range) (slot_is : stack.slot ≡ a.slot) (header_is : stack.header ≡ a.header) (each_is : 0 < size → fields_each stack ≡ len) where
    -- the parts of an element, with the place of no stack
    abbrev range_of_element : ℕ → Range
    range_of_element k = record {
      slot = stack.slot + k * fields_each stack;
      slots = fields_each stack;
      header = stack.header + k;
      headers = 1;
      stack = a.stack;
      stacks = 0;
    }

    ranged : (k : ℕ) → 0 < size → IsRangeOf (layouts_of syntax.decls) (seat_of k) (range_of_element k)
    ranged k some = record {
      slot = ap (λ (s : ℕ). s + k * fields_each stack) slot_is ∙ ap (λ (e : ℕ). a.slot + k * e) (each_is some);
      slots = ap (λ (s : ℕ). s + k * fields_each stack + fields_each stack) slot_is ∙ ap (λ (e : ℕ). a.slot + k * e + e) (each_is some);
      header = ap (λ (h : ℕ). h + k) header_is;
      headers = ap (λ (h : ℕ). h + k + 1) header_is;
      stack = no_more a.stack;
      stacks = none a.stack;
    } where
      no_more : (s : ℕ) → s ≡ s + 0
      no_more s = omega arith

      none : (s : ℕ) → s + 0 ≡ s + 0 + 0
      none s = omega arith

    one_form : (i j : ℕ) → OneForm (layouts_of syntax.decls) (seat_of j) (seat_of i)
    one_form i j = record { form = refl; ends = refl; value = λ c b. refl; laid = λ l b h. h; wide = λ l b h. h }

    -- an element is copied
    copy : (c : Cells) (i j : ℕ) → IsFrameOf syntax c → i < size → j < size → OneChanged c (element_copied stack i j c) j (element c i)
    copy c i j is i_lt j_lt =
        let done : Copied syntax c is narrow kinds (seat_of j) (seat_of i) (copied (range_of_element i) (range_of_element j) c) =
        parts_copied syntax c is narrow kinds (further_part (to_element j) q) (further_part (to_element i) q) (seat_of j) (seat_of i) (range_of_element j) (range_of_element i) (part_of_element j j_lt) (part_of_element i i_lt) tt (one_form i j) (ranged j (omega (arith, j_lt))) (ranged i (omega (arith, j_lt))) in
        one_changed c (copied (range_of_element i) (range_of_element j) c) j (element c i) j_lt done.untouched done.whole (same_headers (element (copied (range_of_element i) (range_of_element j) c) j) (element c i) done.value)

    record Up (c d : Cells) (distance m : ℕ) : Type 0 where
      kept : Kept c d
      low : (k : ℕ) → k < size → k < distance → element d k ≡ element c k
      these : (k : ℕ) → k < m → element d (k + distance) ≡ element c k
      high : (k : ℕ) → k < size → m + distance ≤ k → element d k ≡ element c k

    up : (distance m : ℕ) (c : Cells) → IsFrameOf syntax c → m + distance ≤ size → Up c (moved_up stack distance m c) distance m
    up distance zero c is le = record { kept = kept_itself c is.whole; low = λ k lt l. refl; these = λ k lt. absurd (omega (arith, lt)); high = λ k lt h. refl }
    up distance (suc m) c is le =
        let d : Cells = element_copied stack m (m + distance) c in
        let one : OneChanged c d (m + distance) (element c m) = copy c m (m + distance) is (omega (arith, le)) (omega (arith, le)) in
        let more : Up d (moved_up stack distance m d) distance m = up distance m d (frame_kept c d is one.kept) (omega (arith, le)) in
        record {
          kept = kept_on c d (moved_up stack distance m d) one.kept more.kept;
          low = λ k lt l. more.low k lt l ∙ one.others k lt (λ same. omega (arith, l, same));
          these = λ k lt. this k lt one more (nat_lt k m) refl;
          high = λ k lt h. more.high k lt (omega (arith, h)) ∙ one.others k lt (λ same. omega (arith, h, same));
        } where
          this : (k : ℕ) → k < suc m → OneChanged c (element_copied stack m (m + distance) c) (m + distance) (element c m) → Up (element_copied stack m (m + distance) c) (moved_up stack distance m (element_copied stack m (m + distance) c)) distance m → (t : Bool) → nat_lt k m ≡ t → element (moved_up stack distance m (element_copied stack m (m + distance) c)) (k + distance) ≡ element c k
          this k lt one more true e =
              let f : k < m = ltb-true k m e in
              more.these k f ∙ one.others k (omega (arith, f, le)) (λ same. omega (arith, f, same))
          this k lt one more false e =
              let f : m ≤ k = ltb-false k m e in
              let same : k ≡ m = omega (arith, f, lt) in
              subst (λ (p : ℕ). element (moved_up stack distance m (element_copied stack m (m + distance) c)) (p + distance) ≡ element c p) (sym same)
              (more.high (m + distance) (omega (arith, le)) (omega arith) ∙ one.here)

    record Down (c d : Cells) (from base m : ℕ) : Type 0 where
      kept : Kept c d
      low : (k : ℕ) → k < size → k < base → element d k ≡ element c k
      these : (k : ℕ) → k < m → element d (base + k) ≡ element c (from + k)

    down : (distance m from base : ℕ) (c : Cells) → IsFrameOf syntax c → from ≡ base + distance → from + m ≤ size → Down c (moved_down stack distance from m c) from base m
    down distance zero from base c is e le = record { kept = kept_itself c is.whole; low = λ k lt l. refl; these = λ k lt. absurd (omega (arith, lt)) }
    down distance (suc m) from base c is e le =
        let d : Cells = element_copied stack from (from - distance) c in
        let to : from - distance ≡ base = omega (arith, e) in
        let one : OneChanged c d base (element c from) = subst (λ (j : ℕ). OneChanged c d j (element c from)) to (copy c from (from - distance) is (omega (arith, le)) (omega (arith, le))) in
        let more : Down d (moved_down stack distance (1 + from) m d) (1 + from) (suc base) m = down distance m (1 + from) (suc base) d (frame_kept c d is one.kept) (omega (arith, e)) (omega (arith, le)) in
        record {
          kept = kept_on c d (moved_down stack distance (1 + from) m d) one.kept more.kept;
          low = λ k lt l. more.low k lt (omega (arith, l)) ∙ one.others k lt (λ same. omega (arith, l, same));
          these = λ k lt. this k lt one more;
        } where
          this : (k : ℕ) → k < suc m → OneChanged c (element_copied stack from (from - distance) c) base (element c from) → Down (element_copied stack from (from - distance) c) (moved_down stack distance (1 + from) m (element_copied stack from (from - distance) c)) (1 + from) (suc base) m → element (moved_down stack distance (1 + from) m (element_copied stack from (from - distance) c)) (base + k) ≡ element c (from + k)
          this zero lt one more =
              let none : base + 0 ≡ base = omega arith in
              let also : from ≡ from + 0 = omega arith in
              ap (element (moved_down stack distance (1 + from) m (element_copied stack from (from - distance) c))) none
              ∙ (more.low base (omega (arith, e, le)) (omega arith) ∙ (one.here ∙ ap (element c) also))
          this (suc k) lt one more =
              let next : base + suc k ≡ suc base + k = omega arith in
              let also : 1 + from + k ≡ from + suc k = omega arith in
              ap (element (moved_down stack distance (1 + from) m (element_copied stack from (from - distance) c))) next
              ∙ (more.these k (omega (arith, lt)) ∙ (ap (element (element_copied stack from (from - distance) c)) also ∙ one.others (from + suc k) (omega (arith, lt, le)) (λ same. omega (arith, same, e))))

    -- the whole stack

    abbrev pub elements : Cells → List Header
    elements c = element_values fields c size a

    at_index : (c : Cells) (k : ℕ) → k < size → get_or (elements c) k no_header ≡ element c k
    at_index c k lt = element_is fields c size a k lt

    pushed_at : (c : Cells) (count k : ℕ) → k < size → get_or (sem_calls.pushed count (elements c)) k no_header ≡ cond (nat_lt k (min count size)) (cleared false (header_value fields c a)) (element c (k - min count size))
    pushed_at c count k lt =
        let many : length (elements c) ≡ size = elements_count fields c size a in
        let front : List Header = map (cleared false) (take count (elements c)) in
        let wide : length front ≡ min count size = length-map (take count (elements c)) (cleared false) ∙ (length-take count (elements c) ∙ ap (min count) many) in
        get_or-take (length (elements c)) (front ++ elements c) k no_header (omega (arith, many, lt))
        ∙ by front wide (nat_lt k (min count size)) refl where
          by : (front : List Header) → length (map (cleared false) (take count (elements c))) ≡ min count size → (t : Bool) → nat_lt k (min count size) ≡ t → get_or (map (cleared false) (take count (elements c)) ++ elements c) k no_header ≡ cond t (cleared false (header_value fields c a)) (element c (k - min count size))
          by front wide true e =
              let f : k < min count size = ltb-true k (min count size) e in
              get_or_append_left (map (cleared false) (take count (elements c))) (elements c) no_header k (omega (arith, f, wide))
              ∙ (get_or-map (cleared false) (take count (elements c)) k no_header no_header (let two = length-map (take count (elements c)) (cleared false) in omega (arith, f, wide, two))
              ∙ (ap (cleared false) (get_or-take count (elements c) k no_header (omega (arith, f)) ∙ at_index c k lt)
              ∙ cleared_same fields c c (place_of k) a))
          by front wide false e =
              let f : min count size ≤ k = ltb-false k (min count size) e in
              get_or-append_right (map (cleared false) (take count (elements c))) (elements c) (min count size) k no_header wide f
              ∙ at_index c (k - min count size) (omega (arith, lt))

    pub pushed_is : (c : Cells) (count : ℕ) → IsFrameOf syntax c → stack.headers ≡ size → Kept c (pushed stack count c) × (elements (pushed stack count c) ≡ sem_calls.pushed count (elements c))
    pushed_is c count is headers_are = by (min count stack.headers) (ap (min count) headers_are) where
      by : (all : ℕ) → all ≡ min count size → Kept c (all_made made_invalid all stack.header (moved_up stack all (stack.headers - all) c)) × (elements (all_made made_invalid all stack.header (moved_up stack all (stack.headers - all) c)) ≡ sem_calls.pushed count (elements c))
      by all all_is =
          let le : all ≤ size = omega (arith, all_is) in
          let left : stack.headers - all + all ≡ size = omega (arith, headers_are, le) in
          let d : Cells = moved_up stack all (stack.headers - all) c in
          let e : Cells = all_made made_invalid all stack.header d in
          let first : Up c d all (stack.headers - all) = up all (stack.headers - all) c is (omega (arith, left)) in
          let here : stack.header ≡ a.header + 0 = header_is ∙ none a.header in
          let second : Offs d e 0 all = offs all 0 stack.header d (frame_kept c d is first.kept) here (omega (arith, le)) in (
            kept_on c d e first.kept second.kept,
            ext_get_or no_header (elements e) (sem_calls.pushed count (elements c))
                (elements_count fields e size a ∙ sym (long c count))
                (λ k lt. let within : k < size = (let m = elements_count fields e size a in omega (arith, m, lt)) in
                at_index e k within ∙ (one k within all all_is d e first second left (nat_lt k all) refl ∙ sym (pushed_at c count k within ∙ ap (λ (m : ℕ). cond (nat_lt k m) (cleared false (header_value fields c a)) (element c (k - m))) (sym all_is)))),
          ) where
            none : (h : ℕ) → h ≡ h + 0
            none h = omega arith

            long : (c : Cells) (count : ℕ) → length (sem_calls.pushed count (elements c)) ≡ size
            long c count =
                let many : length (elements c) ≡ size = elements_count fields c size a in
                let both = length-append (map (cleared false) (take count (elements c))) (elements c) in
                let cut = length-take (length (elements c)) (map (cleared false) (take count (elements c)) ++ elements c) in
                cut ∙ omega (arith, both, many)

            lower : (d : Cells) (k : ℕ) → element d k ≡ element d (0 + k)
            lower d k = let same : k ≡ 0 + k = omega arith in ap (element d) same

            one : (k : ℕ) → k < size → (all : ℕ) → all ≡ min count size → (d e : Cells) → Up c d all (stack.headers - all) → Offs d e 0 all → stack.headers - all + all ≡ size → (t : Bool) → nat_lt k all ≡ t → element e k ≡ cond (nat_lt k all) (cleared false (header_value fields c a)) (element c (k - all))
            one k lt all all_is d e first second left true is_low =
                let f : k < all = ltb-true k all is_low in
                second.these k lt (omega arith) (omega (arith, f)) ∙ (cleared_same fields d c a a ∙ ap (λ (t : Bool). cond t (cleared false (header_value fields c a)) (element c (k - all))) (sym is_low))
            one k lt all all_is d e first second left false is_low =
                let f : all ≤ k = ltb-false k all is_low in
                let back : k - all + all ≡ k = omega (arith, f) in
                second.after k lt (omega (arith, f))
                ∙ (ap (element d) (sym back) ∙ (first.these (k - all) (omega (arith, lt, left, f)) ∙ ap (λ (t : Bool). cond t (cleared false (header_value fields c a)) (element c (k - all))) (sym is_low)))

    popped_at : (c : Cells) (count k : ℕ) → k < size → get_or (sem_calls.popped count (elements c)) k no_header ≡ cond (nat_lt k (size - min count size)) (element c (min count size + k)) (cleared false (header_value fields c a))
    popped_at c count k lt = by (nat_lt k (size - min count size)) refl where
      many : length (elements c) ≡ size
      many = elements_count fields c size a

      front_long : length (drop count (elements c)) ≡ size - min count size
      front_long = let d = length-drop count (elements c) in omega (arith, d, many)

      back_long : length (take count (elements c)) ≡ min count size
      back_long = length-take count (elements c) ∙ ap (min count) many

      by : (t : Bool) → nat_lt k (size - min count size) ≡ t → get_or (sem_calls.popped count (elements c)) k no_header ≡ cond t (element c (min count size + k)) (cleared false (header_value fields c a))
      by true e =
          let f : k < size - min count size = ltb-true k (size - min count size) e in
          let same : count + k ≡ min count size + k = omega (arith, f) in
          get_or_append_left (drop count (elements c)) (map (cleared false) (take count (elements c))) no_header k (omega (arith, f, front_long))
          ∙ (get_or-drop count (elements c) k no_header ∙ (ap (λ (i : ℕ). get_or (elements c) i no_header) same ∙ at_index c (min count size + k) (omega (arith, f))))
      by false e =
          let f : size - min count size ≤ k = ltb-false k (size - min count size) e in
          let i : ℕ = k - (size - min count size) in
          let lt_i : k - (size - min count size) < min count size = omega (arith, f, lt) in
          get_or-append_right (drop count (elements c)) (map (cleared false) (take count (elements c))) (size - min count size) k no_header front_long f
          ∙ (get_or-map (cleared false) (take count (elements c)) (k - (size - min count size)) no_header no_header (omega (arith, lt_i, back_long))
          ∙ (ap (cleared false) (get_or-take count (elements c) (k - (size - min count size)) no_header (omega (arith, lt_i)) ∙ at_index c (k - (size - min count size)) (omega (arith, lt)))
          ∙ cleared_same fields c c (place_of (k - (size - min count size))) a))

    pub popped_is : (c : Cells) (count : ℕ) → IsFrameOf syntax c → stack.headers ≡ size → Kept c (popped stack count c) × (elements (popped stack count c) ≡ sem_calls.popped count (elements c))
    popped_is c count is headers_are = by (min count stack.headers) (ap (min count) headers_are) where
      by : (all : ℕ) → all ≡ min count size → Kept c (all_made made_invalid all (stack.header + (stack.headers - all)) (moved_down stack all all (stack.headers - all) c)) × (elements (all_made made_invalid all (stack.header + (stack.headers - all)) (moved_down stack all all (stack.headers - all) c)) ≡ sem_calls.popped count (elements c))
      by all all_is =
          let le : all ≤ size = omega (arith, all_is) in
          let left : all + (stack.headers - all) ≡ size = omega (arith, headers_are, le) in
          let d : Cells = moved_down stack all all (stack.headers - all) c in
          let e : Cells = all_made made_invalid all (stack.header + (stack.headers - all)) d in
          let first : Down c d all 0 (stack.headers - all) = down all (stack.headers - all) all 0 c is (omega arith) (omega (arith, left)) in
          let here : stack.header + (stack.headers - all) ≡ a.header + (stack.headers - all) = ap (λ (h : ℕ). h + (stack.headers - all)) header_is in
          let second : Offs d e (stack.headers - all) all = offs all (stack.headers - all) (stack.header + (stack.headers - all)) d (frame_kept c d is first.kept) here (omega (arith, left)) in (
            kept_on c d e first.kept second.kept,
            ext_get_or no_header (elements e) (sem_calls.popped count (elements c))
                (elements_count fields e size a ∙ sym (long c count))
                (λ k lt. let within : k < size = (let m = elements_count fields e size a in omega (arith, m, lt)) in
                at_index e k within ∙ (one k within all all_is d e first second left (nat_lt k (size - all)) refl ∙ sym (popped_at c count k within ∙ ap (λ (m : ℕ). cond (nat_lt k (size - m)) (element c (m + k)) (cleared false (header_value fields c a))) (sym all_is)))),
          ) where
            long : (c : Cells) (count : ℕ) → length (sem_calls.popped count (elements c)) ≡ size
            long c count =
                let many : length (elements c) ≡ size = elements_count fields c size a in
                let both = length-append (drop count (elements c)) (map (cleared false) (take count (elements c))) in
                let first = length-drop count (elements c) in
                let second = length-map (take count (elements c)) (cleared false) in
                let third = length-take count (elements c) in
                both ∙ omega (arith, many, first, second, third)

            lower : (d : Cells) (k : ℕ) → element d k ≡ element d (0 + k)
            lower d k = let same : k ≡ 0 + k = omega arith in ap (element d) same

            one : (k : ℕ) → k < size → (all : ℕ) → all ≡ min count size → (d e : Cells) → Down c d all 0 (stack.headers - all) → Offs d e (stack.headers - all) all → all + (stack.headers - all) ≡ size → (t : Bool) → nat_lt k (size - all) ≡ t → element e k ≡ cond (nat_lt k (size - all)) (element c (all + k)) (cleared false (header_value fields c a))
            one k lt all all_is d e first second left true is_low =
                let f : k < size - all = ltb-true k (size - all) is_low in
                second.before k lt (omega (arith, f, left)) ∙ (lower d k ∙ (first.these k (omega (arith, f, left)) ∙ ap (λ (t : Bool). cond t (element c (all + k)) (cleared false (header_value fields c a))) (sym is_low)))
            one k lt all all_is d e first second left false is_low =
                let f : size - all ≤ k = ltb-false k (size - all) is_low in
                second.these k lt (omega (arith, f, left)) (omega (arith, lt, left)) ∙ (cleared_same fields d c a a ∙ ap (λ (t : Bool). cond t (element c (all + k)) (cleared false (header_value fields c a))) (sym is_low))
