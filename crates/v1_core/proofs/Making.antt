-- The layout of values one after another has their parts where they stand.
use Rattle.std.proofs.Common.{◌≡◌, ◌⊎◌, inl, inr, ℕ, zero, suc, ◌+◌, ◌-◌, ◌*◌, ◌<◌, ◌≤◌, Option, Some, None, List, [], ◌∷◌, ◌++◌, length, map, replicate, get_or, refl, sym, ap, ◌∙◌, subst, arith, length-append, append_assoc, append-nil}
use Rattle.std.proofs.lemmas.List.{get_or_append_left, get_or-append_right, get_or_past, get_or-replicate, length-replicate, length-map}
use Rattle.std.proofs.Math.Seq.{get_or-append_seam}
use Rattle.p416_syntax.specs.Kinds.{Kind}
use Rattle.p416_syntax.specs.Scopes.{Layout as TypeLayout, FieldKind, fields_in}
use Rattle.v1_core.specs.declared.layout.HeaderSlots.{HeaderSlots}
use Rattle.v1_core.specs.Layouts.{Layout, no_slots, no_parts, with_lone_slot, slots_of_header, with_header_part, with_stack_part}
use Rattle.v1_core.specs.Seats.{Form, slot_form, header_form, stack_form, struct_form, no_form, form_of, Start, moved, behind_members, behind}
use Rattle.v1_core.specs.Laid.{IsSlot, AreFields, IsHeader, AreElements, AreMembers, IsLaid, OwnersAgree}
use Rattle.v1_core.specs.Programs.{slot_width, field_width, with_elements, with_members, with_value, with_values, behind_kinds, AreLaid}

-- where the next value begins
abbrev pub end_of : Layout → Start
end_of l = record { slot = length l.widths; header = length l.headers; stack = length l.sizes }

-- one layout has the parts of another at the front
pub record Extends (l m : Layout) : Type 0 where
  pub more : Layout
  pub widths : m.widths ≡ l.widths ++ more.widths
  pub owners : m.owners ≡ l.owners ++ more.owners
  pub headers : m.headers ≡ l.headers ++ more.headers
  pub sizes : m.sizes ≡ l.sizes ++ more.sizes

pub extends_itself : (l : Layout) → Extends l l
extends_itself l = record {
  more = no_parts;
  widths = sym (append-nil l.widths);
  owners = sym (append-nil l.owners);
  headers = sym (append-nil l.headers);
  sizes = sym (append-nil l.sizes);
}

pub extends_both : (l m o : Layout) → Extends l m → Extends m o → Extends l o
extends_both l m o x y = record {
  more = record {
    widths = x.more.widths ++ y.more.widths;
    owners = x.more.owners ++ y.more.owners;
    headers = x.more.headers ++ y.more.headers;
    sizes = x.more.sizes ++ y.more.sizes;
  };
  widths = y.widths ∙ ap (λ (r : List ℕ). r ++ y.more.widths) x.widths ∙ append_assoc l.widths x.more.widths y.more.widths;
  owners = y.owners ∙ ap (λ (r : List (Option ℕ)). r ++ y.more.owners) x.owners ∙ append_assoc l.owners x.more.owners y.more.owners;
  headers = y.headers ∙ ap (λ (r : List HeaderSlots). r ++ y.more.headers) x.headers ∙ append_assoc l.headers x.more.headers y.more.headers;
  sizes = y.sizes ∙ ap (λ (r : List ℕ). r ++ y.more.sizes) x.sizes ∙ append_assoc l.sizes x.more.sizes y.more.sizes;
}

-- what is laid stays where it is

abbrev pub IsEven : Layout → Type 0
IsEven l = length l.owners ≡ length l.widths

slot_stays : (l m : Layout) (slot : ℕ) (owner : Option ℕ) → IsEven l → Extends l m → IsSlot l slot owner → IsSlot m slot owner
slot_stays l m slot owner even x laid = record {
  within = omega (arith, laid.within, ap length x.widths, length-append l.widths x.more.widths);
  owned = ap (λ (r : List (Option ℕ)). get_or r slot None) x.owners ∙ get_or_append_left l.owners x.more.owners None slot (omega (arith, laid.within)) ∙ laid.owned;
}

fields_stay : (l m : Layout) (header count : ℕ) (b : Start) → IsEven l → Extends l m → AreFields l header count b → AreFields m header count b
fields_stay l m header zero b even x laid = tt
fields_stay l m header (suc count) b even x laid =
    (slot_stays l m b.slot (Some header) even x laid.0, fields_stay l m header count (moved b 1 0 0) even x laid.1)

header_stays : (l m : Layout) (fields : ℕ) (b : Start) → IsEven l → Extends l m → IsHeader l fields b → IsHeader m fields b
header_stays l m fields b even x laid = record {
  within = omega (arith, laid.within, ap length x.headers, length-append l.headers x.more.headers);
  room = omega (arith, laid.room, ap length x.widths, length-append l.widths x.more.widths);
  slots = ap (λ (r : List HeaderSlots). get_or r b.header no_slots) x.headers ∙ get_or_append_left l.headers x.more.headers no_slots b.header laid.within ∙ laid.slots;
  each = fields_stay l m b.header fields b even x laid.each;
}

elements_stay : (l m : Layout) (fields count : ℕ) (b : Start) → IsEven l → Extends l m → AreElements l fields count b → AreElements m fields count b
elements_stay l m fields zero b even x laid = tt
elements_stay l m fields (suc count) b even x laid =
    (header_stays l m fields b even x laid.0, elements_stay l m fields count (moved b fields 1 0) even x laid.1)

members_stay : (P Q : Form → Start → Type 0) (next : Form → Start → Start) → ((k : Form) (b : Start) → P k b → Q k b) → (fields : List FieldKind) (b : Start) → AreMembers P next fields b → AreMembers Q next fields b
members_stay P Q next each [] b laid = tt
members_stay P Q next each (f ∷ fields) b laid =
    (each (form_of f.kind) b laid.0, members_stay P Q next each fields (next (form_of f.kind) b) laid.1)

pub laid_stays : (l m : Layout) (types : List TypeLayout) (n : ℕ) (k : Form) (b : Start) → IsEven l → Extends l m → IsLaid l types n k b → IsLaid m types n k b
laid_stays l m types n (slot_form of) b even x laid = slot_stays l m b.slot None even x laid
laid_stays l m types n (header_form type) b even x laid = header_stays l m (length (fields_in types type)) b even x laid
laid_stays l m types n (stack_form type size) b even x laid =
    (omega (arith, laid.0, ap length x.sizes, length-append l.sizes x.more.sizes), elements_stay l m (length (fields_in types type)) size b even x laid.1)
laid_stays l m types zero (struct_form type) b even x laid = tt
laid_stays l m types (suc n) (struct_form type) b even x laid =
    members_stay (λ k s. IsLaid l types n k s) (λ k s. IsLaid m types n k s) (λ k s. behind types n k s)
    (λ k s h. laid_stays l m types n k s even x h) (fields_in types type) b laid
laid_stays l m types n no_form b even x laid = tt

-- a layout that was made: as many owners as slots, and owners agree
pub record IsMade (l : Layout) : Type 0 where
  pub even : IsEven l
  pub agree : OwnersAgree l

-- and one that has more
pub record Grows (l m : Layout) (end : Start) (Laid : Layout → Type 0) : Type 0 where
  pub made : IsMade m
  pub extends : Extends l m
  pub ends : end_of m ≡ end
  pub laid : Laid m

in_range : (hs : List HeaderSlots) (header slot : ℕ) → slot < (get_or hs header no_slots).to → header < length hs
in_range [] header slot lt =
    let none : slot < 0 = subst (λ (s : HeaderSlots). slot < s.to) (get_or_past [] header no_slots (omega arith)) lt in
    absurd (omega arith)
in_range (h ∷ hs) zero slot lt = omega arith
in_range (h ∷ hs) (suc i) slot lt = omega (arith, in_range hs i slot lt)

below_or : (a n : ℕ) → (a < n) ⊎ (n ≤ a)
below_or a zero = inr (omega arith)
below_or zero (suc n) = inl (omega arith)
below_or (suc a) (suc n) = up (below_or a n) where
  up : (a < n) ⊎ (n ≤ a) → (suc a < suc n) ⊎ (suc n ≤ suc a)
  up (inl lt) = inl (omega arith)
  up (inr le) = inr (omega arith)

pub same_start : (a b : Start) → a.slot ≡ b.slot → a.header ≡ b.header → a.stack ≡ b.stack → a ≡ b
same_start a b s h k =
    ap (λ (x : ℕ). record { slot = x; header = a.header; stack = a.stack }) s
    ∙ ap (λ (x : ℕ). record { slot = b.slot; header = x; stack = a.stack }) h
    ∙ ap (λ (x : ℕ). record { slot = b.slot; header = b.header; stack = x }) k

abbrev Agrees : Layout → ℕ → ℕ → Type 0
Agrees m slot header = ((get_or m.headers header no_slots).from ≤ slot) × (slot < (get_or m.headers header no_slots).to)

-- an owner that was there agrees still
agrees_still : (l m : Layout) (slot header : ℕ) → IsMade l → Extends l m → slot < length l.owners → get_or m.owners slot None ≡ Some header → Agrees m slot header
agrees_still l m slot header made x lt own =
    let old : get_or l.owners slot None ≡ Some header =
    sym (ap (λ (r : List (Option ℕ)). get_or r slot None) x.owners ∙ get_or_append_left l.owners x.more.owners None slot lt) ∙ own in
    let within : Agrees l slot header = made.agree slot header old in
    let same : get_or m.headers header no_slots ≡ get_or l.headers header no_slots =
    ap (λ (r : List HeaderSlots). get_or r header no_slots) x.headers
    ∙ get_or_append_left l.headers x.more.headers no_slots header (in_range l.headers header slot within.1) in
    subst (λ (s : HeaderSlots). (s.from ≤ slot) × (slot < s.to)) (sym same) within

-- one slot more

none_at : (j : ℕ) → get_or {A = Option ℕ} (None ∷ []) j None ≡ None
none_at zero = refl
none_at (suc j) = get_or_past [] j None (omega arith)

extends_slot : (l : Layout) (width : ℕ) → Extends l (with_lone_slot l width)
extends_slot l width = record {
  more = record { widths = width ∷ []; owners = None ∷ []; headers = []; sizes = [] };
  widths = refl;
  owners = refl;
  headers = sym (append-nil l.headers);
  sizes = sym (append-nil l.sizes);
}

slot_grows : (l : Layout) (width : ℕ) → IsMade l → Grows l (with_lone_slot l width) (moved (end_of l) 1 0 0) (λ m. IsSlot m (length l.widths) None)
slot_grows l width made = record {
  made = record {
    even = omega (arith, made.even, length-append l.owners (None ∷ []), length-append l.widths (width ∷ []));
    agree = λ slot header own. by slot header own (below_or slot (length l.owners));
  };
  extends = extends_slot l width;
  ends = same_start (end_of (with_lone_slot l width)) (moved (end_of l) 1 0 0) (length-append l.widths (width ∷ [])) (omega arith) (omega arith);
  laid = record {
    within = omega (arith, length-append l.widths (width ∷ []));
    owned = get_or-append_right l.owners (None ∷ []) (length l.widths) (length l.widths) None made.even (omega arith) ∙ none_at (length l.widths - length l.widths);
  };
} where
  by : (slot header : ℕ) → get_or (l.owners ++ None ∷ []) slot None ≡ Some header → (slot < length l.owners) ⊎ (length l.owners ≤ slot) → Agrees (with_lone_slot l width) slot header
  by slot header own (inl lt) = agrees_still l (with_lone_slot l width) slot header made (extends_slot l width) lt own
  by slot header own (inr le) =
      let none : get_or (l.owners ++ None ∷ []) slot None ≡ None =
      get_or-append_right l.owners (None ∷ []) (length l.owners) slot None refl le ∙ none_at (slot - length l.owners) in
      let clash : None ≡ Some header = sym none ∙ own in
      absurd (cc clash)

-- one header more

fields_there : (m : Layout) (header count : ℕ) (b : Start) → ((i : ℕ) → b.slot ≤ i → i < b.slot + count → IsSlot m i (Some header)) → AreFields m header count b
fields_there m header zero b each = tt
fields_there m header (suc count) b each =
    (each b.slot (omega arith) (omega arith), fields_there m header count (moved b 1 0 0) (λ i le lt. each i (omega arith) (omega arith)))

-- what is read of so many equal owners
own_at : (count header other j : ℕ) → get_or (replicate count (Some header)) j None ≡ Some other → (other ≡ header) × (j < count)
own_at zero header other j e =
    let none : get_or {A = Option ℕ} [] j None ≡ None = get_or_past [] j None (omega arith) in
    let clash : None ≡ Some other = sym none ∙ e in
    absurd (cc clash)
own_at (suc count) header other zero e = (cc e, omega arith)
own_at (suc count) header other (suc j) e =
    let rest : (other ≡ header) × (j < count) = own_at count header other j e in (rest.0, omega (arith, rest.1))

extends_header : (l : Layout) (widths : List ℕ) → Extends l (with_header_part l widths)
extends_header l widths = record {
  more = record { widths = widths; owners = replicate (length widths) (Some (length l.headers)); headers = slots_of_header l widths ∷ []; sizes = [] };
  widths = refl;
  owners = refl;
  headers = refl;
  sizes = sym (append-nil l.sizes);
}

header_grows : (l : Layout) (widths : List ℕ) → IsMade l → Grows l (with_header_part l widths) (moved (end_of l) (length widths) 1 0) (λ m. IsHeader m (length widths) (end_of l))
header_grows l widths made = record {
  made = record {
    even = omega (arith, made.even, length-append l.owners owners, length-append l.widths widths, many);
    agree = λ slot header own. by slot header own (below_or slot (length l.owners));
  };
  extends = extends_header l widths;
  ends = same_start (end_of m) (moved (end_of l) (length widths) 1 0) (length-append l.widths widths) (length-append l.headers (slots_of_header l widths ∷ [])) (omega arith);
  laid = record {
    within = omega (arith, length-append l.headers (slots_of_header l widths ∷ []));
    room = omega (arith, length-append l.widths widths);
    slots = seam;
    each = fields_there m (length l.headers) (length widths) (end_of l) (λ i le lt. record {
      within = omega (arith, length-append l.widths widths);
      owned = get_or-append_right l.owners owners (length l.widths) i None made.even le
          ∙ get_or-replicate (length widths) (i - length l.widths) (Some (length l.headers)) None (omega arith);
    });
  };
} where
  m : Layout
  m = with_header_part l widths

  owners : List (Option ℕ)
  owners = replicate (length widths) (Some (length l.headers))

  many : length owners ≡ length widths
  many = length-replicate (length widths) (Some (length l.headers))

  seam : get_or (l.headers ++ slots_of_header l widths ∷ []) (length l.headers) no_slots ≡ slots_of_header l widths
  seam = get_or-append_seam l.headers (slots_of_header l widths) [] no_slots

  by : (slot header : ℕ) → get_or (l.owners ++ owners) slot None ≡ Some header → (slot < length l.owners) ⊎ (length l.owners ≤ slot) → Agrees m slot header
  by slot header own (inl lt) = agrees_still l m slot header made (extends_header l widths) lt own
  by slot header own (inr le) =
      let new : (header ≡ length l.headers) × (slot - length l.owners < length widths) =
      own_at (length widths) (length l.headers) header (slot - length l.owners) (sym (get_or-append_right l.owners owners (length l.owners) slot None refl le) ∙ own) in
      let is : get_or m.headers header no_slots ≡ slots_of_header l widths =
      ap (λ (h : ℕ). get_or m.headers h no_slots) new.0 ∙ seam in
      subst (λ (s : HeaderSlots). (s.from ≤ slot) × (slot < s.to)) (sym is) (omega (arith, made.even), omega (arith, made.even, new.1))

-- elements
elements_grow : (widths : List ℕ) (count : ℕ) (l : Layout) → IsMade l → Grows l (with_elements widths count l) (moved (end_of l) (count * length widths) count 0) (λ m. AreElements m (length widths) count (end_of l))
elements_grow widths zero l made = record {
  made = made;
  extends = extends_itself l;
  ends = same_start (end_of l) (moved (end_of l) (zero * length widths) zero 0) (omega arith) (omega arith) (omega arith);
  laid = tt;
}
elements_grow widths (suc count) l made =
    let m = with_header_part l widths in
    let g : Grows l m (moved (end_of l) (length widths) 1 0) (λ m. IsHeader m (length widths) (end_of l)) = header_grows l widths made in
    let h : Grows m (with_elements widths count m) (moved (end_of m) (count * length widths) count 0) (λ o. AreElements o (length widths) count (end_of m)) = elements_grow widths count m g.made in
    let o = with_elements widths count m in
    let more : (suc count) * length widths ≡ length widths + count * length widths = omega arith in
    let there : moved (moved (end_of l) (length widths) 1 0) (count * length widths) count 0 ≡ moved (end_of l) ((suc count) * length widths) (suc count) 0 =
    same_start (moved (moved (end_of l) (length widths) 1 0) (count * length widths) count 0) (moved (end_of l) ((suc count) * length widths) (suc count) 0) (omega arith) (omega arith) (omega arith) in
    record {
      made = h.made;
      extends = extends_both l m o g.extends h.extends;
      ends = h.ends ∙ ap (λ (s : Start). moved s (count * length widths) count 0) g.ends ∙ there;
      laid = (header_stays m o (length widths) (end_of l) g.made.even h.extends g.laid, subst (λ (s : Start). AreElements o (length widths) count s) g.ends h.laid);
    }

-- members
members_grow : (types : List TypeLayout) (n : ℕ) → ((k : Form) (l : Layout) → IsMade l → Grows l (with_value types n k l) (behind types n k (end_of l)) (λ m. IsLaid m types n k (end_of l))) → (fields : List FieldKind) (l : Layout) → IsMade l → Grows l (with_members (λ k m. with_value types n k m) fields l) (behind_members (λ k s. behind types n k s) fields (end_of l)) (λ m. AreMembers (λ k s. IsLaid m types n k s) (λ k s. behind types n k s) fields (end_of l))
members_grow types n each [] l made = record { made = made; extends = extends_itself l; ends = refl; laid = tt }
members_grow types n each (f ∷ fields) l made =
    let k = form_of f.kind in
    let next : Form → Start → Start = λ k s. behind types n k s in
    let m = with_value types n k l in
    let o = with_members (λ k m. with_value types n k m) fields m in
    let g : Grows l m (behind types n k (end_of l)) (λ m. IsLaid m types n k (end_of l)) = each k l made in
    let h : Grows m o (behind_members next fields (end_of m)) (λ o. AreMembers (λ k s. IsLaid o types n k s) next fields (end_of m)) = members_grow types n each fields m g.made in
    record {
      made = h.made;
      extends = extends_both l m o g.extends h.extends;
      ends = h.ends ∙ ap (λ (s : Start). behind_members next fields s) g.ends;
      laid = (laid_stays m o types n k (end_of l) g.made.even h.extends g.laid, subst (λ (s : Start). AreMembers (λ k s. IsLaid o types n k s) next fields s) g.ends h.laid);
    }

-- the parts of a value
pub value_grows : (types : List TypeLayout) (n : ℕ) (k : Form) (l : Layout) → IsMade l → Grows l (with_value types n k l) (behind types n k (end_of l)) (λ m. IsLaid m types n k (end_of l))
value_grows types n (slot_form of) l made = slot_grows l (slot_width of) made
value_grows types n (header_form type) l made =
    let fields = fields_in types type in
    subst (λ (count : ℕ). Grows l (with_header_part l (map field_width fields)) (moved (end_of l) count 1 0) (λ m. IsHeader m count (end_of l)))
    (length-map fields field_width) (header_grows l (map field_width fields) made)
value_grows types n (stack_form type size) l made =
    let fields = fields_in types type in
    let m = with_elements (map field_width fields) size l in
    let o = with_stack_part m size in
    let g : Grows l m (moved (end_of l) (size * length fields) size 0) (λ m. AreElements m (length fields) size (end_of l)) =
    subst (λ (count : ℕ). Grows l m (moved (end_of l) (size * count) size 0) (λ m. AreElements m count size (end_of l)))
    (length-map fields field_width) (elements_grow (map field_width fields) size l made) in
    let x : Extends m o = record {
      more = record { widths = []; owners = []; headers = []; sizes = size ∷ [] };
      widths = sym (append-nil m.widths);
      owners = sym (append-nil m.owners);
      headers = sym (append-nil m.headers);
      sizes = refl;
    } in
    let end : Start = moved (end_of l) (size * length fields) size 0 in
    record {
      made = record { even = g.made.even; agree = g.made.agree };
      extends = extends_both l m o g.extends x;
      ends = same_start (end_of o) (moved (end_of l) (size * length fields) size 1)
          (ap (λ (s : Start). s.slot) g.ends) (ap (λ (s : Start). s.header) g.ends)
          (omega (arith, length-append m.sizes (size ∷ []), ap (λ (s : Start). s.stack) g.ends));
      laid = (omega (arith, length-append m.sizes (size ∷ []), ap (λ (s : Start). s.stack) g.ends), elements_stay m o (length fields) size (end_of l) g.made.even x g.laid);
    }
value_grows types zero (struct_form type) l made = record { made = made; extends = extends_itself l; ends = refl; laid = tt }
value_grows types (suc n) (struct_form type) l made = members_grow types n (λ k l made. value_grows types n k l made) (fields_in types type) l made
value_grows types n no_form l made = record { made = made; extends = extends_itself l; ends = refl; laid = tt }

-- of values one after another
pub values_grow : (types : List TypeLayout) (kinds : List Kind) (l : Layout) → IsMade l → Grows l (with_values types kinds l) (behind_kinds types kinds (end_of l)) (λ m. AreLaid m types kinds (end_of l))
values_grow types [] l made = record { made = made; extends = extends_itself l; ends = refl; laid = tt }
values_grow types (kind ∷ kinds) l made =
    let n = length types in
    let k = form_of kind in
    let m = with_value types n k l in
    let o = with_values types kinds m in
    let g : Grows l m (behind types n k (end_of l)) (λ m. IsLaid m types n k (end_of l)) = value_grows types n k l made in
    let h : Grows m o (behind_kinds types kinds (end_of m)) (λ o. AreLaid o types kinds (end_of m)) = values_grow types kinds m g.made in
    record {
      made = h.made;
      extends = extends_both l m o g.extends h.extends;
      ends = h.ends ∙ ap (λ (s : Start). behind_kinds types kinds s) g.ends;
      laid = (laid_stays m o types n k (end_of l) g.made.even h.extends g.laid, subst (λ (s : Start). AreLaid o types kinds s) g.ends h.laid);
    }

-- nothing is made already
pub none_made : IsMade no_parts
none_made = record {
  even = refl;
  agree = λ slot header own.
      let none : get_or {A = Option ℕ} [] slot None ≡ None = get_or_past [] slot None (omega arith) in
      let clash : None ≡ Some header = sym none ∙ own in
      absurd (cc clash);
}
