-- Values of one form are one where their parts read alike, wherever they stand.
use Rattle.std.proofs.Common.{◌≡◌, ℕ, zero, suc, ◌+◌, ◌*◌, ◌<◌, ◌≤◌, Bool, List, [], ◌∷◌, length, refl, ap, ◌∙◌, arith}
use Rattle.p416_syntax.specs.Scopes.{Layout, FieldKind, fields_in}
use Rattle.p416_syntax.specs.Totals.{bits_in}
use Rattle.v1_core.specs.Values.{Field, Header, Value, a_header, a_stack, a_member}
use Rattle.v1_core.specs.Cells.{Cells, slot_value, header_valid, stack_place}
use Rattle.v1_core.specs.Seats.{Form, slot_form, header_form, stack_form, struct_form, no_form, form_of, Start, moved, behind_members, behind}
use Rattle.v1_core.specs.PackedValues.{content_value, field_values, header_value, element_values, member_values, value_from}
use Rattle.v1_core.proofs.Starts.{Before, at_once, members_before, ends_behind}

-- y stands from b on as x stands from a on
pub record Offset (a b x y : Start) : Type 0 where
  pub slot : a.slot + y.slot ≡ b.slot + x.slot
  pub header : a.header + y.header ≡ b.header + x.header
  pub stack : a.stack + y.stack ≡ b.stack + x.stack

pub offset_moved : (a b : Start) (s h k : ℕ) → Offset a b (moved a s h k) (moved b s h k)
offset_moved a b s h k = record { slot = omega arith; header = omega arith; stack = omega arith }

pub offset_both : (a b x y v w : Start) → Offset a b x y → Offset x y v w → Offset a b v w
offset_both a b x y v w p q = record {
  slot = omega (arith, p.slot, q.slot);
  header = omega (arith, p.header, q.header);
  stack = omega (arith, p.stack, q.stack);
}

members_offset : (next : Form → Start → Start) → ((k : Form) (a b : Start) → Offset a b (next k a) (next k b)) → (fields : List FieldKind) (a b : Start) → Offset a b (behind_members next fields a) (behind_members next fields b)
members_offset next each [] a b = record { slot = omega arith; header = omega arith; stack = omega arith }
members_offset next each (f ∷ fields) a b =
    let k = form_of f.kind in
    offset_both a b (next k a) (next k b) (behind_members next fields (next k a)) (behind_members next fields (next k b)) (each k a b)
    (members_offset next each fields (next k a) (next k b))

-- values of one form reach equally far
pub behind_offset : (types : List Layout) (n : ℕ) (k : Form) (a b : Start) → Offset a b (behind types n k a) (behind types n k b)
behind_offset types n (slot_form of) a b = offset_moved a b 1 0 0
behind_offset types n (header_form type) a b = offset_moved a b (length (fields_in types type)) 1 0
behind_offset types n (stack_form type size) a b = offset_moved a b (size * length (fields_in types type)) size 1
behind_offset types zero (struct_form type) a b = record { slot = omega arith; header = omega arith; stack = omega arith }
behind_offset types (suc n) (struct_form type) a b =
    members_offset (λ k s. behind types n k s) (λ k x y. behind_offset types n k x y) (fields_in types type) a b
behind_offset types n no_form a b = record { slot = omega arith; header = omega arith; stack = omega arith }

-- what is read from a up to e is what is read, in another frame, from b on
pub record Shifted (c d : Cells) (a e b : Start) : Type 0 where
  pub slots : (i j : ℕ) → a.slot ≤ i → i < e.slot → a.slot + j ≡ b.slot + i → slot_value c i ≡ slot_value d j
  pub headers : (i j : ℕ) → a.header ≤ i → i < e.header → a.header + j ≡ b.header + i → header_valid c i ≡ header_valid d j
  pub stacks : (i j : ℕ) → a.stack ≤ i → i < e.stack → a.stack + j ≡ b.stack + i → stack_place c i ≡ stack_place d j

pub shift_narrow : (c d : Cells) (a e b x f y : Start) → Before a x → Before f e → Offset a b x y → Shifted c d a e b → Shifted c d x f y
shift_narrow c d a e b x f y p q o same = record {
  slots = λ i j le lt is. same.slots i j (omega (arith, p.slot)) (omega (arith, q.slot)) (omega (arith, o.slot));
  headers = λ i j le lt is. same.headers i j (omega (arith, p.header)) (omega (arith, q.header)) (omega (arith, o.header));
  stacks = λ i j le lt is. same.stacks i j (omega (arith, p.stack)) (omega (arith, q.stack)) (omega (arith, o.stack));
}

pub fields_alike : (fields : List FieldKind) (c d : Cells) (a b : Start) → ((i j : ℕ) → a.slot ≤ i → i < a.slot + length fields → a.slot + j ≡ b.slot + i → slot_value c i ≡ slot_value d j) → field_values fields c a ≡ field_values fields d b
fields_alike [] c d a b same = refl
fields_alike (f ∷ fields) c d a b same =
    ap (λ (n : ℕ). record { called = f.called; width = bits_in f.kind; number = n } ∷ field_values fields c (moved a 1 0 0))
    (same a.slot b.slot (omega arith) (omega arith) (omega arith))
    ∙ ap (λ (l : List Field). record { called = f.called; width = bits_in f.kind; number = slot_value d b.slot } ∷ l)
    (fields_alike fields c d (moved a 1 0 0) (moved b 1 0 0) (λ i j le lt is. same i j (omega arith) (omega arith) (omega arith)))

pub header_alike : (fields : List FieldKind) (c d : Cells) (a b : Start) → Shifted c d a (moved a (length fields) 1 0) b → header_value fields c a ≡ header_value fields d b
header_alike fields c d a b same =
    ap (λ (v : Bool). record { valid = v; fields = field_values fields c a }) (same.headers a.header b.header (omega arith) (omega arith) (omega arith))
    ∙ ap (λ (l : List Field). record { valid = header_valid d b.header; fields = l }) (fields_alike fields c d a b (λ i j le lt is. same.slots i j le lt is))

pub elements_alike : (fields : List FieldKind) (c d : Cells) (count : ℕ) (a b : Start) → Shifted c d a (moved a (count * length fields) count 0) b → element_values fields c count a ≡ element_values fields d count b
elements_alike fields c d zero a b same = refl
elements_alike fields c d (suc count) a b same =
    let size = length fields in
    let x = moved a size 1 0 in
    let y = moved b size 1 0 in
    let more : (suc count) * size ≡ size + count * size = omega arith in
    let e : Start = moved a ((suc count) * size) (suc count) 0 in
    let f : Start = moved x (count * size) count 0 in
    let first : Before x e = record { slot = omega arith; header = omega arith; stack = omega arith } in
    let next : Before a x = record { slot = omega arith; header = omega arith; stack = omega arith } in
    let last : Before f e = record { slot = omega arith; header = omega arith; stack = omega arith } in
    let none : Offset a b a b = record { slot = omega arith; header = omega arith; stack = omega arith } in
    ap (λ (h : Header). h ∷ element_values fields c count x) (header_alike fields c d a b (shift_narrow c d a e b a x b (at_once a) first none same))
    ∙ ap (λ (l : List Header). header_value fields d b ∷ l) (elements_alike fields c d count x y (shift_narrow c d a e b x f y next last (offset_moved a b size 1 0) same))

members_alike : (c d : Cells) (vc vd : Form → Start → Value) (next : Form → Start → Start) → ((k : Form) (b : Start) → Before b (next k b)) → ((k : Form) (a b : Start) → Offset a b (next k a) (next k b)) → ((k : Form) (a b : Start) → Shifted c d a (next k a) b → vc k a ≡ vd k b) → (fields : List FieldKind) (a b : Start) → Shifted c d a (behind_members next fields a) b → member_values vc next fields a ≡ member_values vd next fields b
members_alike c d vc vd next grows off each [] a b same = refl
members_alike c d vc vd next grows off each (f ∷ fields) a b same =
    let k = form_of f.kind in
    let x = next k a in
    let y = next k b in
    let e = behind_members next fields x in
    let none : Offset a b a b = record { slot = omega arith; header = omega arith; stack = omega arith } in
    ap (λ (v : Value). a_member f.called v (member_values vc next fields x))
    (each k a b (shift_narrow c d a e b a x b (at_once a) (members_before next grows fields x) none same))
    ∙ ap (λ (v : Value). a_member f.called (vd k b) v)
    (members_alike c d vc vd next grows off each fields x y (shift_narrow c d a e b x e y (grows k a) (at_once e) (off k a b) same))

pub value_alike : (types : List Layout) (c d : Cells) (n : ℕ) (k : Form) (a b : Start) → Shifted c d a (behind types n k a) b → value_from types c n k a ≡ value_from types d n k b
value_alike types c d n (slot_form of) a b same = ap (λ (m : ℕ). content_value of m) (same.slots a.slot b.slot (omega arith) (omega arith) (omega arith))
value_alike types c d n (header_form type) a b same = ap (λ (h : Header). a_header h) (header_alike (fields_in types type) c d a b same)
value_alike types c d n (stack_form type size) a b same =
    let fields = fields_in types type in
    let f : Start = moved a (size * length fields) size 0 in
    let e : Start = moved a (size * length fields) size 1 in
    let ends : Before f e = record { slot = omega arith; header = omega arith; stack = omega arith } in
    let none : Offset a b a b = record { slot = omega arith; header = omega arith; stack = omega arith } in
    ap (λ (p : ℕ). a_stack p (element_values fields c size a)) (same.stacks a.stack b.stack (omega arith) (omega arith) (omega arith))
    ∙ ap (λ (l : List Header). a_stack (stack_place d b.stack) l) (elements_alike fields c d size a b (shift_narrow c d a e b a f b (at_once a) ends none same))
value_alike types c d zero (struct_form type) a b same = refl
value_alike types c d (suc n) (struct_form type) a b same =
    members_alike c d (λ k s. value_from types c n k s) (λ k s. value_from types d n k s) (λ k s. behind types n k s)
    (λ k s. ends_behind types n k s) (λ k x y. behind_offset types n k x y) (λ k x y h. value_alike types c d n k x y h) (fields_in types type) a b same
value_alike types c d n no_form a b same = refl
