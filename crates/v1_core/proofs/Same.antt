-- A value is made up by its own parts alone.
use Rattle.std.proofs.Common.{◌≡◌, ℕ, zero, suc, ◌+◌, ◌*◌, ◌<◌, ◌≤◌, Bool, List, [], ◌∷◌, length, refl, ap, ◌∙◌, arith}
use Rattle.p416_syntax.specs.Scopes.{Layout, FieldKind, fields_in}
use Rattle.p416_syntax.specs.Totals.{bits_in}
use Rattle.v1_core.specs.Values.{Field, Header, Value, a_header, a_stack, a_member}
use Rattle.v1_core.specs.Cells.{Cells, slot_value, header_valid, stack_place}
use Rattle.v1_core.specs.Seats.{Form, slot_form, header_form, stack_form, struct_form, no_form, form_of, Start, moved, behind_members, behind}
use Rattle.v1_core.specs.PackedValues.{content_value, field_values, header_value, element_values, member_values, value_from}
use Rattle.v1_core.proofs.Starts.{Before, at_once, members_before, ends_behind}

-- what is read from one place up to another is the same
pub record Same (c d : Cells) (b e : Start) : Type 0 where
  pub slots : (i : ℕ) → b.slot ≤ i → i < e.slot → slot_value c i ≡ slot_value d i
  pub headers : (i : ℕ) → b.header ≤ i → i < e.header → header_valid c i ≡ header_valid d i
  pub stacks : (i : ℕ) → b.stack ≤ i → i < e.stack → stack_place c i ≡ stack_place d i

pub narrow : (c d : Cells) (a b e f : Start) → Before a b → Before e f → Same c d a f → Same c d b e
narrow c d a b e f x y same = record {
  slots = λ i le lt. same.slots i (omega (arith, x.slot)) (omega (arith, y.slot));
  headers = λ i le lt. same.headers i (omega (arith, x.header)) (omega (arith, y.header));
  stacks = λ i le lt. same.stacks i (omega (arith, x.stack)) (omega (arith, y.stack));
}

pub fields_same : (fields : List FieldKind) (c d : Cells) (b : Start) → ((i : ℕ) → b.slot ≤ i → i < b.slot + length fields → slot_value c i ≡ slot_value d i) → field_values fields c b ≡ field_values fields d b
fields_same [] c d b same = refl
fields_same (f ∷ fields) c d b same =
    ap (λ (n : ℕ). record { called = f.called; width = bits_in f.kind; number = n } ∷ field_values fields c (moved b 1 0 0))
    (same b.slot (omega arith) (omega arith))
    ∙ ap (λ (l : List Field). record { called = f.called; width = bits_in f.kind; number = slot_value d b.slot } ∷ l)
    (fields_same fields c d (moved b 1 0 0) (λ i le lt. same i (omega arith) (omega arith)))

pub header_same : (fields : List FieldKind) (c d : Cells) (b : Start) → Same c d b (moved b (length fields) 1 0) → header_value fields c b ≡ header_value fields d b
header_same fields c d b same =
    ap (λ (v : Bool). record { valid = v; fields = field_values fields c b }) (same.headers b.header (omega arith) (omega arith))
    ∙ ap (λ (l : List Field). record { valid = header_valid d b.header; fields = l }) (fields_same fields c d b (λ i le lt. same.slots i le lt))

pub elements_same : (fields : List FieldKind) (c d : Cells) (count : ℕ) (b : Start) → Same c d b (moved b (count * length fields) count 0) → element_values fields c count b ≡ element_values fields d count b
elements_same fields c d zero b same = refl
elements_same fields c d (suc count) b same =
    let size = length fields in
    let next = moved b size 1 0 in
    let more : (suc count) * size ≡ size + count * size = omega arith in
    let end : Start = moved b ((suc count) * size) (suc count) 0 in
    let inner : Start = moved next (count * size) count 0 in
    let first : Before next end = record { slot = omega arith; header = omega arith; stack = omega arith } in
    let behind : Before b next = record { slot = omega arith; header = omega arith; stack = omega arith } in
    let last : Before inner end = record { slot = omega arith; header = omega arith; stack = omega arith } in
    ap (λ (x : Header). x ∷ element_values fields c count next) (header_same fields c d b (narrow c d b b next end (at_once b) first same))
    ∙ ap (λ (l : List Header). header_value fields d b ∷ l) (elements_same fields c d count next (narrow c d b next inner end behind last same))

pub members_same : (c d : Cells) (vc vd : Form → Start → Value) (next : Form → Start → Start) → ((k : Form) (b : Start) → Before b (next k b)) → ((k : Form) (b : Start) → Same c d b (next k b) → vc k b ≡ vd k b) → (fields : List FieldKind) (b : Start) → Same c d b (behind_members next fields b) → member_values vc next fields b ≡ member_values vd next fields b
members_same c d vc vd next grows each [] b same = refl
members_same c d vc vd next grows each (f ∷ fields) b same =
    let k = form_of f.kind in
    let m = next k b in
    let e = behind_members next fields m in
    ap (λ (v : Value). a_member f.called v (member_values vc next fields m))
    (each k b (narrow c d b b m e (at_once b) (members_before next grows fields m) same))
    ∙ ap (λ (v : Value). a_member f.called (vd k b) v)
    (members_same c d vc vd next grows each fields m (narrow c d b m e e (grows k b) (at_once e) same))

pub value_same : (types : List Layout) (c d : Cells) (n : ℕ) (k : Form) (b : Start) → Same c d b (behind types n k b) → value_from types c n k b ≡ value_from types d n k b
value_same types c d n (slot_form of) b same = ap (λ (m : ℕ). content_value of m) (same.slots b.slot (omega arith) (omega arith))
value_same types c d n (header_form type) b same = ap (λ (h : Header). a_header h) (header_same (fields_in types type) c d b same)
value_same types c d n (stack_form type size) b same =
    let fields = fields_in types type in
    let inner : Start = moved b (size * length fields) size 0 in
    let end : Start = moved b (size * length fields) size 1 in
    let ends : Before inner end = record { slot = omega arith; header = omega arith; stack = omega arith } in
    ap (λ (p : ℕ). a_stack p (element_values fields c size b)) (same.stacks b.stack (omega arith) (omega arith))
    ∙ ap (λ (l : List Header). a_stack (stack_place d b.stack) l) (elements_same fields c d size b (narrow c d b b inner end (at_once b) ends same))
value_same types c d zero (struct_form type) b same = refl
value_same types c d (suc n) (struct_form type) b same =
    members_same c d (λ k s. value_from types c n k s) (λ k s. value_from types d n k s) (λ k s. behind types n k s)
    (λ k s. ends_behind types n k s) (λ k s h. value_same types c d n k s h) (fields_in types type) b same
value_same types c d n no_form b same = refl
