-- What stands at a part is that part of the whole.
use Rattle.std.proofs.Common.{◌≡◌, ℕ, zero, suc, Bool, true, false, cond, Option, Some, None, List, [], ◌∷◌, length, get_or, refl, sym, subst, IfSome}
use Rattle.std.specs.Str.{bytes_eq}
use Rattle.p416_syntax.specs.Names.{Name}
use Rattle.p416_syntax.specs.Scopes.{Layout as TypeLayout, FieldKind, fields_in}
use Rattle.p416_syntax.specs.Totals.{bits_in}
use Rattle.v1_core.specs.Values.{Field, Value, a_number, a_header, no_header, Step, to_member, to_element, part_of, part_at, member_in, field_in, field_value}
use Rattle.v1_core.specs.Cells.{Cells, owner_valid, slot_value, header_valid}
use Rattle.v1_core.specs.Seats.{Content, some_bits, Form, slot_form, header_form, stack_form, struct_form, no_form, form_of, Start, moved, behind, Seat, seat, member_seat, field_form, field_seat, element_seat, seat_behind, seat_at}
use Rattle.v1_core.specs.PackedValues.{content_value, field_values, header_value, element_values, member_values, value_from, seat_value}
use Rattle.v1_core.specs.Laid.{IsSlot, AreFields, IsHeader, AreElements, AreMembers, IsLaid}

-- a truth value by cases
pub by_truth : (P : Bool → Type 0) → P true → P false → (b : Bool) → P b
by_truth P x y true = x
by_truth P x y false = y

-- a member of a struct
pub member_part : (v : Form → Start → Value) (next : Form → Start → Start) (fields : List FieldKind) (b : Start) (word : Name) → part_of (member_values v next fields b) (to_member word) ≡ member_in (member_values v next fields b) word
member_part v next [] b word = refl
member_part v next (f ∷ fields) b word = refl

-- what of a slot is read at steps: nothing is behind it
slot_read : (types : List TypeLayout) (c : Cells) (path : List Step) (n : ℕ) (of : Content) (b : Start) (owner : Option ℕ) → IfSome (seat_at types path (record { depth = n; form = slot_form of; start = b; owner = owner })) (λ t. part_at path (content_value of (slot_value c b.slot)) ≡ seat_value types c t)
slot_read types c [] n of b owner = refl
slot_read types c (to_member word ∷ path) n of b owner = tt
slot_read types c (to_element i ∷ path) n of b owner = tt

-- a field of an invalid header reads 0 already
pub read_once : (c : Cells) (slot header : ℕ) → IsSlot c.layout slot (Some header) → cond (header_valid c header) (slot_value c slot) 0 ≡ slot_value c slot
read_once c slot header laid =
    let number = get_or c.numbers slot 0 in
    subst (λ (o : Option ℕ). cond (header_valid c header) (cond (owner_valid c.valids o) number 0) 0 ≡ cond (owner_valid c.valids o) number 0)
    (sym laid.owned)
    (by_truth (λ (b : Bool). cond b (cond b number 0) 0 ≡ cond b number 0) refl refl (header_valid c header))

field_read : (types : List TypeLayout) (c : Cells) (path : List Step) (n header : ℕ) (fields : List FieldKind) (b : Start) (word : Name) → AreFields c.layout header (length fields) b → IfSome (seat_behind (λ t. seat_at types path t) (field_seat header n fields b word)) (λ t. part_at path (field_value (header_valid c header) (field_in (field_values fields c b) word)) ≡ seat_value types c t)
field_read types c path n header [] b word laid = tt
field_read types c path n header (f ∷ fields) b word laid =
    let width = bits_in f.kind in
    let here : Option Seat = Some (record { depth = n; form = field_form f; start = b; owner = Some header }) in
    let own : Option Field = Some (record { called = f.called; width = width; number = slot_value c b.slot }) in
    let next = moved b 1 0 0 in
    by_truth (λ (same : Bool). IfSome (seat_behind (λ t. seat_at types path t) (cond same here (field_seat header n fields next word)))
    (λ t. part_at path (field_value (header_valid c header) (cond same own (field_in (field_values fields c next) word))) ≡ seat_value types c t))
    (subst (λ (m : ℕ). IfSome (seat_at types path (record { depth = n; form = field_form f; start = b; owner = Some header })) (λ t. part_at path (a_number width m) ≡ seat_value types c t))
    (sym (read_once c b.slot header laid.0)) (slot_read types c path n (some_bits width) b (Some header)))
    (field_read types c path n header fields next word laid.1) (bytes_eq f.called word)

element_read : (types : List TypeLayout) (c : Cells) (path : List Step) (n : ℕ) (type : Name) (fields : List FieldKind) → ((a : Start) → IsHeader c.layout (length fields) a → IfSome (seat_at types path (seat n (header_form type) a)) (λ t. part_at path (a_header (header_value fields c a)) ≡ seat_value types c t)) → (size : ℕ) (b : Start) (i : ℕ) → AreElements c.layout (length fields) size b → IfSome (seat_behind (λ t. seat_at types path t) (element_seat n type (length fields) size b i)) (λ t. part_at path (a_header (get_or (element_values fields c size b) i no_header)) ≡ seat_value types c t)
element_read types c path n type fields each zero b i laid = tt
element_read types c path n type fields each (suc size) b zero laid = each b laid.0
element_read types c path n type fields each (suc size) b (suc i) laid =
    element_read types c path n type fields each size (moved b (length fields) 1 0) i laid.1

member_read : (types : List TypeLayout) (c : Cells) (path : List Step) (n : ℕ) → ((k : Form) (a : Start) → IsLaid c.layout types n k a → IfSome (seat_at types path (seat n k a)) (λ t. part_at path (value_from types c n k a) ≡ seat_value types c t)) → (fields : List FieldKind) (b : Start) (word : Name) → AreMembers (λ k s. IsLaid c.layout types n k s) (λ k s. behind types n k s) fields b → IfSome (seat_behind (λ t. seat_at types path t) (member_seat (λ k s. behind types n k s) n fields b word)) (λ t. part_at path (member_in (member_values (λ k s. value_from types c n k s) (λ k s. behind types n k s) fields b) word) ≡ seat_value types c t)
member_read types c path n each [] b word laid = tt
member_read types c path n each (f ∷ fields) b word laid =
    let k = form_of f.kind in
    let next = behind types n k b in
    by_truth (λ (same : Bool). IfSome (seat_behind (λ t. seat_at types path t) (cond same (Some (seat n k b)) (member_seat (λ k s. behind types n k s) n fields next word)))
    (λ t. part_at path (cond same (value_from types c n k b) (member_in (member_values (λ k s. value_from types c n k s) (λ k s. behind types n k s) fields next) word)) ≡ seat_value types c t))
    (each k b laid.0) (member_read types c path n each fields next word laid.1) (bytes_eq f.called word)

-- the part to which steps lead is what stands at its seat
pub seat_read : (types : List TypeLayout) (c : Cells) (path : List Step) (n : ℕ) (k : Form) (b : Start) → IsLaid c.layout types n k b → IfSome (seat_at types path (seat n k b)) (λ t. part_at path (value_from types c n k b) ≡ seat_value types c t)
seat_read types c [] n k b laid = refl
seat_read types c (step ∷ path) n (slot_form of) b laid = slot_read types c (step ∷ path) n of b None
seat_read types c (to_member word ∷ path) n (header_form type) b laid = field_read types c path n b.header (fields_in types type) b word laid.each
seat_read types c (to_element i ∷ path) n (header_form type) b laid = tt
seat_read types c (to_member word ∷ path) n (stack_form type size) b laid = tt
seat_read types c (to_element i ∷ path) n (stack_form type size) b laid =
    element_read types c path n type (fields_in types type) (λ a h. seat_read types c path n (header_form type) a h) size b i laid.1
seat_read types c (to_member word ∷ path) zero (struct_form type) b laid = tt
seat_read types c (to_element i ∷ path) zero (struct_form type) b laid = tt
seat_read types c (to_member word ∷ path) (suc n) (struct_form type) b laid =
    subst (λ (v : Value). IfSome (seat_behind (λ t. seat_at types path t) (member_seat (λ k s. behind types n k s) n (fields_in types type) b word)) (λ t. part_at path v ≡ seat_value types c t))
    (sym (member_part (λ k s. value_from types c n k s) (λ k s. behind types n k s) (fields_in types type) b word))
    (member_read types c path n (λ k a h. seat_read types c path n k a h) (fields_in types type) b word laid)
seat_read types c (to_element i ∷ path) (suc n) (struct_form type) b laid = tt
seat_read types c (to_member word ∷ path) n no_form b laid = tt
seat_read types c (to_element i ∷ path) n no_form b laid = tt
