-- Seats of fields, members and elements.
use Rattle.std.proofs.Common.{◌≡◌, ℕ, zero, suc, ◌+◌, ◌*◌, ◌<◌, ◌≤◌, cond, Option, Some, None, List, [], ◌∷◌, map, refl, sym, ap, ◌∙◌, arith, slice_get}
use Rattle.std.specs.Option.{option_map}
use Rattle.std.specs.Str.{bytes_eq}
use Rattle.std.proofs.lemmas.Option.{slice_get-map}
use Rattle.p416_syntax.specs.Names.{Name}
use Rattle.p416_syntax.specs.Kinds.{Kind}
use Rattle.p416_syntax.specs.Scopes.{Layout, FieldKind, fields_in}
use Rattle.p416_syntax.specs.Totals.{bits_in}
use Rattle.p416_names.specs.SeenKinds.{seen_kind}
use Rattle.v1_core.specs.Values.{to_member}
use Rattle.v1_core.specs.Seats.{some_bits, Form, slot_form, header_form, struct_form, form_of, Start, moved, behind, Seat, seat, member_seat, field_form, field_seat, element_seat, stepped_seat}
use Rattle.v1_layout.specs.Left.{kind_of_field}
use Rattle.name_numbers.specs.Names.{find_name}
use Rattle.v1_seats.specs.declared.rows.Place.{Place}
use Rattle.v1_seats.specs.Extents.{further, form_of_field, forms_in, starts_from, AreLaid}
use Rattle.v1_seats.specs.internal.Rows.{called_of_field, IsPlace}
use Rattle.v1_seats.proofs.First.{first, begins, IsAt, first_found, first_missing}
use Rattle.v1_seats.proofs.Reaching.{start_same}

some_same : {A : Type 0} (x y : A) (o : Option A) → o ≡ Some x → o ≡ Some y → x ≡ y
some_same x y o a b = let same : Some x ≡ Some y = sym a ∙ b in cc same

kind_there : (fields : List FieldKind) (k : ℕ) (f : FieldKind) (x : Kind) → slice_get fields k ≡ Some f → slice_get (map kind_of_field fields) k ≡ Some x → f.kind ≡ x
kind_there fields k f x is at =
    some_same f.kind x (slice_get (map kind_of_field fields) k) (slice_get-map kind_of_field fields k ∙ ap (option_map kind_of_field) is) at

-- fields of a header

abbrev owned_seat : ℕ → ℕ → Form → Start → Seat
owned_seat owner n form b = record { depth = n; form = form; start = b; owner = Some owner }

abbrev field_made : ℕ → ℕ → FieldKind → Start → Seat
field_made owner n f b = owned_seat owner n (field_form f) b

abbrev one_slot : FieldKind → Start → Start
one_slot f b = moved b 1 0 0

field_is_first : (owner n : ℕ) (word : Name) (fields : List FieldKind) (b : Start) → field_seat owner n fields b word ≡ first (field_made owner n) one_slot word fields b
field_is_first owner n word [] b = refl
field_is_first owner n word (f ∷ fields) b =
    ap (λ o. cond (bytes_eq f.called word) (Some (field_made owner n f b)) o) (field_is_first owner n word fields (moved b 1 0 0))

field_begins : (word : Name) (owner n : ℕ) (fields : List FieldKind) (b s : Start) (k : ℕ) → slice_get (begins (field_made owner n) one_slot word fields b) k ≡ Some s → s ≡ moved b k 0 0
field_begins word owner n [] b s k is = absurd (cc is)
field_begins word owner n (f ∷ fields) b s zero is = let same : b ≡ s = cc is in sym same ∙ start_same b (moved b 0 0 0) (omega arith) (omega arith) (omega arith)
field_begins word owner n (f ∷ fields) b s (suc k) is =
    field_begins word owner n fields (moved b 1 0 0) s k is
    ∙ start_same (moved (moved b 1 0 0) k 0 0) (moved b (suc k) 0 0) (omega arith) (omega arith) (omega arith)

pub field_there : (fields : List FieldKind) (word : Name) (p : Place) (b s : Start) (form : Form) (owner n : ℕ) → IsPlace fields word p → s ≡ moved b p.number 0 0 → form ≡ slot_form (some_bits (bits_in (seen_kind p.kind))) → Some (owned_seat owner n form s) ≡ field_seat owner n fields b word
field_there fields word p b s form owner n place begin is =
    let at : IsAt (field_made owner n) one_slot word fields b p.number = first_found (field_made owner n) one_slot word fields b p.number place.number in
    let kind : at.field.kind ≡ seen_kind p.kind = kind_there fields p.number at.field (seen_kind p.kind) at.field_is place.kind in
    let start : at.start ≡ s = field_begins word owner n fields b at.start p.number at.start_is ∙ sym begin in
    sym (field_is_first owner n word fields b
    ∙ (at.found
    ∙ (ap (λ k. Some (owned_seat owner n (slot_form (some_bits (bits_in k))) at.start)) kind
    ∙ (ap (λ f. Some (owned_seat owner n f at.start)) (sym is) ∙ ap (λ t. Some (owned_seat owner n form t)) start))))

pub field_missing : (fields : List FieldKind) (word : Name) (b : Start) (owner n : ℕ) → find_name (map called_of_field fields) word ≡ None → None ≡ field_seat owner n fields b word
field_missing fields word b owner n is =
    sym (field_is_first owner n word fields b ∙ first_missing (field_made owner n) one_slot word fields b is)

-- members of a struct

module _ (types : List Layout) (n : ℕ) (word : Name) where
  abbrev member_made : FieldKind → Start → Seat
  member_made f b = seat n (form_of f.kind) b

  abbrev member_next : FieldKind → Start → Start
  member_next f b = behind types n (form_of f.kind) b

  member_is_first : (fields : List FieldKind) (b : Start) → member_seat (λ k s. behind types n k s) n fields b word ≡ first member_made member_next word fields b
  member_is_first [] b = refl
  member_is_first (f ∷ fields) b =
      ap (λ o. cond (bytes_eq f.called word) (Some (member_made f b)) o) (member_is_first fields (member_next f b))

  member_begins : (fields : List FieldKind) (b : Start) → begins member_made member_next word fields b ≡ starts_from (λ k s. behind types n k s) (map form_of_field fields) b
  member_begins [] b = refl
  member_begins (f ∷ fields) b = ap (λ s. b ∷ s) (member_begins fields (member_next f b))

-- where the member with a number begins
pub member_there : (types : List Layout) (type word : Name) (p : Place) (starts : List Start) (size b s by : Start) (inner n m : ℕ) → IsPlace (fields_in types type) word p → AreLaid types (forms_in types type) starts size inner → inner ≤ n → m ≡ n + 1 → slice_get starts p.number ≡ Some by → s ≡ further b by
    → Some (seat n (form_of (seen_kind p.kind)) s) ≡ stepped_seat types m (struct_form type) b (to_member word)
member_there types type word p starts size b s by inner n m place laid deep next at begin =
    let found : IsAt (member_made types n word) (member_next types n word) word (fields_in types type) b p.number = first_found (member_made types n word) (member_next types n word) word (fields_in types type) b p.number place.number in
    let kind : found.field.kind ≡ seen_kind p.kind = kind_there (fields_in types type) p.number found.field (seen_kind p.kind) found.field_is place.kind in
    let begins_at : slice_get (map (further b) starts) p.number ≡ Some found.start = ap (λ ss. slice_get ss p.number) (sym (member_begins types n word (fields_in types type) b ∙ laid.begin n b deep)) ∙ found.start_is in
    let start : found.start ≡ s = some_same found.start (further b by) (slice_get (map (further b) starts) p.number) begins_at (slice_get-map (further b) starts p.number ∙ ap (option_map (further b)) at) ∙ sym begin in
    let whole : suc n ≡ m = omega arith in
    sym (ap (λ j. stepped_seat types j (struct_form type) b (to_member word)) (sym whole)
    ∙ (member_is_first types n word (fields_in types type) b
    ∙ (found.found ∙ (ap (λ k. Some (seat n (form_of k) found.start)) kind ∙ ap (λ t. Some (seat n (form_of (seen_kind p.kind)) t)) start))))

pub member_missing : (types : List Layout) (type word : Name) (b : Start) (m : ℕ) → 0 < m → find_name (map called_of_field (fields_in types type)) word ≡ None → None ≡ stepped_seat types m (struct_form type) b (to_member word)
member_missing types type word b zero some is = let never : ⊥ = omega arith in absurd never
member_missing types type word b (suc n) some is =
    sym (member_is_first types n word (fields_in types type) b ∙ first_missing (member_made types n word) (member_next types n word) word (fields_in types type) b is)

pub none_within : (types : List Layout) (type word : Name) (b : Start) (m : ℕ) → m ≡ 0 → None ≡ stepped_seat types m (struct_form type) b (to_member word)
none_within types type word b m is = sym (ap (λ j. stepped_seat types j (struct_form type) b (to_member word)) is)

-- elements of a stack

element_by : (n : ℕ) (type : Name) (fields size : ℕ) (b : Start) (number : ℕ) → number < size → element_seat n type fields size b number ≡ Some (seat n (header_form type) (moved b (number * fields) number 0))
element_by n type fields zero b number within = let never : ⊥ = omega arith in absurd never
element_by n type fields (suc size) b zero within =
    ap (λ s. Some (seat n (header_form type) s)) (start_same b (moved b (0 * fields) 0 0) (omega arith) (omega arith) (omega arith))
element_by n type fields (suc size) b (suc number) within =
    element_by n type fields size (moved b fields 1 0) number (omega arith)
    ∙ ap (λ s. Some (seat n (header_form type) s)) (start_same (moved (moved b fields 1 0) (number * fields) number 0) (moved b (suc number * fields) (suc number) 0) (omega arith) (omega arith) (omega arith))

pub element_there : (n : ℕ) (type : Name) (count fields size header slot : ℕ) (b s by : Start) (number : ℕ) → number < size → header ≡ number → fields ≡ count → slot ≡ header * fields → by.slot ≡ slot → by.header ≡ header → by.stack ≡ 0 → s ≡ further b by → Some (seat n (header_form type) s) ≡ element_seat n type count size b number
element_there n type count fields size header slot b s by number within of_header of_fields is by_slot by_header by_stack begin =
    let whole : by.slot ≡ number * count = by_slot ∙ (is ∙ (ap (λ m. m * fields) of_header ∙ ap (λ m. number * m) of_fields)) in
    let start : s ≡ moved b (number * count) number 0 = begin ∙ start_same (further b by) (moved b (number * count) number 0) (ap (λ m. b.slot + m) whole) (omega arith) (omega arith) in
    ap (λ t. Some (seat n (header_form type) t)) start ∙ sym (element_by n type count size b number within)

none_past : (n : ℕ) (type : Name) (fields size : ℕ) (b : Start) (number : ℕ) → size ≤ number → None ≡ element_seat n type fields size b number
none_past n type fields zero b number past = refl
none_past n type fields (suc size) b zero past = let never : ⊥ = omega arith in absurd never
none_past n type fields (suc size) b (suc number) past = none_past n type fields size (moved b fields 1 0) number (omega arith)

pub element_missing : (n : ℕ) (type : Name) (fields size : ℕ) (b : Start) (number : ℕ) → size ≤ number → None ≡ element_seat n type fields size b number
element_missing n type fields size b number past = none_past n type fields size b number past
