-- A step from a seat leads to the seat of that part.
use Rattle.std.proofs.Common.{◌≡◌, ℕ, zero, suc, ◌≤◌, Bool, cond, Option, Some, None, IfSome, List, [], ◌∷◌, length}
use Rattle.std.specs.Str.{bytes_eq}
use Rattle.p416_syntax.specs.Names.{Name}
use Rattle.p416_syntax.specs.Kinds.{Kind, bits, unsized, boolean, error_code, header, stack, struct, packet_in, packet_out, errors, enumeration, one_of, table, applied, object, items, nothing, unknown}
use Rattle.p416_syntax.specs.Scopes.{Layout as TypeLayout, FieldKind, fields_in}
use Rattle.p416_syntax.specs.Totals.{bits_in}
use Rattle.v1_core.specs.Values.{Value, Step, to_member, to_element, part_of}
use Rattle.v1_core.specs.Layouts.{Layout}
use Rattle.v1_core.specs.Cells.{Cells}
use Rattle.v1_core.specs.Seats.{Form, slot_form, header_form, stack_form, struct_form, no_form, form_of, Start, moved, behind, Seat, seat, member_seat, field_form, field_seat, element_seat, stepped_seat, seat_behind}
use Rattle.v1_core.specs.PackedValues.{value_from, seat_value}
use Rattle.v1_core.specs.Laid.{AreMembers, IsLaid, IsSeatLaid}
use Rattle.v1_core.proofs.Reading.{by_truth, seat_read}
use Rattle.v1_core.proofs.Owned.{seat_laid}
use Rattle.v1_ready_laws.specs.Widths.{FieldsWide, ElementsWide, IsWide, IsNarrow, FieldsNarrow, TypesNarrow}

-- a part that is where its layout has it, with its widths, which are at most 128
pub record Stands (l : Layout) (types : List TypeLayout) (t : Seat) : Type 0 where
  pub laid : IsSeatLaid l types t
  pub wide : IsWide l types t.depth t.form t.start
  pub narrow : IsNarrow t.form

-- widths

abbrev IsWideSeat : Layout → List TypeLayout → Seat → Type 0
IsWideSeat l types t = IsWide l types t.depth t.form t.start × IsNarrow t.form

narrow_form : (k : Kind) → bits_in k ≤ 128 → IsNarrow (form_of k)
narrow_form (bits width) le = le
narrow_form unsized le = tt
narrow_form boolean le = tt
narrow_form error_code le = tt
narrow_form (header type) le = tt
narrow_form (stack type size) le = tt
narrow_form (struct type) le = tt
narrow_form packet_in le = tt
narrow_form packet_out le = tt
narrow_form errors le = tt
narrow_form (enumeration of) le = tt
narrow_form (one_of of) le = tt
narrow_form table le = tt
narrow_form applied le = tt
narrow_form (object of) le = tt
narrow_form items le = tt
narrow_form nothing le = tt
narrow_form unknown le = tt

pub narrow_kind : (k : Kind) → bits_in k ≤ 128 → IsNarrow (form_of k)
narrow_kind k le = narrow_form k le

field_wide : (l : Layout) (types : List TypeLayout) (owner n : ℕ) (fields : List FieldKind) (b : Start) (word : Name) → FieldsWide l fields b → FieldsNarrow fields → IfSome (field_seat owner n fields b word) (IsWideSeat l types)
field_wide l types owner n [] b word wide narrow = tt
field_wide l types owner n (f ∷ fields) b word wide narrow =
    by_truth (λ (same : Bool). IfSome (cond same (Some (record { depth = n; form = field_form f; start = b; owner = Some owner })) (field_seat owner n fields (moved b 1 0 0) word)) (IsWideSeat l types))
    (wide.0, narrow.0) (field_wide l types owner n fields (moved b 1 0 0) word wide.1 narrow.1) (bytes_eq f.called word)

element_wide : (l : Layout) (types : List TypeLayout) (n : ℕ) (type : Name) (size : ℕ) (b : Start) (number : ℕ) → ElementsWide l (fields_in types type) size b → IfSome (element_seat n type (length (fields_in types type)) size b number) (IsWideSeat l types)
element_wide l types n type zero b number wide = tt
element_wide l types n type (suc size) b zero wide = (wide.0, tt)
element_wide l types n type (suc size) b (suc number) wide = element_wide l types n type size (moved b (length (fields_in types type)) 1 0) number wide.1

member_wide : (l : Layout) (types : List TypeLayout) (n : ℕ) (fields : List FieldKind) (b : Start) (word : Name) → AreMembers (λ k s. IsWide l types n k s) (λ k s. behind types n k s) fields b → FieldsNarrow fields → IfSome (member_seat (λ k s. behind types n k s) n fields b word) (IsWideSeat l types)
member_wide l types n [] b word wide narrow = tt
member_wide l types n (f ∷ fields) b word wide narrow =
    by_truth (λ (same : Bool). IfSome (cond same (Some (seat n (form_of f.kind) b)) (member_seat (λ k s. behind types n k s) n fields (behind types n (form_of f.kind) b) word)) (IsWideSeat l types))
    (wide.0, narrow_form f.kind narrow.0) (member_wide l types n fields (behind types n (form_of f.kind) b) word wide.1 narrow.1) (bytes_eq f.called word)

step_wide : (l : Layout) (types : List TypeLayout) (n : ℕ) (k : Form) (b : Start) (step : Step) → IsWide l types n k b → TypesNarrow types → IfSome (stepped_seat types n k b step) (IsWideSeat l types)
step_wide l types n (slot_form of) b (to_member word) wide narrow = tt
step_wide l types n (slot_form of) b (to_element number) wide narrow = tt
step_wide l types n (header_form type) b (to_member word) wide narrow = field_wide l types b.header n (fields_in types type) b word wide (narrow type)
step_wide l types n (header_form type) b (to_element number) wide narrow = tt
step_wide l types n (stack_form type size) b (to_member word) wide narrow = tt
step_wide l types n (stack_form type size) b (to_element number) wide narrow = element_wide l types n type size b number wide.1
step_wide l types zero (struct_form type) b (to_member word) wide narrow = tt
step_wide l types (suc n) (struct_form type) b (to_member word) wide narrow = member_wide l types n (fields_in types type) b word wide (narrow type)
step_wide l types zero (struct_form type) b (to_element number) wide narrow = tt
step_wide l types (suc n) (struct_form type) b (to_element number) wide narrow = tt
step_wide l types n no_form b (to_member word) wide narrow = tt
step_wide l types n no_form b (to_element number) wide narrow = tt

-- what stands there

one_step : (P : Seat → Type 0) (o : Option Seat) → IfSome (seat_behind (λ t. Some t) o) P → IfSome o P
one_step P None h = tt
one_step P (Some t) h = h

three : (P Q R S : Seat → Type 0) (o : Option Seat) → ((t : Seat) → P t → Q t → R t → S t) → IfSome o P → IfSome o Q → IfSome o R → IfSome o S
three P Q R S None f p q r = tt
three P Q R S (Some t) f p q r = f t p q r

-- what a step from a value leads to
abbrev pub Leads : Cells → List TypeLayout → Value → Step → Seat → Type 0
Leads c types v step u = (part_of v step ≡ seat_value types c u) × Stands c.layout types u

step_from : (types : List TypeLayout) (c : Cells) (n : ℕ) (k : Form) (b : Start) (step : Step) → IsLaid c.layout types n k b → IsWide c.layout types n k b → TypesNarrow types → IfSome (stepped_seat types n k b step) (Leads c types (value_from types c n k b) step)
step_from types c n k b step laid wide narrow =
    three (λ u. part_of (value_from types c n k b) step ≡ seat_value types c u) (IsSeatLaid c.layout types) (IsWideSeat c.layout types) (Leads c types (value_from types c n k b) step) (stepped_seat types n k b step)
    (λ u p q r. (p, record { laid = q; wide = r.0; narrow = r.1 }))
    (one_step (λ u. part_of (value_from types c n k b) step ≡ seat_value types c u) (stepped_seat types n k b step) (seat_read types c (step ∷ []) n k b laid))
    (one_step (IsSeatLaid c.layout types) (stepped_seat types n k b step) (seat_laid c.layout types (step ∷ []) n k b laid))
    (step_wide c.layout types n k b step wide narrow)

pub step_leads : (types : List TypeLayout) (c : Cells) (n : ℕ) (k : Form) (b : Start) (owner : Option ℕ) (step : Step) → Stands c.layout types (record { depth = n; form = k; start = b; owner = owner }) → TypesNarrow types → IfSome (stepped_seat types n k b step) (Leads c types (value_from types c n k b) step)
step_leads types c n (slot_form of) b owner (to_member word) stands narrow = tt
step_leads types c n (slot_form of) b owner (to_element number) stands narrow = tt
step_leads types c n (header_form type) b owner step stands narrow = step_from types c n (header_form type) b step stands.laid stands.wide narrow
step_leads types c n (stack_form type size) b owner step stands narrow = step_from types c n (stack_form type size) b step stands.laid stands.wide narrow
step_leads types c n (struct_form type) b owner step stands narrow = step_from types c n (struct_form type) b step stands.laid stands.wide narrow
step_leads types c n no_form b owner (to_member word) stands narrow = tt
step_leads types c n no_form b owner (to_element number) stands narrow = tt
