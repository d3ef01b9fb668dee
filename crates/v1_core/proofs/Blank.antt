-- A new frame is the blank one.
use Rattle.std.proofs.Common.{◌≡◌, ℕ, zero, suc, Bool, false, cond, not, List, [], ◌∷◌, length, map, replicate, get_or, refl, ap, ◌∙◌}
use Rattle.std.specs.Prelude.{◌==◌}
use Rattle.p416_syntax.specs.declared.program.Syntax16.{Syntax16}
use Rattle.p416_syntax.specs.Kinds.{Kind, bits, unsized, boolean, error_code, header, stack, struct, packet_in, packet_out, errors, enumeration, one_of, table, applied, object, items, nothing, unknown}
use Rattle.p416_syntax.specs.Scopes.{Layout as TypeLayout, FieldKind, fields_in}
use Rattle.p416_syntax.specs.Totals.{bits_in}
use Rattle.p416_syntax.specs.Declarations.{layouts_of}
use Rattle.v1_core.specs.Values.{Field, Header, Value, a_number, a_truth, an_error, a_header, a_stack, a_member, zero_field, zero_header, members_from, zero_within, zero_value}
use Rattle.v1_core.specs.Passes.{blank_frame}
use Rattle.v1_core.specs.Numbered.{new_numbered, nobody, frame_in}
use Rattle.v1_core.specs.Layouts.{Layout}
use Rattle.v1_core.specs.Cells.{Cells, is_live, slot_value, header_valid, stack_place, new_cells}
use Rattle.v1_core.specs.Seats.{form_of, Start, moved, behind}
use Rattle.v1_core.specs.PackedValues.{field_values, header_value, element_values, member_values, value_from}
use Rattle.v1_core.specs.Programs.{layout16, frame_kinds, first_start, values_from, of_values, numbered16}
use Rattle.v1_core.proofs.Reading.{by_truth}

zero_at : (n i : ℕ) → get_or {A = ℕ} (replicate n 0) i 0 ≡ 0
zero_at zero zero = refl
zero_at zero (suc i) = refl
zero_at (suc n) zero = refl
zero_at (suc n) (suc i) = zero_at n i

off_at : (n i : ℕ) → get_or (replicate n false) i false ≡ false
off_at zero zero = refl
off_at zero (suc i) = refl
off_at (suc n) zero = refl
off_at (suc n) (suc i) = off_at n i

-- nothing stands in it
record IsBlank (c : Cells) : Type 0 where
  slots : (i : ℕ) → slot_value c i ≡ 0
  headers : (i : ℕ) → header_valid c i ≡ false
  stacks : (i : ℕ) → stack_place c i ≡ 0

new_blank : (l : Layout) → IsBlank (new_cells l)
new_blank l = record {
  slots = λ i. ap (λ (m : ℕ). cond (is_live (new_cells l) i) m 0) (zero_at (length l.widths) i)
      ∙ by_truth (λ (live : Bool). ◌≡◌ {A = ℕ} (cond live 0 0) 0) refl refl (is_live (new_cells l) i);
  headers = λ i. off_at (length l.headers) i;
  stacks = λ i. zero_at (length l.sizes) i;
}

fields_zero : (c : Cells) → IsBlank c → (fields : List FieldKind) (b : Start) → field_values fields c b ≡ map zero_field fields
fields_zero c blank [] b = refl
fields_zero c blank (f ∷ fields) b =
    ap (λ (n : ℕ). record { called = f.called; width = bits_in f.kind; number = n } ∷ field_values fields c (moved b 1 0 0)) (blank.slots b.slot)
    ∙ ap (λ (l : List Field). zero_field f ∷ l) (fields_zero c blank fields (moved b 1 0 0))

header_zero : (types : List TypeLayout) (c : Cells) → IsBlank c → (type : List ℕ) (b : Start) → header_value (fields_in types type) c b ≡ zero_header types type
header_zero types c blank type b =
    ap (λ (v : Bool). record { valid = v; fields = field_values (fields_in types type) c b }) (blank.headers b.header)
    ∙ ap (λ (l : List Field). record { valid = false; fields = l }) (fields_zero c blank (fields_in types type) b)

elements_zero : (types : List TypeLayout) (c : Cells) → IsBlank c → (type : List ℕ) (size : ℕ) (b : Start) → element_values (fields_in types type) c size b ≡ replicate size (zero_header types type)
elements_zero types c blank type zero b = refl
elements_zero types c blank type (suc size) b =
    let next = moved b (length (fields_in types type)) 1 0 in
    ap (λ (h : Header). h ∷ element_values (fields_in types type) c size next) (header_zero types c blank type b)
    ∙ ap (λ (l : List Header). zero_header types type ∷ l) (elements_zero types c blank type size next)

members_zero : (types : List TypeLayout) (c : Cells) (n : ℕ) → ((k : Kind) (b : Start) → value_from types c n (form_of k) b ≡ zero_within types n k) → (fields : List FieldKind) (b : Start) → member_values (λ k s. value_from types c n k s) (λ k s. behind types n k s) fields b ≡ members_from (λ k. zero_within types n k) fields
members_zero types c n each [] b = refl
members_zero types c n each (f ∷ fields) b =
    let next = behind types n (form_of f.kind) b in
    ap (λ (v : Value). a_member f.called v (member_values (λ k s. value_from types c n k s) (λ k s. behind types n k s) fields next)) (each f.kind b)
    ∙ ap (λ (v : Value). a_member f.called (zero_within types n f.kind) v) (members_zero types c n each fields next)

value_zero : (types : List TypeLayout) (c : Cells) → IsBlank c → (n : ℕ) (k : Kind) (b : Start) → value_from types c n (form_of k) b ≡ zero_within types n k
value_zero types c blank n (bits width) b = ap (λ (m : ℕ). a_number width m) (blank.slots b.slot)
value_zero types c blank n boolean b = ap (λ (m : ℕ). a_truth (not (m == 0))) (blank.slots b.slot)
value_zero types c blank n error_code b = ap (λ (m : ℕ). an_error m) (blank.slots b.slot)
value_zero types c blank n (header type) b = ap (λ (h : Header). a_header h) (header_zero types c blank type b)
value_zero types c blank n (stack type size) b =
    ap (λ (p : ℕ). a_stack p (element_values (fields_in types type) c size b)) (blank.stacks b.stack)
    ∙ ap (λ (l : List Header). a_stack 0 l) (elements_zero types c blank type size b)
value_zero types c blank zero (struct type) b = refl
value_zero types c blank (suc n) (struct type) b =
    members_zero types c n (λ k s. value_zero types c blank n k s) (fields_in types type) b
value_zero types c blank n unsized b = refl
value_zero types c blank n packet_in b = refl
value_zero types c blank n packet_out b = refl
value_zero types c blank n errors b = refl
value_zero types c blank n (enumeration of) b = refl
value_zero types c blank n (one_of of) b = refl
value_zero types c blank n table b = refl
value_zero types c blank n applied b = refl
value_zero types c blank n (object of) b = refl
value_zero types c blank n items b = refl
value_zero types c blank n nothing b = refl
value_zero types c blank n unknown b = refl

values_zero : (types : List TypeLayout) (c : Cells) → IsBlank c → (kinds : List Kind) (b : Start) → values_from types c kinds b ≡ map (zero_value types) kinds
values_zero types c blank [] b = refl
values_zero types c blank (k ∷ kinds) b =
    let n = length types in
    let next = behind types n (form_of k) b in
    ap (λ (v : Value). v ∷ values_from types c kinds next) (value_zero types c blank n k b)
    ∙ ap (λ (l : List Value). zero_value types k ∷ l) (values_zero types c blank kinds next)

-- the values of a new frame
pub new_is : (syntax : Syntax16) → numbered16 syntax (new_cells (layout16 syntax)) ≡ new_numbered syntax
new_is syntax =
    ap (λ (values : List Value). of_values values (new_cells (layout16 syntax)))
    (values_zero (layouts_of syntax.decls) (new_cells (layout16 syntax)) (new_blank (layout16 syntax)) (frame_kinds syntax) first_start)

-- which are the frame that is blank
pub blank_is : (syntax : Syntax16) → frame_in nobody (new_numbered syntax) ≡ blank_frame syntax
blank_is syntax = refl
