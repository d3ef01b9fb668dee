-- The layout of a program has the widths of what stands in its slots.
use Rattle.std.proofs.Common.{◌≡◌, ℕ, zero, suc, ◌+◌, ◌*◌, List, [], ◌∷◌, ◌++◌, length, map, get_or, refl, sym, ap, ◌∙◌, arith, length-append, append_assoc, append-nil}
use Rattle.std.proofs.lemmas.List.{length-map}
use Rattle.std.proofs.Math.Seq.{get_or-append_seam}
use Rattle.p416_syntax.specs.declared.program.Syntax16.{Syntax16}
use Rattle.p416_syntax.specs.Kinds.{Kind}
use Rattle.p416_syntax.specs.Scopes.{Layout as TypeLayout, FieldKind, fields_in}
use Rattle.p416_syntax.specs.Declarations.{layouts_of}
use Rattle.v1_core.specs.Layouts.{Layout, no_parts, with_header_part}
use Rattle.v1_core.specs.Seats.{Form, slot_form, header_form, stack_form, struct_form, no_form, form_of, Start, moved, behind_members, behind}
use Rattle.v1_core.specs.Laid.{AreMembers}
use Rattle.v1_core.specs.Programs.{slot_width, field_width, with_elements, with_members, with_value, with_values, frame_kinds, first_start, layout16}
use Rattle.v1_ready_laws.specs.Widths.{FieldsWide, ElementsWide, IsWide, AreWide}

-- the widths and the sizes that a value adds

abbrev repeated : List ℕ → ℕ → List ℕ
repeated ws zero = []
repeated ws (suc count) = ws ++ repeated ws count

abbrev of_members : (Form → List ℕ) → List FieldKind → List ℕ
of_members numbers [] = []
of_members numbers (f ∷ fields) = numbers (form_of f.kind) ++ of_members numbers fields

abbrev form_widths : List TypeLayout → ℕ → Form → List ℕ
form_widths types n (slot_form of) = slot_width of ∷ []
form_widths types n (header_form type) = map field_width (fields_in types type)
form_widths types n (stack_form type size) = repeated (map field_width (fields_in types type)) size
form_widths types zero (struct_form type) = []
form_widths types (suc n) (struct_form type) = of_members (λ k. form_widths types n k) (fields_in types type)
form_widths types n no_form = []

abbrev form_sizes : List TypeLayout → ℕ → Form → List ℕ
form_sizes types n (slot_form of) = []
form_sizes types n (header_form type) = []
form_sizes types n (stack_form type size) = size ∷ []
form_sizes types zero (struct_form type) = []
form_sizes types (suc n) (struct_form type) = of_members (λ k. form_sizes types n k) (fields_in types type)
form_sizes types n no_form = []

abbrev kinds_numbers : (Form → List ℕ) → List Kind → List ℕ
kinds_numbers numbers [] = []
kinds_numbers numbers (k ∷ kinds) = numbers (form_of k) ++ kinds_numbers numbers kinds

-- they are added

elements_widths : (ws : List ℕ) (count : ℕ) (l : Layout) → (with_elements ws count l).widths ≡ l.widths ++ repeated ws count
elements_widths ws zero l = sym (append-nil l.widths)
elements_widths ws (suc count) l = elements_widths ws count (with_header_part l ws) ∙ append_assoc l.widths ws (repeated ws count)

elements_sizes : (ws : List ℕ) (count : ℕ) (l : Layout) → (with_elements ws count l).sizes ≡ l.sizes
elements_sizes ws zero l = refl
elements_sizes ws (suc count) l = elements_sizes ws count (with_header_part l ws)

members_added : (part : Layout → List ℕ) (more : Form → Layout → Layout) (numbers : Form → List ℕ) → ((k : Form) (l : Layout) → part (more k l) ≡ part l ++ numbers k) → (fields : List FieldKind) (l : Layout) → part (with_members more fields l) ≡ part l ++ of_members numbers fields
members_added part more numbers each [] l = sym (append-nil (part l))
members_added part more numbers each (f ∷ fields) l =
    members_added part more numbers each fields (more (form_of f.kind) l)
    ∙ ap (λ (r : List ℕ). r ++ of_members numbers fields) (each (form_of f.kind) l)
    ∙ append_assoc (part l) (numbers (form_of f.kind)) (of_members numbers fields)

widths_added : (types : List TypeLayout) (n : ℕ) (k : Form) (l : Layout) → (with_value types n k l).widths ≡ l.widths ++ form_widths types n k
widths_added types n (slot_form of) l = refl
widths_added types n (header_form type) l = refl
widths_added types n (stack_form type size) l = elements_widths (map field_width (fields_in types type)) size l
widths_added types zero (struct_form type) l = sym (append-nil l.widths)
widths_added types (suc n) (struct_form type) l =
    members_added (λ l. l.widths) (λ k m. with_value types n k m) (λ k. form_widths types n k) (λ k m. widths_added types n k m) (fields_in types type) l
widths_added types n no_form l = sym (append-nil l.widths)

sizes_added : (types : List TypeLayout) (n : ℕ) (k : Form) (l : Layout) → (with_value types n k l).sizes ≡ l.sizes ++ form_sizes types n k
sizes_added types n (slot_form of) l = sym (append-nil l.sizes)
sizes_added types n (header_form type) l = sym (append-nil l.sizes)
sizes_added types n (stack_form type size) l = ap (λ (r : List ℕ). r ++ size ∷ []) (elements_sizes (map field_width (fields_in types type)) size l)
sizes_added types zero (struct_form type) l = sym (append-nil l.sizes)
sizes_added types (suc n) (struct_form type) l =
    members_added (λ l. l.sizes) (λ k m. with_value types n k m) (λ k. form_sizes types n k) (λ k m. sizes_added types n k m) (fields_in types type) l
sizes_added types n no_form l = sym (append-nil l.sizes)

values_added : (part : Layout → List ℕ) (types : List TypeLayout) (numbers : Form → List ℕ) → ((k : Form) (l : Layout) → part (with_value types (length types) k l) ≡ part l ++ numbers k) → (kinds : List Kind) (l : Layout) → part (with_values types kinds l) ≡ part l ++ kinds_numbers numbers kinds
values_added part types numbers each [] l = sym (append-nil (part l))
values_added part types numbers each (k ∷ kinds) l =
    values_added part types numbers each kinds (with_value types (length types) (form_of k) l)
    ∙ ap (λ (r : List ℕ). r ++ kinds_numbers numbers kinds) (each (form_of k) l)
    ∙ append_assoc (part l) (numbers (form_of k)) (kinds_numbers numbers kinds)

-- how many they are

repeated_length : (ws : List ℕ) (count : ℕ) → length (repeated ws count) ≡ count * length ws
repeated_length ws zero = omega arith
repeated_length ws (suc count) = omega (arith, length-append ws (repeated ws count), repeated_length ws count)

members_behind : (types : List TypeLayout) (n : ℕ) (part : Start → ℕ) (numbers : Form → List ℕ) → ((k : Form) (b : Start) → part (behind types n k b) ≡ part b + length (numbers k)) → (fields : List FieldKind) (b : Start) → part (behind_members (λ k s. behind types n k s) fields b) ≡ part b + length (of_members numbers fields)
members_behind types n part numbers each [] b = omega arith
members_behind types n part numbers each (f ∷ fields) b =
    let k = form_of f.kind in
    omega (arith, members_behind types n part numbers each fields (behind types n k b), each k b, length-append (numbers k) (of_members numbers fields))

slot_behind : (types : List TypeLayout) (n : ℕ) (k : Form) (b : Start) → (behind types n k b).slot ≡ b.slot + length (form_widths types n k)
slot_behind types n (slot_form of) b = omega arith
slot_behind types n (header_form type) b = omega (arith, length-map (fields_in types type) field_width)
slot_behind types n (stack_form type size) b =
    omega (arith, repeated_length (map field_width (fields_in types type)) size, ap (λ (m : ℕ). size * m) (length-map (fields_in types type) field_width))
slot_behind types zero (struct_form type) b = omega arith
slot_behind types (suc n) (struct_form type) b = members_behind types n (λ s. s.slot) (λ k. form_widths types n k) (λ k s. slot_behind types n k s) (fields_in types type) b
slot_behind types n no_form b = omega arith

stack_behind : (types : List TypeLayout) (n : ℕ) (k : Form) (b : Start) → (behind types n k b).stack ≡ b.stack + length (form_sizes types n k)
stack_behind types n (slot_form of) b = omega arith
stack_behind types n (header_form type) b = omega arith
stack_behind types n (stack_form type size) b = omega arith
stack_behind types zero (struct_form type) b = omega arith
stack_behind types (suc n) (struct_form type) b = members_behind types n (λ s. s.stack) (λ k. form_sizes types n k) (λ k s. stack_behind types n k s) (fields_in types type) b
stack_behind types n no_form b = omega arith

-- where they stand

-- these numbers stand among those, behind so many others
pub record StandsAt (all these : List ℕ) (place : ℕ) : Type 0 where
  pub front : List ℕ
  pub back : List ℕ
  pub is : all ≡ front ++ (these ++ back)
  pub at : length front ≡ place

first_is : (all : List ℕ) (w : ℕ) (rest : List ℕ) (place : ℕ) → StandsAt all (w ∷ rest) place → get_or all place 0 ≡ w
first_is all w rest place x =
    ap (λ (l : List ℕ). get_or l place 0) x.is ∙ ap (λ (n : ℕ). get_or (x.front ++ w ∷ (rest ++ x.back)) n 0) (sym x.at)
    ∙ get_or-append_seam x.front w (rest ++ x.back) 0

front_of : (all xs ys : List ℕ) (place : ℕ) → StandsAt all (xs ++ ys) place → StandsAt all xs place
front_of all xs ys place x = record {
  front = x.front;
  back = ys ++ x.back;
  is = x.is ∙ ap (λ (r : List ℕ). x.front ++ r) (append_assoc xs ys x.back);
  at = x.at;
}

rest_of : (all xs ys : List ℕ) (place next : ℕ) → place + length xs ≡ next → StandsAt all (xs ++ ys) place → StandsAt all ys next
rest_of all xs ys place next long x = record {
  front = x.front ++ xs;
  back = x.back;
  is = x.is ∙ ap (λ (r : List ℕ). x.front ++ r) (append_assoc xs ys x.back) ∙ sym (append_assoc x.front xs (ys ++ x.back));
  at = length-append x.front xs ∙ ap (λ (n : ℕ). n + length xs) x.at ∙ long;
}

fields_wide : (l : Layout) (fields : List FieldKind) (b : Start) → StandsAt l.widths (map field_width fields) b.slot → FieldsWide l fields b
fields_wide l [] b x = tt
fields_wide l (f ∷ fields) b x = (
  first_is l.widths (field_width f) (map field_width fields) b.slot x,
  fields_wide l fields (moved b 1 0 0) (rest_of l.widths (field_width f ∷ []) (map field_width fields) b.slot (b.slot + 1) refl x),
)

elements_wide : (l : Layout) (fields : List FieldKind) (count : ℕ) (b : Start) → StandsAt l.widths (repeated (map field_width fields) count) b.slot → ElementsWide l fields count b
elements_wide l fields zero b x = tt
elements_wide l fields (suc count) b x =
    let ws : List ℕ = map field_width fields in (
      fields_wide l fields b (front_of l.widths ws (repeated ws count) b.slot x),
      elements_wide l fields count (moved b (length fields) 1 0) (rest_of l.widths ws (repeated ws count) b.slot (b.slot + length fields) (ap (λ (n : ℕ). b.slot + n) (length-map fields field_width)) x),
    )

-- both lists of a layout
abbrev HasNumbers : Layout → List ℕ → List ℕ → Start → Type 0
HasNumbers l widths sizes b = StandsAt l.widths widths b.slot × StandsAt l.sizes sizes b.stack

members_wide : (l : Layout) (types : List TypeLayout) (n : ℕ) → ((k : Form) (b : Start) → HasNumbers l (form_widths types n k) (form_sizes types n k) b → IsWide l types n k b) → (fields : List FieldKind) (b : Start) → HasNumbers l (of_members (λ k. form_widths types n k) fields) (of_members (λ k. form_sizes types n k) fields) b → AreMembers (λ k s. IsWide l types n k s) (λ k s. behind types n k s) fields b
members_wide l types n each [] b x = tt
members_wide l types n each (f ∷ fields) b x =
    let k = form_of f.kind in
    let ws : List ℕ = form_widths types n k in
    let ss : List ℕ = form_sizes types n k in
    let next = behind types n k b in (
      each k b (front_of l.widths ws (of_members (λ k. form_widths types n k) fields) b.slot x.0, front_of l.sizes ss (of_members (λ k. form_sizes types n k) fields) b.stack x.1),
      members_wide l types n each fields next (
        rest_of l.widths ws (of_members (λ k. form_widths types n k) fields) b.slot next.slot (sym (slot_behind types n k b)) x.0,
        rest_of l.sizes ss (of_members (λ k. form_sizes types n k) fields) b.stack next.stack (sym (stack_behind types n k b)) x.1,
      ),
    )

value_wide : (l : Layout) (types : List TypeLayout) (n : ℕ) (k : Form) (b : Start) → HasNumbers l (form_widths types n k) (form_sizes types n k) b → IsWide l types n k b
value_wide l types n (slot_form of) b x = first_is l.widths (slot_width of) [] b.slot x.0
value_wide l types n (header_form type) b x = fields_wide l (fields_in types type) b x.0
value_wide l types n (stack_form type size) b x = (first_is l.sizes size [] b.stack x.1, elements_wide l (fields_in types type) size b x.0)
value_wide l types zero (struct_form type) b x = tt
value_wide l types (suc n) (struct_form type) b x = members_wide l types n (λ k s h. value_wide l types n k s h) (fields_in types type) b x
value_wide l types n no_form b x = tt

kinds_wide : (l : Layout) (types : List TypeLayout) (kinds : List Kind) (b : Start) → HasNumbers l (kinds_numbers (λ k. form_widths types (length types) k) kinds) (kinds_numbers (λ k. form_sizes types (length types) k) kinds) b → AreWide l types kinds b
kinds_wide l types [] b x = tt
kinds_wide l types (kind ∷ kinds) b x =
    let n = length types in
    let k = form_of kind in
    let ws : List ℕ = form_widths types n k in
    let ss : List ℕ = form_sizes types n k in
    let next = behind types n k b in (
      value_wide l types n k b (front_of l.widths ws (kinds_numbers (λ k. form_widths types n k) kinds) b.slot x.0, front_of l.sizes ss (kinds_numbers (λ k. form_sizes types n k) kinds) b.stack x.1),
      kinds_wide l types kinds next (
        rest_of l.widths ws (kinds_numbers (λ k. form_widths types n k) kinds) b.slot next.slot (sym (slot_behind types n k b)) x.0,
        rest_of l.sizes ss (kinds_numbers (λ k. form_sizes types n k) kinds) b.stack next.stack (sym (stack_behind types n k b)) x.1,
      ),
    )

stands_whole : (all these : List ℕ) → all ≡ these → StandsAt all these 0
stands_whole all these is = record { front = []; back = []; is = is ∙ sym (append-nil these); at = refl }

-- the layout of a program
pub program_wide : (syntax : Syntax16) → AreWide (layout16 syntax) (layouts_of syntax.decls) (frame_kinds syntax) first_start
program_wide syntax =
    let types = layouts_of syntax.decls in
    let n = length types in
    kinds_wide (layout16 syntax) types (frame_kinds syntax) first_start (
      stands_whole (layout16 syntax).widths (kinds_numbers (λ k. form_widths types n k) (frame_kinds syntax)) (values_added (λ l. l.widths) types (λ k. form_widths types n k) (λ k l. widths_added types n k l) (frame_kinds syntax) no_parts),
      stands_whole (layout16 syntax).sizes (kinds_numbers (λ k. form_sizes types n k) (frame_kinds syntax)) (values_added (λ l. l.sizes) types (λ k. form_sizes types n k) (λ k l. sizes_added types n k l) (frame_kinds syntax) no_parts),
    )
