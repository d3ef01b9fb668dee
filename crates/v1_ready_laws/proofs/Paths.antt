-- What is asked of a seat is asked of the value that stands there.
use Rattle.std.proofs.Common.{◌≡◌, ℕ, zero, suc, ◌+◌, ◌*◌, ◌<◌, ◌≤◌, min, nat_lt, not, Bool, true, false, cond, Option, Some, None, IfSome, List, [], ◌∷◌, length, get_or, refl, sym, ap, ap₂, ◌∙◌, subst, arith}
use Rattle.std.proofs.lemmas.Bool.{ltb-true, eqb-false}
use Rattle.std.specs.Str.{bytes_eq}
use Rattle.p416_syntax.specs.Names.{Name}
use Rattle.p416_syntax.specs.Scopes.{Layout as TypeLayout, FieldKind, fields_in}
use Rattle.p416_syntax.specs.Totals.{bits_in}
use Rattle.v1_core.specs.declared.parser_error.ParserError.TheVariants.{StackOutOfBounds}
use Rattle.v1_core.specs.Values.{Field, Header, Value, a_number, a_truth, a_header, a_stack, no_header, header_in, field_in, field_value, Step, to_member, to_element, part_of}
use Rattle.v1_core.specs.Layouts.{Layout}
use Rattle.v1_core.specs.Cells.{Cells, slot_value, header_valid, stack_place, stack_size}
use Rattle.v1_core.specs.Seats.{some_bits, a_truth as truth_content, an_error as error_content, Form, slot_form, header_form, stack_form, struct_form, no_form, Start, moved, Seat, seat, field_form, field_seat, stepped_seat}
use Rattle.v1_core.specs.PackedValues.{field_values, header_value, element_values, value_from, seat_value}
use Rattle.v1_core.specs.Laid.{AreFields, IsHeader, AreElements}
use Rattle.v1_core.proofs.Reading.{by_truth, read_once}
use Rattle.v1_core.proofs.Making.{same_start}
use Rattle.v1_core.specs.declared.node.Content.TheVariants.{Bits}
use Rattle.v1_core.specs.declared.node.Which.{Which}
use Rattle.v1_core.specs.declared.node.Which.TheVariants.{Next, Last}
use Rattle.v1_core.specs.Ready.{Ended, given, failed, element_by, is_past, value_in, within_stack, part_number, ready_value}
use Rattle.v1_ready_forms.specs.Ways.{Way, its_value, its_validity, through_member, through_element, through_told}
use Rattle.v1_ready_forms.specs.Spots.{Told, spot, spot_with, told_in, element_with, told_spot, value_ready, validity_ready, ready_behind, way_ready}
use Rattle.v1_ready_laws.specs.Asked.{asked_value}
use Rattle.v1_ready_laws.specs.Widths.{FieldsWide, ElementsWide, IsWide, IsNarrow, FieldsNarrow, TypesNarrow}
use Rattle.v1_ready_laws.proofs.Steps.{Stands, Leads, step_leads}

-- elements by their numbers

shifted : (b : Start) (fields j : ℕ) → moved (moved b fields 1 0) (j * fields) j 0 ≡ moved b (suc j * fields) (suc j) 0
shifted b fields j = same_start (moved (moved b fields 1 0) (j * fields) j 0) (moved b (suc j * fields) (suc j) 0) (omega arith) (omega arith) (omega arith)

unshifted : (b : Start) (fields : ℕ) → moved b (0 * fields) 0 0 ≡ b
unshifted b fields = same_start (moved b (0 * fields) 0 0) b (omega arith) (omega arith) (omega arith)

pub element_is : (fields : List FieldKind) (c : Cells) (size : ℕ) (b : Start) (j : ℕ) → j < size → get_or (element_values fields c size b) j no_header ≡ header_value fields c (moved b (j * length fields) j 0)
element_is fields c zero b j lt = absurd (omega (arith, lt))
element_is fields c (suc size) b zero lt = ap (header_value fields c) (sym (unshifted b (length fields)))
element_is fields c (suc size) b (suc j) lt = element_is fields c size (moved b (length fields) 1 0) j (omega (arith, lt)) ∙ ap (header_value fields c) (shifted b (length fields) j)

element_laid : (l : Layout) (fields size : ℕ) (b : Start) (j : ℕ) → j < size → AreElements l fields size b → IsHeader l fields (moved b (j * fields) j 0)
element_laid l fields zero b j lt laid = absurd (omega (arith, lt))
element_laid l fields (suc size) b zero lt laid = subst (IsHeader l fields) (sym (unshifted b fields)) laid.0
element_laid l fields (suc size) b (suc j) lt laid = subst (IsHeader l fields) (shifted b fields j) (element_laid l fields size (moved b fields 1 0) j (omega (arith, lt)) laid.1)

element_wide : (l : Layout) (fields : List FieldKind) (size : ℕ) (b : Start) (j : ℕ) → j < size → ElementsWide l fields size b → FieldsWide l fields (moved b (j * length fields) j 0)
element_wide l fields zero b j lt wide = absurd (omega (arith, lt))
element_wide l fields (suc size) b zero lt wide = subst (FieldsWide l fields) (sym (unshifted b (length fields))) wide.0
element_wide l fields (suc size) b (suc j) lt wide = subst (FieldsWide l fields) (shifted b (length fields) j) (element_wide l fields size (moved b (length fields) 1 0) j (omega (arith, lt)) wide.1)

pub elements_count : (fields : List FieldKind) (c : Cells) (size : ℕ) (b : Start) → length (element_values fields c size b) ≡ size
elements_count fields c zero b = refl
elements_count fields c (suc size) b = ap suc (elements_count fields c size (moved b (length fields) 1 0))

-- a field of an element that a stack tells

-- the element with this number is there, as far as it isn't past the end
pub record Element (c : Cells) (past : Bool) (header : ℕ) (fields : List FieldKind) (b : Start) : Type 0 where
  pub laid : past ≡ false → AreFields c.layout header (length fields) b
  pub wide : past ≡ false → FieldsWide c.layout fields b

narrow_is : (width : ℕ) → width ≤ 128 → min width 128 ≡ width
narrow_is width le = omega (arith, le)

-- the value of one field
field_given : (c : Cells) (left : List ℕ) (t : Told) (f : FieldKind) (fields : List FieldKind) (slot header : ℕ) (there : Start) → there.slot ≡ slot + element_by t.which (stack_place c t.stack) * t.apart → Element c (is_past t.which (stack_place c t.stack) (stack_size c t.stack)) header (f ∷ fields) there → bits_in f.kind ≤ 128 → within_stack c (element_with t slot t.apart) (value_in c Bits (part_number c (element_with t slot t.apart))) ≡ cond (is_past t.which (stack_place c t.stack) (stack_size c t.stack)) (failed StackOutOfBounds) (given (a_number (bits_in f.kind) (cond (header_valid c header) (slot_value c there.slot) 0)))
field_given c left t f fields slot header there at e narrow = by (is_past t.which (stack_place c t.stack) (stack_size c t.stack)) refl where
  by : (b : Bool) → is_past t.which (stack_place c t.stack) (stack_size c t.stack) ≡ b → cond b (failed StackOutOfBounds) (given (value_in c Bits (slot + element_by t.which (stack_place c t.stack) * t.apart))) ≡ cond b (failed StackOutOfBounds) (given (a_number (bits_in f.kind) (cond (header_valid c header) (slot_value c there.slot) 0)))
  by true past = refl
  by false past =
      ap (λ (n : ℕ). given (value_in c Bits n)) (sym at)
      ∙ ap₂ (λ (w n : ℕ). given (a_number w n)) ((e.wide past).0 ∙ narrow_is (bits_in f.kind) narrow) (sym (read_once c there.slot header (e.laid past).0))

-- what is asked of a field, of which only its value can be asked
field_asked : (types : List TypeLayout) (c : Cells) (left : List ℕ) (t : Told) (n owner : ℕ) (f : FieldKind) (fields : List FieldKind) (b there : Start) (header : ℕ) (way : Way) → there.slot ≡ b.slot + element_by t.which (stack_place c t.stack) * t.apart → Element c (is_past t.which (stack_place c t.stack) (stack_size c t.stack)) header (f ∷ fields) there → bits_in f.kind ≤ 128 → IfSome (way_ready types way (spot (Some t) (record { depth = n; form = field_form f; start = b; owner = Some owner }))) (λ r. ready_value c left r ≡ cond (is_past t.which (stack_place c t.stack) (stack_size c t.stack)) (failed StackOutOfBounds) (asked_value way (a_number (bits_in f.kind) (cond (header_valid c header) (slot_value c there.slot) 0))))
field_asked types c left t n owner f fields b there header its_value at e narrow = field_given c left t f fields b.slot header there at e narrow
field_asked types c left t n owner f fields b there header its_validity at e narrow = tt
field_asked types c left t n owner f fields b there header (through_member word way) at e narrow = tt
field_asked types c left t n owner f fields b there header (through_element number way) at e narrow = tt
field_asked types c left t n owner f fields b there header (through_told which way) at e narrow = tt

fields_asked : (types : List TypeLayout) (c : Cells) (left : List ℕ) (t : Told) (n owner : ℕ) (fields : List FieldKind) (b there : Start) (header : ℕ) (word : Name) (way : Way) → there.slot ≡ b.slot + element_by t.which (stack_place c t.stack) * t.apart → Element c (is_past t.which (stack_place c t.stack) (stack_size c t.stack)) header fields there → FieldsNarrow fields → IfSome (ready_behind (way_ready types way) (spot_with (Some t) (field_seat owner n fields b word))) (λ r. ready_value c left r ≡ cond (is_past t.which (stack_place c t.stack) (stack_size c t.stack)) (failed StackOutOfBounds) (asked_value way (field_value (header_valid c header) (field_in (field_values fields c there) word))))
fields_asked types c left t n owner [] b there header word way at e narrow = tt
fields_asked types c left t n owner (f ∷ fields) b there header word way at e narrow =
    let own : Option Field = Some (record { called = f.called; width = bits_in f.kind; number = slot_value c there.slot }) in
    by_truth (λ (same : Bool). IfSome (ready_behind (way_ready types way) (spot_with (Some t) (cond same (Some (record { depth = n; form = field_form f; start = b; owner = Some owner })) (field_seat owner n fields (moved b 1 0 0) word))))
    (λ r. ready_value c left r ≡ cond (is_past t.which (stack_place c t.stack) (stack_size c t.stack)) (failed StackOutOfBounds) (asked_value way (field_value (header_valid c header) (cond same own (field_in (field_values fields c (moved there 1 0 0)) word))))))
    (field_asked types c left t n owner f fields b there header way at e narrow.0)
    (fields_asked types c left t n owner fields (moved b 1 0 0) (moved there 1 0 0) header word way (omega (arith, at)) (record { laid = λ past. (e.laid past).1; wide = λ past. (e.wide past).1 }) narrow.1)
    (bytes_eq f.called word)

-- the element that a stack tells

told_asked : (types : List TypeLayout) (c : Cells) (left : List ℕ) (t : Told) (n : ℕ) (type : Name) (b there : Start) (way : Way) → there.slot ≡ b.slot + element_by t.which (stack_place c t.stack) * t.apart → there.header ≡ b.header + element_by t.which (stack_place c t.stack) * 1 → Element c (is_past t.which (stack_place c t.stack) (stack_size c t.stack)) there.header (fields_in types type) there → TypesNarrow types → IfSome (way_ready types way (spot (Some t) (seat n (header_form type) b))) (λ r. ready_value c left r ≡ cond (is_past t.which (stack_place c t.stack) (stack_size c t.stack)) (failed StackOutOfBounds) (asked_value way (a_header (header_value (fields_in types type) c there))))
told_asked types c left t n type b there its_value at head e narrow = tt
told_asked types c left t n type b there its_validity at head e narrow =
    ap (λ (h : ℕ). cond (is_past t.which (stack_place c t.stack) (stack_size c t.stack)) (failed StackOutOfBounds) (given (a_truth (header_valid c h)))) (sym head)
told_asked types c left t n type b there (through_member word way) at head e narrow = fields_asked types c left t n b.header (fields_in types type) b there there.header word way at e (narrow type)
told_asked types c left t n type b there (through_element number way) at head e narrow = tt
told_asked types c left t n type b there (through_told which way) at head e narrow = tt

not_past : (which : Which) (place size : ℕ) → place ≤ size → is_past which place size ≡ false → element_by which place < size
not_past Next place size le past = ltb-true place size (turned (nat_lt place size) past) where
  turned : (b : Bool) → not b ≡ false → b ≡ true
  turned true e = refl
  turned false e = absurd (cc e)
not_past Last place size le past = omega (arith, le, eqb-false place 0 past)

-- a stack's element that its place tells, where the stack has so many elements
stack_asked : (types : List TypeLayout) (c : Cells) (left : List ℕ) (n : ℕ) (type : Name) (size : ℕ) (b : Start) (which : Which) (way : Way) → AreElements c.layout (length (fields_in types type)) size b → ElementsWide c.layout (fields_in types type) size b → stack_size c b.stack ≡ size → stack_place c b.stack ≤ size → TypesNarrow types → IfSome (way_ready types way (spot (Some (told_in (length (fields_in types type)) which b.stack)) (seat n (header_form type) b))) (λ r. ready_value c left r ≡ asked_value (through_told which way) (a_stack (stack_place c b.stack) (element_values (fields_in types type) c size b)))
stack_asked types c left n type size b which way laid wide same le narrow =
    subst (λ (e : Ended). IfSome (way_ready types way (spot (Some (told_in len which b.stack)) (seat n (header_form type) b))) (λ r. ready_value c left r ≡ e)) due
    (told_asked types c left (told_in len which b.stack) n type b there way refl (omega arith) (record { laid = λ past. (element_laid c.layout len size b j (below past) laid).each; wide = λ past. element_wide c.layout fields size b j (below past) wide }) narrow) where
      fields : List FieldKind
      fields = fields_in types type

      len : ℕ
      len = length (fields_in types type)

      j : ℕ
      j = element_by which (stack_place c b.stack)

      there : Start
      there = moved b (element_by which (stack_place c b.stack) * length (fields_in types type)) (element_by which (stack_place c b.stack)) 0

      below : is_past which (stack_place c b.stack) (stack_size c b.stack) ≡ false → element_by which (stack_place c b.stack) < size
      below past = not_past which (stack_place c b.stack) size le (subst (λ (m : ℕ). is_past which (stack_place c b.stack) m ≡ false) same past)

      due : cond (is_past which (stack_place c b.stack) (stack_size c b.stack)) (failed StackOutOfBounds) (asked_value way (a_header (header_value (fields_in types type) c there))) ≡ asked_value (through_told which way) (a_stack (stack_place c b.stack) (element_values (fields_in types type) c size b))
      due = by (is_past which (stack_place c b.stack) (stack_size c b.stack)) refl ∙ ap (λ (m : ℕ). cond (is_past which (stack_place c b.stack) m) (failed StackOutOfBounds) (asked_value way (a_header (get_or (element_values (fields_in types type) c size b) j no_header)))) (same ∙ sym (elements_count (fields_in types type) c size b)) where
        by : (t : Bool) → is_past which (stack_place c b.stack) (stack_size c b.stack) ≡ t → cond t (failed StackOutOfBounds) (asked_value way (a_header (header_value (fields_in types type) c there))) ≡ cond t (failed StackOutOfBounds) (asked_value way (a_header (get_or (element_values (fields_in types type) c size b) (element_by which (stack_place c b.stack)) no_header)))
        by true past = refl
        by false past = ap (λ (h : Header). asked_value way (a_header h)) (sym (element_is (fields_in types type) c size b (element_by which (stack_place c b.stack)) (below past)))

-- seats

behind_asked : (types : List TypeLayout) (c : Cells) (left : List ℕ) (v : Value) (step : Step) (way : Way) (o : Option Seat) → ((u : Seat) → Stands c.layout types u → IfSome (way_ready types way (spot None u)) (λ r. ready_value c left r ≡ asked_value way (seat_value types c u))) → IfSome o (Leads c types v step) → IfSome (ready_behind (way_ready types way) (spot_with None o)) (λ r. ready_value c left r ≡ asked_value way (part_of v step))
behind_asked types c left v step way None further leads = tt
behind_asked types c left v step way (Some u) further leads =
    subst (λ (x : Value). IfSome (way_ready types way (spot None u)) (λ r. ready_value c left r ≡ asked_value way x)) (sym leads.0) (further u leads.1)

-- the places of stacks are at most their sizes
abbrev pub PlacesWithin : Cells → Type 0
PlacesWithin c = (stack : ℕ) → stack_place c stack ≤ stack_size c stack

pub way_asked : (types : List TypeLayout) (c : Cells) (left : List ℕ) → TypesNarrow types → PlacesWithin c → (way : Way) (t : Seat) → Stands c.layout types t → IfSome (way_ready types way (spot None t)) (λ r. ready_value c left r ≡ asked_value way (seat_value types c t))
way_asked types c left narrow within its_value t stands = by t.form t.start stands.wide stands.narrow where
  by : (k : Form) (b : Start) → IsWide c.layout types t.depth k b → IsNarrow k → IfSome (value_ready (spot None (record { depth = t.depth; form = k; start = b; owner = t.owner }))) (λ r. ready_value c left r ≡ given (value_from types c t.depth k b))
  by (slot_form (some_bits width)) b wide small = ap (λ (w : ℕ). given (a_number w (slot_value c b.slot))) (wide ∙ narrow_is width small)
  by (slot_form truth_content) b wide small = refl
  by (slot_form error_content) b wide small = refl
  by (header_form type) b wide small = tt
  by (stack_form type size) b wide small = tt
  by (struct_form type) b wide small = tt
  by no_form b wide small = tt
way_asked types c left narrow within its_validity t stands = by t.form where
  by : (k : Form) → IfSome (validity_ready (spot None (record { depth = t.depth; form = k; start = t.start; owner = t.owner }))) (λ r. ready_value c left r ≡ given (a_truth (header_in (value_from types c t.depth k t.start)).valid))
  by (slot_form of) = tt
  by (header_form type) = refl
  by (stack_form type size) = tt
  by (struct_form type) = tt
  by no_form = tt
way_asked types c left narrow within (through_member word way) t stands =
    behind_asked types c left (seat_value types c t) (to_member word) way (stepped_seat types t.depth t.form t.start (to_member word))
    (λ u h. way_asked types c left narrow within way u h) (step_leads types c t.depth t.form t.start t.owner (to_member word) stands narrow)
way_asked types c left narrow within (through_element number way) t stands =
    behind_asked types c left (seat_value types c t) (to_element number) way (stepped_seat types t.depth t.form t.start (to_element number))
    (λ u h. way_asked types c left narrow within way u h) (step_leads types c t.depth t.form t.start t.owner (to_element number) stands narrow)
way_asked types c left narrow within (through_told which way) t stands = told t.depth t.form t.start t.owner stands where
  told : (n : ℕ) (k : Form) (b : Start) (owner : Option ℕ) → Stands c.layout types (record { depth = n; form = k; start = b; owner = owner }) → IfSome (ready_behind (way_ready types way) (told_spot types which (spot None (record { depth = n; form = k; start = b; owner = owner })))) (λ r. ready_value c left r ≡ asked_value (through_told which way) (value_from types c n k b))
  told n (slot_form of) b owner x = tt
  told n (header_form type) b owner x = tt
  told n (stack_form type zero) b owner x = tt
  told n (stack_form type (suc size)) b owner x =
      stack_asked types c left n type (suc size) b which way x.laid.1 x.wide.1 x.wide.0 (subst (λ (m : ℕ). stack_place c b.stack ≤ m) x.wide.0 (within b.stack)) narrow
  told n (struct_form type) b owner x = tt
  told n no_form b owner x = tt
