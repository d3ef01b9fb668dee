-- What a way from a seat leads to: its parts, and the value that stands there.
use Rattle.std.proofs.Common.{◌≡◌, ℕ, zero, suc, ◌<◌, ◌≤◌, Bool, true, false, cond, Option, Some, None, IfSome, List, [], ◌∷◌, length, refl, sym, ◌∙◌, subst}
use Rattle.std.specs.Str.{bytes_eq}
use Rattle.p416_syntax.specs.declared.program.Syntax16.{Syntax16}
use Rattle.p416_syntax.specs.Names.{Name}
use Rattle.p416_syntax.specs.Kinds.{Kind}
use Rattle.p416_syntax.specs.Scopes.{Layout as TypeLayout, FieldKind, fields_in}
use Rattle.p416_syntax.specs.Declarations.{layouts_of}
use Rattle.p416_syntax.specs.Expressions.{field_kind_in, known_kind, member_kind, element_kind}
use Rattle.v1_core.specs.declared.parser_error.ParserError.TheVariants.{StackOutOfBounds}
use Rattle.v1_core.specs.Values.{Value, part_of, Step, to_member, to_element}
use Rattle.v1_core.specs.Slots.{FramePart}
use Rattle.v1_core.specs.Cells.{Cells, stack_place, stack_size}
use Rattle.v1_core.specs.Seats.{Content, Form, slot_form, header_form, stack_form, struct_form, no_form, Start, moved, Seat, seat, field_form, field_seat, element_seat, stepped_seat}
use Rattle.v1_core.specs.PackedValues.{value_from, seat_value}
use Rattle.v1_core.specs.Programs.{frame_kinds, part_seat}
use Rattle.v1_core.specs.PackedFrames.{IsFrameOf}
use Rattle.v1_core.proofs.Reading.{by_truth}
use Rattle.v1_core.specs.declared.node.Which.{Which}
use Rattle.v1_core.specs.Ready.{Ended, given, failed, element_by, is_past}
use Rattle.v1_ready_forms.specs.Ways.{Way, its_value, its_validity, through_member, through_element, through_told}
use Rattle.v1_ready_forms.specs.Spots.{Told, spot, spot_with, told_in, told_spot}
use Rattle.v1_ready_laws.specs.Asked.{asked_value}
use Rattle.v1_ready_laws.specs.Widths.{KindsNarrow, TypesNarrow}
use Rattle.v1_ready_laws.proofs.Steps.{Stands, Leads, step_leads}
use Rattle.v1_ready_laws.proofs.Paths.{elements_count}
use Rattle.v1_ready_blocks.specs.declared.places.Range.{Range}
use Rattle.v1_ready_blocks.specs.Places.{element_range, range_at}
use Rattle.v1_place_laws.specs.Places.{range_of, range_place_of}
use Rattle.v1_place_laws.specs.Finding.{in_element}
use Rattle.v1_place_laws.proofs.Elements.{element_at, not_past}
use Rattle.v1_place_laws.proofs.Parts.{further_part, part_further}
use Rattle.v1_place_laws.proofs.Writing.{part_stands}
use Rattle.v1_ready_statements.specs.Tested.{range_behind, way_range}
use Rattle.v1_value_laws.specs.Kinds.{KindFine, FormIs}
use Rattle.v1_value_laws.proofs.Formed.{member_is, index_is, told_any}
use Rattle.v1_statement_laws.proofs.Starting.{range_is}
use Rattle.v1_statement_laws.proofs.Ranging.{RangeFound, range_found}
use Rattle.v1_program_laws.specs.Reaching.{IsPart, way_kind}

at_some : {A : Type 0} (B : A → Type 0) (o : Option A) (x : A) → o ≡ Some x → IfSome o B → B x
at_some {A = A} B o x is h = subst (λ (p : Option A). IfSome p B) is h

weaker : {A : Type 0} (B : A → Type 0) (o : Option A) → IfSome o (λ x. ⊥) → IfSome o B
weaker B None h = tt
weaker B (Some x) h = absurd h

-- a single value has no parts
module _ (types : List TypeLayout) where
  nowhere : (way : Way) (t : Seat) (told : Option Told) (of : Content) → t.form ≡ slot_form of → IfSome (way_range types way (spot told t)) (λ place. ⊥)
  nowhere way t told of is = subst (λ (f : Form). IfSome (way_range types way (spot told (record { depth = t.depth; form = f; start = t.start; owner = t.owner }))) (λ place. ⊥)) (sym is) (by way) where
    by : (way : Way) → IfSome (way_range types way (spot told (record { depth = t.depth; form = slot_form of; start = t.start; owner = t.owner }))) (λ place. ⊥)
    by its_value = tt
    by its_validity = tt
    by (through_member word further) = tt
    by (through_element number further) = tt
    by (through_told which further) = tt

  field_slot : (owner n : ℕ) (fields : List FieldKind) (a : Start) (word : Name) → IfSome (field_seat owner n fields a word) (λ u. (of : Content) × (u.form ≡ slot_form of))
  field_slot owner n [] a word = tt
  field_slot owner n (f ∷ fields) a word =
      by_truth (λ (same : Bool). IfSome (cond same (Some (record { depth = n; form = field_form f; start = a; owner = Some owner })) (field_seat owner n fields (moved a 1 0 0) word)) (λ u. (of : Content) × (u.form ≡ slot_form of)))
      (_, refl) (field_slot owner n fields (moved a 1 0 0) word) (bytes_eq f.called word)

  -- nor has a field of an element
  field_nowhere : (way : Way) (told : Told) (o : Option Seat) → IfSome o (λ u. (of : Content) × (u.form ≡ slot_form of)) → IfSome (range_behind (way_range types way) (spot_with (Some told) o)) (λ place. ⊥)
  field_nowhere way told None h = tt
  field_nowhere way told (Some u) h = nowhere way u (Some told) h.0 h.1

abbrev pub WayFound : Syntax16 → Cells → Ended → Kind → Option Range → Type 0
WayFound syntax c end k (Some r) = (u : Value) × ((end ≡ given u) × IsPart syntax k u c r)
WayFound syntax c end k None = end ≡ failed StackOutOfBounds

module _ (syntax : Syntax16) (c : Cells) (is : IsFrameOf syntax c) (narrow : TypesNarrow (layouts_of syntax.decls)) (kinds : KindsNarrow (frame_kinds syntax)) (members : (type word : Name) → KindFine (layouts_of syntax.decls) (known_kind (field_kind_in (fields_in (layouts_of syntax.decls) type) word))) where
  abbrev types : List TypeLayout
  types = layouts_of syntax.decls

  abbrev formed : Seat → Form → Seat
  formed t f = record { depth = t.depth; form = f; start = t.start; owner = t.owner }

  -- the whole of it
  whole : (k : Kind) (t : Seat) (q : FramePart) → FormIs (layouts_of syntax.decls) k t.form → part_seat syntax q ≡ Some t → WayFound syntax c (given (seat_value (layouts_of syntax.decls) c t)) k (Some (range_of (layouts_of syntax.decls) t))
  whole k t q form at = (seat_value (layouts_of syntax.decls) c t, (refl, record { part = q; seat = t; at = at; form = form; ranged = range_is (layouts_of syntax.decls) t; stands = refl }))

  whole_found : (k : Kind) (t : Seat) (q : FramePart) → FormIs (layouts_of syntax.decls) k t.form → part_seat syntax q ≡ Some t → IfSome (way_range (layouts_of syntax.decls) its_value (spot None t)) (λ place. WayFound syntax c (given (seat_value (layouts_of syntax.decls) c t)) k (range_at c place))
  whole_found k t q form at = by t.form form at where
    by : (f : Form) → FormIs (layouts_of syntax.decls) k f → part_seat syntax q ≡ Some (formed t f) → IfSome (range_place_of (layouts_of syntax.decls) (spot None (formed t f))) (λ place. WayFound syntax c (given (seat_value (layouts_of syntax.decls) c (formed t f))) k (range_at c place))
    by (slot_form of) g a = tt
    by (header_form type) g a = whole k (formed t (header_form type)) q g a
    by (stack_form type size) g a = whole k (formed t (stack_form type size)) q g a
    by (struct_form type) g a = whole k (formed t (struct_form type)) q g a
    by no_form g a = tt

  -- a step further
  stepped_found : (step : Step) (way : Way) (j : Kind) (t : Seat) (q : FramePart) (o : Option Seat) → stepped_seat (layouts_of syntax.decls) t.depth t.form t.start step ≡ o → IfSome o (λ u. FormIs (layouts_of syntax.decls) j u.form) → IfSome o (Leads c (layouts_of syntax.decls) (seat_value (layouts_of syntax.decls) c t) step) → part_seat syntax q ≡ Some t
      → ((u : Seat) (p : FramePart) → FormIs (layouts_of syntax.decls) j u.form → part_seat syntax p ≡ Some u → IfSome (way_range (layouts_of syntax.decls) way (spot None u)) (λ place. WayFound syntax c (asked_value way (seat_value (layouts_of syntax.decls) c u)) (way_kind (layouts_of syntax.decls) way j) (range_at c place)))
      → IfSome (range_behind (way_range (layouts_of syntax.decls) way) (spot_with None o)) (λ place. WayFound syntax c (asked_value way (part_of (seat_value (layouts_of syntax.decls) c t) step)) (way_kind (layouts_of syntax.decls) way j) (range_at c place))
  stepped_found step way j t q None leads form stands at rest = tt
  stepped_found step way j t q (Some u) leads form stands at rest =
      subst (λ (v : Value). IfSome (way_range (layouts_of syntax.decls) way (spot None u)) (λ place. WayFound syntax c (asked_value way v) (way_kind (layouts_of syntax.decls) way j) (range_at c place))) (sym stands.0)
      (rest u (further_part step q) form (part_further syntax q step t u at leads))

  -- the element that the place of a stack tells
  element_found : (which : Which) (k : Kind) (n : ℕ) (type : Name) (size : ℕ) (a : Start) (owner : Option ℕ) (q : FramePart) → FormIs (layouts_of syntax.decls) (element_kind k) (header_form type) → part_seat syntax q ≡ Some (record { depth = n; form = stack_form type (suc size); start = a; owner = owner })
      → IfSome (way_range (layouts_of syntax.decls) its_value (spot (Some (told_in (length (fields_in (layouts_of syntax.decls) type)) which a.stack)) (seat n (header_form type) a))) (λ place. WayFound syntax c (asked_value (through_told which its_value) (value_from (layouts_of syntax.decls) c n (stack_form type (suc size)) a)) (element_kind k) (range_at c place))
  element_found which k n type size a owner q form at =
      subst (λ (m : ℕ). WayFound syntax c (cond (is_past which (stack_place c a.stack) m) (failed StackOutOfBounds) (given (part_of v (to_element j)))) (element_kind k) (cond (is_past which (stack_place c a.stack) (stack_size c a.stack)) None (Some (element_range (range_of (layouts_of syntax.decls) (seat n (header_form type) a)) j))))
      (size_is ∙ sym (elements_count (fields_in (layouts_of syntax.decls) type) c (suc size) a))
      (by (is_past which (stack_place c a.stack) (stack_size c a.stack)) refl) where
        t : Seat
        t = record { depth = n; form = stack_form type (suc size); start = a; owner = owner }

        v : Value
        v = value_from (layouts_of syntax.decls) c n (stack_form type (suc size)) a

        len : ℕ
        len = length (fields_in (layouts_of syntax.decls) type)

        j : ℕ
        j = element_by which (stack_place c a.stack)

        there : Seat
        there = in_element (length (fields_in (layouts_of syntax.decls) type)) (element_by which (stack_place c a.stack)) (seat n (header_form type) a)

        stands : Stands c.layout (layouts_of syntax.decls) (record { depth = n; form = stack_form type (suc size); start = a; owner = owner })
        stands = part_stands syntax c q (record { depth = n; form = stack_form type (suc size); start = a; owner = owner }) is.layout narrow kinds at

        size_is : stack_size c a.stack ≡ suc size
        size_is = stands.wide.0

        below : is_past which (stack_place c a.stack) (stack_size c a.stack) ≡ false → element_by which (stack_place c a.stack) < suc size
        below past = not_past which (stack_place c a.stack) (suc size) (subst (λ (m : ℕ). stack_place c a.stack ≤ m) size_is (is.whole.within a.stack)) (subst (λ (m : ℕ). is_past which (stack_place c a.stack) m ≡ false) size_is past)

        ranges : RangeFound (layouts_of syntax.decls) (cond (is_past which (stack_place c a.stack) (stack_size c a.stack)) None (Some (element_range (range_of (layouts_of syntax.decls) (seat n (header_form type) a)) j))) (cond (is_past which (stack_place c a.stack) (stack_size c a.stack)) None (Some there))
        ranges = range_found (layouts_of syntax.decls) c (spot (Some (told_in len which a.stack)) (seat n (header_form type) a)) _ refl refl

        at_element : element_by which (stack_place c a.stack) < suc size → element_seat n type (length (fields_in (layouts_of syntax.decls) type)) (suc size) a (element_by which (stack_place c a.stack)) ≡ Some there
        at_element lt = element_at n type (length (fields_in (layouts_of syntax.decls) type)) (suc size) a (element_by which (stack_place c a.stack)) lt

        leads : element_by which (stack_place c a.stack) < suc size → Leads c (layouts_of syntax.decls) v (to_element j) there
        leads lt =
            at_some (Leads c (layouts_of syntax.decls) v (to_element j)) (element_seat n type (length (fields_in (layouts_of syntax.decls) type)) (suc size) a (element_by which (stack_place c a.stack))) there (at_element lt)
            (step_leads (layouts_of syntax.decls) c n (stack_form type (suc size)) a owner (to_element j) stands narrow)

        by : (past : Bool) → is_past which (stack_place c a.stack) (stack_size c a.stack) ≡ past → WayFound syntax c (cond (is_past which (stack_place c a.stack) (stack_size c a.stack)) (failed StackOutOfBounds) (given (part_of v (to_element j)))) (element_kind k) (cond (is_past which (stack_place c a.stack) (stack_size c a.stack)) None (Some (element_range (range_of (layouts_of syntax.decls) (seat n (header_form type) a)) j)))
        by true e =
            subst (λ (p : Bool). WayFound syntax c (cond p (failed StackOutOfBounds) (given (part_of v (to_element j)))) (element_kind k) (cond p None (Some (element_range (range_of (layouts_of syntax.decls) (seat n (header_form type) a)) j)))) (sym e) refl
        by false e =
            let two : RangeFound (layouts_of syntax.decls) (Some (element_range (range_of (layouts_of syntax.decls) (seat n (header_form type) a)) j)) (Some there) =
            subst (λ (p : Bool). RangeFound (layouts_of syntax.decls) (cond p None (Some (element_range (range_of (layouts_of syntax.decls) (seat n (header_form type) a)) j))) (cond p None (Some there))) e ranges in
            subst (λ (p : Bool). WayFound syntax c (cond p (failed StackOutOfBounds) (given (part_of v (to_element j)))) (element_kind k) (cond p None (Some (element_range (range_of (layouts_of syntax.decls) (seat n (header_form type) a)) j)))) (sym e) (
              part_of v (to_element j),
              (
                refl,
                record {
                  part = further_part (to_element j) q;
                  seat = there;
                  at = part_further syntax q (to_element j) t there at (at_element (below e));
                  form = form;
                  ranged = two.0;
                  stands = (leads (below e)).0;
                },
              ),
            )

  pub way_found : (way : Way) (k : Kind) (t : Seat) (q : FramePart) → FormIs (layouts_of syntax.decls) k t.form → part_seat syntax q ≡ Some t → IfSome (way_range (layouts_of syntax.decls) way (spot None t)) (λ place. WayFound syntax c (asked_value way (seat_value (layouts_of syntax.decls) c t)) (way_kind (layouts_of syntax.decls) way k) (range_at c place))
  way_found its_value k t q form at = whole_found k t q form at
  way_found its_validity k t q form at = tt
  way_found (through_member word way) k t q form at =
      stepped_found (to_member word) way (known_kind (member_kind (layouts_of syntax.decls) k word)) t q (stepped_seat (layouts_of syntax.decls) t.depth t.form t.start (to_member word)) refl (member_is (layouts_of syntax.decls) members k word t form)
      (step_leads (layouts_of syntax.decls) c t.depth t.form t.start t.owner (to_member word) (part_stands syntax c q t is.layout narrow kinds at) narrow) at
      (λ u p g a. way_found way (known_kind (member_kind (layouts_of syntax.decls) k word)) u p g a)
  way_found (through_element number way) k t q form at =
      stepped_found (to_element number) way (element_kind k) t q (stepped_seat (layouts_of syntax.decls) t.depth t.form t.start (to_element number)) refl (index_is (layouts_of syntax.decls) members k number t form)
      (step_leads (layouts_of syntax.decls) c t.depth t.form t.start t.owner (to_element number) (part_stands syntax c q t is.layout narrow kinds at) narrow) at
      (λ u p g a. way_found way (element_kind k) u p g a)
  way_found (through_told which way) k t q form at = told t.depth t.form t.start t.owner (told_any (layouts_of syntax.decls) members k which (spot None t) form) at where
    told_by : (further : Way) (n : ℕ) (type : Name) (size : ℕ) (b : Start) (owner : Option ℕ) → FormIs (layouts_of syntax.decls) (element_kind k) (header_form type) → part_seat syntax q ≡ Some (record { depth = n; form = stack_form type (suc size); start = b; owner = owner })
        → IfSome (way_range (layouts_of syntax.decls) further (spot (Some (told_in (length (fields_in (layouts_of syntax.decls) type)) which b.stack)) (seat n (header_form type) b))) (λ place. WayFound syntax c (asked_value (through_told which further) (value_from (layouts_of syntax.decls) c n (stack_form type (suc size)) b)) (way_kind (layouts_of syntax.decls) further (element_kind k)) (range_at c place))
    told_by its_value n type size b owner g a = element_found which k n type size b owner q g a
    told_by its_validity n type size b owner g a = tt
    told_by (through_member word further) n type size b owner g a =
        weaker _ (range_behind (way_range (layouts_of syntax.decls) further) (spot_with (Some (told_in (length (fields_in (layouts_of syntax.decls) type)) which b.stack)) (field_seat b.header n (fields_in (layouts_of syntax.decls) type) b word)))
        (field_nowhere (layouts_of syntax.decls) further (told_in (length (fields_in (layouts_of syntax.decls) type)) which b.stack) (field_seat b.header n (fields_in (layouts_of syntax.decls) type) b word) (field_slot (layouts_of syntax.decls) b.header n (fields_in (layouts_of syntax.decls) type) b word))
    told_by (through_element number further) n type size b owner g a = tt
    told_by (through_told other further) n type size b owner g a = tt

    told : (n : ℕ) (f : Form) (b : Start) (owner : Option ℕ) → IfSome (told_spot (layouts_of syntax.decls) which (spot None (record { depth = n; form = f; start = b; owner = owner }))) (λ x. FormIs (layouts_of syntax.decls) (element_kind k) x.seat.form) → part_seat syntax q ≡ Some (record { depth = n; form = f; start = b; owner = owner })
        → IfSome (range_behind (way_range (layouts_of syntax.decls) way) (told_spot (layouts_of syntax.decls) which (spot None (record { depth = n; form = f; start = b; owner = owner })))) (λ place. WayFound syntax c (asked_value (through_told which way) (value_from (layouts_of syntax.decls) c n f b)) (way_kind (layouts_of syntax.decls) way (element_kind k)) (range_at c place))
    told n (slot_form of) b owner g a = tt
    told n (header_form type) b owner g a = tt
    told n (stack_form type zero) b owner g a = tt
    told n (stack_form type (suc size)) b owner g a = told_by way n type size b owner g a
    told n (struct_form type) b owner g a = tt
    told n no_form b owner g a = tt
