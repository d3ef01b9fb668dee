-- A ready l-value is where finding the l-value leads.
use Rattle.std.proofs.Common.{◌≡◌, ℕ, zero, suc, ◌-◌, ◌<◌, ◌≤◌, ◌==◌, nat_lt, not, Bool, true, false, cond, Option, Some, None, IfSome, is_some, List, [], ◌∷◌, length, refl, sym, ap, ◌∙◌, subst}
use Rattle.std.specs.Prelude.{option_map}
use Rattle.std.specs.Str.{bytes_eq}
use Rattle.p416_syntax.specs.declared.program.Syntax16.{Syntax16}
use Rattle.p416_syntax.specs.Tree.{Exp16, literal, truth, error, name, member, index, slice, call, lookahead, cast, unary, binary, choice, parenthesized, no_arguments, argument, listed}
use Rattle.p416_syntax.specs.Names.{Name}
use Rattle.p416_syntax.specs.Kinds.{Kind, bits, unsized, boolean, error_code, header, stack, struct, packet_in, packet_out, errors, enumeration, one_of, table, applied, object, items, nothing, unknown}
use Rattle.p416_syntax.specs.Scopes.{Layout as TypeLayout, FieldKind, fields_in, Scope}
use Rattle.p416_syntax.specs.Declarations.{layouts_of}
use Rattle.p416_syntax.specs.Expressions.{kind_of}
use Rattle.p416_syntax.specs.Breaks.{BreaksNone, program_rules}
use Rattle.v1_core.specs.declared.parser_error.ParserError.TheVariants.{StackOutOfBounds}
use Rattle.v1_core.specs.Values.{Value, a_stack, place_in, elements_in, Step, to_member, to_element, Slice}
use Rattle.v1_core.specs.Frames.{Frame, Moment, raised, Reference, stepped, cut_to, sliced_to, place_value, within_slice, read}
use Rattle.v1_core.specs.Surroundings.{Surroundings, quiet_world, named}
use Rattle.v1_core.specs.Numbered.{InScope, frame_in}
use Rattle.v1_core.specs.Expressions.{element_by as element_by16, is_last, is_beyond, bounded, slice_of, Referred, referred, member_reference, reference_of}
use Rattle.v1_core.specs.Cells.{Cells, stack_place, stack_size}
use Rattle.v1_core.specs.Seats.{Form, slot_form, header_form, stack_form, struct_form, no_form, field_form, field_seat, Start, moved, Seat, seat, stepped_seat}
use Rattle.v1_core.specs.PackedValues.{element_values, value_from}
use Rattle.v1_core.specs.Programs.{frame_kinds, numbered16}
use Rattle.v1_core.specs.PackedFrames.{IsFrameOf}
use Rattle.v1_core.proofs.Reading.{by_truth}
use Rattle.v1_core.proofs.Named.{meant_read}
use Rattle.v1_core.proofs.Laws.{part_read}
use Rattle.v1_core.specs.declared.node.Which.{Which}
use Rattle.v1_core.specs.declared.node.Which.TheVariants.{Next, Last}
use Rattle.v1_core.specs.Ready.{element_by, is_past}
use Rattle.v1_ready_forms.specs.Named.{NamedSeat, seat_of_name, seats_in}
use Rattle.v1_ready_forms.specs.Ways.{which_of}
use Rattle.v1_ready_forms.specs.Spots.{Told, Spot, spot, spot_with, spot_behind, told_in, told_spot}
use Rattle.v1_ready_laws.specs.Asked.{stopped_by}
use Rattle.v1_ready_laws.specs.Widths.{KindsNarrow, TypesNarrow}
use Rattle.v1_ready_laws.proofs.Steps.{Stands, Leads, step_leads}
use Rattle.v1_ready_laws.proofs.Paths.{elements_count}
use Rattle.v1_ready_laws.proofs.Named.{At, name_at}
use Rattle.v1_ready_laws.proofs.Accepted.{accepted_narrow}
use Rattle.v1_place_laws.specs.Places.{Meant, meant, behind_meant, slice_meant, member_meant, meant_by}
use Rattle.v1_place_laws.specs.Finding.{in_element, seat_now, IsAt, FoundAt, IsFound}
use Rattle.v1_place_laws.proofs.Parts.{step_from, at_further}
use Rattle.v1_place_laws.proofs.Elements.{element_at, header_moved, not_past}
use Rattle.v1_place_laws.proofs.Naming.{name_meant}

-- words for the element that the place of a stack tells

told_number : (word : Name) (place : ℕ) → element_by (which_of word) place ≡ element_by16 word place
told_number word place = by (is_last word) where
  by : (t : Bool) → element_by (cond t Last Next) place ≡ cond t (place - 1) place
  by true = refl
  by false = refl

told_past : (word : Name) (place size : ℕ) → is_past (which_of word) place size ≡ is_beyond word place size
told_past word place size = by (is_last word) where
  by : (t : Bool) → is_past (cond t Last Next) place size ≡ cond t (place == 0) (not (nat_lt place size))
  by true = refl
  by false = refl

-- only an element itself and its fields are told by a stack

abbrev IsPart : Form → Type 0
IsPart (slot_form of) = Unit {0}
IsPart (header_form type) = Unit {0}
IsPart form = ⊥

abbrev pub Lone : Form → Option Told → Type 0
Lone form None = Unit {0}
Lone form (Some t) = IsPart form

field_part : (owner n : ℕ) (fields : List FieldKind) (b : Start) (word : Name) → IfSome (field_seat owner n fields b word) (λ u. IsPart u.form)
field_part owner n [] b word = tt
field_part owner n (f ∷ fields) b word =
    by_truth (λ (same : Bool). IfSome (cond same (Some (record { depth = n; form = field_form f; start = b; owner = Some owner })) (field_seat owner n fields (moved b 1 0 0) word)) (λ u. IsPart u.form))
    tt (field_part owner n fields (moved b 1 0 0) word) (bytes_eq f.called word)

both_some : {A : Type 0} (P Q : A → Type 0) (o : Option A) → IfSome o P → IfSome o Q → IfSome o (λ x. P x × Q x)
both_some P Q None p q = tt
both_some P Q (Some x) p q = (p, q)

at_some : {A : Type 0} (P : A → Type 0) (o : Option A) (x : A) → o ≡ Some x → IfSome o P → P x
at_some P o x is h = subst (λ y. IfSome y P) is h

-- a part of the frame that is where its layout has it
record Here (syntax : Syntax16) (c : Cells) (who : InScope) (r : Reference) (cut : Option Slice) (t : Seat) : Type 0 where
  at : IsAt syntax who r cut t
  stands : Stands c.layout (layouts_of syntax.decls) t

module _ (syntax : Syntax16) (c : Cells) (b : Surroundings) (who : InScope) (m : Moment) (is : IsFrameOf syntax c) (narrow : TypesNarrow (layouts_of syntax.decls)) (frame : m.frame ≡ frame_in who (numbered16 syntax c)) (runs : m.stopped ≡ None) where
  abbrev HereAt : Option Slice → Referred → Option Seat → Type 0
  HereAt cut found None = found.moment ≡ stopped_by StackOutOfBounds m
  HereAt cut found (Some t) = (found.moment ≡ m) × Here syntax c who found.reference cut t

  abbrev Finds : Referred → Meant → Type 0
  Finds found x = Lone x.spot.seat.form x.spot.told × HereAt x.slice found (seat_now c x.spot)

  -- one step further

  here_further : (r : Reference) (t u : Seat) (step : Step) → Here syntax c who r None t → step_from (layouts_of syntax.decls) step t ≡ Some u → Here syntax c who (stepped r step) None u
  here_further r t u step h leads = record {
    at = at_further syntax who r t u step h.at leads;
    stands = (at_some (Leads c (layouts_of syntax.decls) (value_from (layouts_of syntax.decls) c t.depth t.form t.start) step) (step_from (layouts_of syntax.decls) step t) u leads (step_leads (layouts_of syntax.decls) c t.depth t.form t.start t.owner step h.stands narrow)).1;
  }

  abbrev Further : Referred → Step → Option Meant → Type 0
  Further found step o = IfSome o (Finds (referred (stepped found.reference step) found.moment))

  told_further : (found : Referred) (n : ℕ) (type : Name) (a : Start) (owner : Option ℕ) (t : Told) (word : Name) (u : Seat) → stepped_seat (layouts_of syntax.decls) n (header_form type) a (to_member word) ≡ Some u → HereAt None found (seat_now c (spot (Some t) (record { depth = n; form = header_form type; start = a; owner = owner }))) → HereAt None (referred (stepped found.reference (to_member word)) found.moment) (seat_now c (spot (Some t) u))
  told_further found n type a owner t word u e here = by (is_past t.which (stack_place c t.stack) (stack_size c t.stack)) here where
    j : ℕ
    j = element_by t.which (stack_place c t.stack)

    by : (past : Bool) → HereAt None found (cond past None (Some (in_element t.apart (element_by t.which (stack_place c t.stack)) (record { depth = n; form = header_form type; start = a; owner = owner })))) → HereAt None (referred (stepped found.reference (to_member word)) found.moment) (cond past None (Some (in_element t.apart (element_by t.which (stack_place c t.stack)) u)))
    by true h = h
    by false h = (
      h.0,
      here_further found.reference (in_element t.apart (element_by t.which (stack_place c t.stack)) (record { depth = n; form = header_form type; start = a; owner = owner })) (in_element t.apart (element_by t.which (stack_place c t.stack)) u) (to_member word) h.1
          (header_moved (layouts_of syntax.decls) n type a t.apart (element_by t.which (stack_place c t.stack)) word ∙ ap (option_map (in_element t.apart (element_by t.which (stack_place c t.stack)))) e),
    )

  fixed_finds : (found : Referred) (step : Step) (t : Seat) → HereAt None found (Some t) → Further found step (meant None (spot_behind (layouts_of syntax.decls) step (spot None t)))
  fixed_finds found step t here = by (step_from (layouts_of syntax.decls) step t) refl where
    by : (o : Option Seat) → step_from (layouts_of syntax.decls) step t ≡ o → Further found step (meant None (spot_with None o))
    by None e = tt
    by (Some u) e = (tt, (here.0, here_further found.reference t u step here.1 e))

  told_finds : (found : Referred) (step : Step) (n : ℕ) (form : Form) (a : Start) (owner : Option ℕ) (t : Told) → IsPart form → HereAt None found (seat_now c (spot (Some t) (record { depth = n; form = form; start = a; owner = owner }))) → Further found step (meant None (spot_behind (layouts_of syntax.decls) step (spot (Some t) (record { depth = n; form = form; start = a; owner = owner }))))
  told_finds found (to_member word) n (slot_form of) a owner t lone here = tt
  told_finds found (to_element i) n (slot_form of) a owner t lone here = tt
  told_finds found (to_element i) n (header_form type) a owner t lone here = tt
  told_finds found (to_member word) n (header_form type) a owner t lone here =
      by (stepped_seat (layouts_of syntax.decls) n (header_form type) a (to_member word)) refl (field_part a.header n (fields_in (layouts_of syntax.decls) type) a word) where
        by : (o : Option Seat) → stepped_seat (layouts_of syntax.decls) n (header_form type) a (to_member word) ≡ o → IfSome o (λ u. IsPart u.form) → Further found (to_member word) (meant None (spot_with (Some t) o))
        by None e part = tt
        by (Some u) e part = (part, told_further found n type a owner t word u e here)
  told_finds found step n (stack_form type size) a owner t lone here = absurd lone
  told_finds found step n (struct_form type) a owner t lone here = absurd lone
  told_finds found step n no_form a owner t lone here = absurd lone

  step_finds : (found : Referred) (step : Step) (x : Meant) → Finds found x → Further found step (behind_meant (spot_behind (layouts_of syntax.decls) step) (Some x))
  step_finds found step x h = by x.slice x.spot.seat x.spot.told h.0 h.1 where
    by : (cut : Option Slice) (t : Seat) (told : Option Told) → Lone t.form told → HereAt cut found (seat_now c (spot told t)) → Further found step (behind_meant (spot_behind (layouts_of syntax.decls) step) (Some (record { spot = spot told t; slice = cut })))
    by (Some s) t told lone here = tt
    by None t None lone here = fixed_finds found step t here
    by None t (Some told) lone here = told_finds found step t.depth t.form t.start t.owner told lone here

  -- the element that the place of a stack tells

  raised_is : raised StackOutOfBounds m ≡ stopped_by StackOutOfBounds m
  raised_is = ap (λ (t : Bool). cond t m (stopped_by StackOutOfBounds m)) (ap is_some runs)

  -- the stack itself
  stack_read : (found : Referred) (t : Seat) → found.moment ≡ m → IsAt syntax who found.reference None t → read found.moment.frame found.reference ≡ value_from (layouts_of syntax.decls) c t.depth t.form t.start
  stack_read found t same at =
      let r = found.reference in
      ap (λ (n : Moment). read n.frame r) same
      ∙ (ap (λ (f : Frame). read f r) frame
      ∙ (ap (λ (cut : Option Slice). within_slice cut (place_value (frame_in who (numbered16 syntax c)) r)) at.cuts
      ∙ (meant_read who (numbered16 syntax c) r.owner r.steps r.slice at.part at.means ∙ part_read syntax c at.part t is.layout at.seat)))

  element_finds : (found : Referred) (n : ℕ) (type : Name) (size : ℕ) (a : Start) (owner : Option ℕ) (word : Name) (kind : Name) (many : ℕ) → HereAt None found (Some (record { depth = n; form = stack_form type size; start = a; owner = owner })) → HereAt None (member_reference (stack kind many) word found) (seat_now c (spot (Some (told_in (length (fields_in (layouts_of syntax.decls) type)) (which_of word) a.stack)) (seat n (header_form type) a)))
  element_finds found n type size a owner word kind many here = by (is_past which place (stack_size c a.stack)) refl where
    which : Which
    which = which_of word

    place : ℕ
    place = stack_place c a.stack

    fields : ℕ
    fields = length (fields_in (layouts_of syntax.decls) type)

    stack_at : Seat
    stack_at = record { depth = n; form = stack_form type size; start = a; owner = owner }

    v : Value
    v = read found.moment.frame found.reference

    v_is : read found.moment.frame found.reference ≡ a_stack (stack_place c a.stack) (element_values (fields_in (layouts_of syntax.decls) type) c size a)
    v_is = stack_read found (record { depth = n; form = stack_form type size; start = a; owner = owner }) here.0 here.1.at

    place_is : place_in (read found.moment.frame found.reference) ≡ stack_place c a.stack
    place_is = ap place_in v_is

    size_is : stack_size c a.stack ≡ size
    size_is = here.1.stands.wide.0

    count_is : length (elements_in (read found.moment.frame found.reference)) ≡ stack_size c a.stack
    count_is = ap (λ (x : Value). length (elements_in x)) v_is ∙ (elements_count (fields_in (layouts_of syntax.decls) type) c size a ∙ sym size_is)

    beyond : is_beyond word (place_in (read found.moment.frame found.reference)) (length (elements_in (read found.moment.frame found.reference))) ≡ is_past (which_of word) (stack_place c a.stack) (stack_size c a.stack)
    beyond =
        ap (λ (p : ℕ). is_beyond word p (length (elements_in (read found.moment.frame found.reference)))) place_is
        ∙ (ap (λ (k : ℕ). is_beyond word (stack_place c a.stack) k) count_is ∙ sym (told_past word (stack_place c a.stack) (stack_size c a.stack)))

    number_is : element_by (which_of word) (stack_place c a.stack) ≡ element_by16 word (place_in (read found.moment.frame found.reference))
    number_is = told_number word (stack_place c a.stack) ∙ ap (element_by16 word) (sym place_is)

    bounded_is : (past : Bool) → is_past (which_of word) (stack_place c a.stack) (stack_size c a.stack) ≡ past → bounded word (read found.moment.frame found.reference) found.moment ≡ cond past (raised StackOutOfBounds found.moment) found.moment
    bounded_is past e = ap (λ (t : Bool). cond t (raised StackOutOfBounds found.moment) found.moment) (beyond ∙ e)

    by : (past : Bool) → is_past (which_of word) (stack_place c a.stack) (stack_size c a.stack) ≡ past → HereAt None (member_reference (stack kind many) word found) (cond past None (Some (in_element (length (fields_in (layouts_of syntax.decls) type)) (element_by (which_of word) (stack_place c a.stack)) (seat n (header_form type) a))))
    by true e = bounded_is true e ∙ (ap (raised StackOutOfBounds) here.0 ∙ raised_is)
    by false e =
        let lt : element_by (which_of word) (stack_place c a.stack) < size =
        not_past (which_of word) (stack_place c a.stack) size (subst (λ (k : ℕ). stack_place c a.stack ≤ k) size_is (is.whole.within a.stack)) (subst (λ (k : ℕ). is_past (which_of word) (stack_place c a.stack) k ≡ false) size_is e) in (
          bounded_is false e ∙ here.0,
          subst (λ (k : ℕ). Here syntax c who (stepped found.reference (to_element k)) None (in_element (length (fields_in (layouts_of syntax.decls) type)) (element_by (which_of word) (stack_place c a.stack)) (seat n (header_form type) a))) number_is
              (here_further found.reference (record { depth = n; form = stack_form type size; start = a; owner = owner }) (in_element (length (fields_in (layouts_of syntax.decls) type)) (element_by (which_of word) (stack_place c a.stack)) (seat n (header_form type) a)) (to_element (element_by (which_of word) (stack_place c a.stack))) here.1
              (element_at n type (length (fields_in (layouts_of syntax.decls) type)) size a (element_by (which_of word) (stack_place c a.stack)) lt)),
        )

  stack_finds : (found : Referred) (word : Name) (kind : Name) (many : ℕ) (x : Meant) → Finds found x → IfSome (behind_meant (told_spot (layouts_of syntax.decls) (which_of word)) (Some x)) (Finds (member_reference (stack kind many) word found))
  stack_finds found word kind many x h = by x.slice x.spot.seat.depth x.spot.seat.form x.spot.seat.start x.spot.seat.owner x.spot.told h.1 where
    by : (cut : Option Slice) (n : ℕ) (form : Form) (a : Start) (owner : Option ℕ) (told : Option Told) → HereAt cut found (seat_now c (spot told (record { depth = n; form = form; start = a; owner = owner }))) → IfSome (behind_meant (told_spot (layouts_of syntax.decls) (which_of word)) (Some (record { spot = spot told (record { depth = n; form = form; start = a; owner = owner }); slice = cut }))) (Finds (member_reference (stack kind many) word found))
    by (Some s) n form a owner told here = tt
    by None n (slot_form of) a owner told here = tt
    by None n (header_form type) a owner told here = tt
    by None n (struct_form type) a owner told here = tt
    by None n no_form a owner told here = tt
    by None n (stack_form type size) a owner (Some t) here = tt
    by None n (stack_form type zero) a owner None here = tt
    by None n (stack_form type (suc size)) a owner None here = (tt, element_finds found n type (suc size) a owner word kind many here)

  -- what is found of an l-value, of its parts

  of_part : (further : Spot → Option Spot) (o : Option Meant) (found next : Referred) → ((x : Meant) → Finds found x → IfSome (behind_meant further (Some x)) (Finds next)) → IfSome o (Finds found) → IfSome (behind_meant further o) (Finds next)
  of_part further None found next each h = tt
  of_part further (Some x) found next each h = each x h

  part_finds : (o : Option Meant) (found : Referred) (step : Step) → IfSome o (Finds found) → Further found step (behind_meant (spot_behind (layouts_of syntax.decls) step) o)
  part_finds o found step h = of_part (spot_behind (layouts_of syntax.decls) step) o found (referred (stepped found.reference step) found.moment) (λ x g. step_finds found step x g) h

  member_finds : (k : Kind) (word : Name) (o : Option Meant) (found : Referred) → IfSome o (Finds found) → IfSome (member_meant (layouts_of syntax.decls) k word o) (Finds (member_reference k word found))
  member_finds (stack kind many) word o found h = of_part (told_spot (layouts_of syntax.decls) (which_of word)) o found (member_reference (stack kind many) word found) (λ x g. stack_finds found word kind many x g) h
  member_finds (bits width) word o found h = part_finds o found (to_member word) h
  member_finds unsized word o found h = part_finds o found (to_member word) h
  member_finds boolean word o found h = part_finds o found (to_member word) h
  member_finds error_code word o found h = part_finds o found (to_member word) h
  member_finds (header type) word o found h = part_finds o found (to_member word) h
  member_finds (struct type) word o found h = part_finds o found (to_member word) h
  member_finds packet_in word o found h = part_finds o found (to_member word) h
  member_finds packet_out word o found h = part_finds o found (to_member word) h
  member_finds errors word o found h = part_finds o found (to_member word) h
  member_finds (enumeration of) word o found h = part_finds o found (to_member word) h
  member_finds (one_of of) word o found h = part_finds o found (to_member word) h
  member_finds table word o found h = part_finds o found (to_member word) h
  member_finds applied word o found h = part_finds o found (to_member word) h
  member_finds (object of) word o found h = part_finds o found (to_member word) h
  member_finds items word o found h = part_finds o found (to_member word) h
  member_finds nothing word o found h = part_finds o found (to_member word) h
  member_finds unknown word o found h = part_finds o found (to_member word) h

  cut_finds : (o : Option Meant) (found : Referred) (s : Slice) → IfSome o (Finds found) → IfSome (slice_meant s o) (Finds (referred (sliced_to found.reference s) found.moment))
  cut_finds None found s h = tt
  cut_finds (Some x) found s h = (h.0, by (seat_now c x.spot) h.1) where
    by : (o : Option Seat) → HereAt x.slice found o → HereAt (Some (cut_to s x.slice)) (referred (sliced_to found.reference s) found.moment) o
    by None here = here
    by (Some t) here = (
      here.0,
      record {
        at = record { part = here.1.at.part; cuts = ap (λ (cut : Option Slice). Some (cut_to s cut)) here.1.at.cuts; means = here.1.at.means; seat = here.1.at.seat };
        stands = here.1.stands;
      },
    )

  module _ (s : Scope) (layouts : s.layouts ≡ layouts_of syntax.decls) (kinds : KindsNarrow (frame_kinds syntax)) where
    abbrev seats : List NamedSeat
    seats = seats_in syntax b.roots who

    name_finds : (text : Name) → IfSome (meant None (spot_with None (seat_of_name (seats_in syntax b.roots who) text))) (Finds (referred (named b m.frame text) m))
    name_finds text =
        by (seat_of_name (seats_in syntax b.roots who) text)
        (both_some (IsAt syntax who (named b (frame_in who (numbered16 syntax c)) text) None) (At c (layouts_of syntax.decls) (read (frame_in who (numbered16 syntax c)) (named b (frame_in who (numbered16 syntax c)) text))) (seat_of_name (seats_in syntax b.roots who) text)
        (name_meant syntax (numbered16 syntax c) b who text) (name_at syntax c (quiet_world b) who text is.layout kinds)) where
          by : (o : Option Seat) → IfSome o (λ t. IsAt syntax who (named b (frame_in who (numbered16 syntax c)) text) None t × At c (layouts_of syntax.decls) (read (frame_in who (numbered16 syntax c)) (named b (frame_in who (numbered16 syntax c)) text)) t) → IfSome (meant None (spot_with None o)) (Finds (referred (named b m.frame text) m))
          by None h = tt
          by (Some t) h =
              let at : IsAt syntax who (named b m.frame text) None t = subst (λ (f : Frame). IsAt syntax who (named b f text) None t) (sym frame) h.0 in
              (tt, (refl, record { at = at; stands = h.1.1 }))

    finds : (e : Exp16) → IfSome (meant_by s (seats_in syntax b.roots who) e) (Finds (reference_of b s e m))
    finds (name text) = name_finds text
    finds (member e word) =
        subst (λ (l : List TypeLayout). IfSome (member_meant l (kind_of s e) word (meant_by s (seats_in syntax b.roots who) e)) (Finds (member_reference (kind_of s e) word (reference_of b s e m)))) (sym layouts)
        (member_finds (kind_of s e) word (meant_by s (seats_in syntax b.roots who) e) (reference_of b s e m) (finds e))
    finds (index e at) =
        subst (λ (l : List TypeLayout). IfSome (behind_meant (spot_behind l (to_element at.value)) (meant_by s (seats_in syntax b.roots who) e)) (Finds (referred (stepped (reference_of b s e m).reference (to_element at.value)) (reference_of b s e m).moment))) (sym layouts)
        (part_finds (meant_by s (seats_in syntax b.roots who) e) (reference_of b s e m) (to_element at.value) (finds e))
    finds (slice e high low) = cut_finds (meant_by s (seats_in syntax b.roots who) e) (reference_of b s e m) (slice_of high low) (finds e)
    finds (literal n) = tt
    finds (truth holds) = tt
    finds error = tt
    finds (call g given) = tt
    finds (lookahead e to given) = tt
    finds (cast to e) = tt
    finds (unary operator e) = tt
    finds (binary operator x y) = tt
    finds (choice d x y) = tt
    finds (parenthesized e) = tt
    finds no_arguments = tt
    finds (argument before last) = tt
    finds (listed es) = tt

    all_found : (o : Option Meant) (found : Referred) → IfSome o (Finds found) → IfSome o (λ x. IsFound syntax who c x found m)
    all_found None found h = tt
    all_found (Some x) found h = by (seat_now c x.spot) h.1 where
      by : (o : Option Seat) → HereAt x.slice found o → FoundAt syntax who x.slice found m o
      by None here = here
      by (Some t) here = (here.0, here.1.at)

    pub place_found : (e : Exp16) → IfSome (meant_by s (seats_in syntax b.roots who) e) (λ x. IsFound syntax who c x (reference_of b s e m) m)
    place_found e = all_found (meant_by s (seats_in syntax b.roots who) e) (reference_of b s e m) (finds e)

pub places_found : (syntax : Syntax16) (c : Cells) (b : Surroundings) (s : Scope) (who : InScope) (m : Moment) (e : Exp16) → BreaksNone syntax program_rules → IsFrameOf syntax c → s.layouts ≡ layouts_of syntax.decls → m.frame ≡ frame_in who (numbered16 syntax c) → m.stopped ≡ None → IfSome (meant_by s (seats_in syntax b.roots who) e) (λ x. IsFound syntax who c x (reference_of b s e m) m)
places_found syntax c b s who m e keeps is layouts frame runs =
    let accepted = accepted_narrow syntax keeps in
    place_found syntax c b who m is accepted.0 frame runs s layouts accepted.2 e
