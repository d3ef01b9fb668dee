-- The seat of an l-value is of the form of its kind.
use Rattle.std.proofs.Common.{◌≡◌, inl, inr, ℕ, zero, suc, Bool, true, false, cond, Option, Some, None, IfSome, List, [], ◌∷◌, length, refl, sym, subst}
use Rattle.std.specs.Str.{bytes_eq}
use Rattle.p416_syntax.specs.Tree.{Exp16, literal, truth, error, name, member, index, slice, call, lookahead, cast, unary, binary, choice, parenthesized, no_arguments, argument, listed}
use Rattle.p416_syntax.specs.Names.{Name, has_name}
use Rattle.p416_syntax.specs.Kinds.{Enumeration, Kind, bits, unsized, boolean, error_code, header, stack, struct, packet_in, packet_out, errors, enumeration, one_of, table, applied, object, items, nothing, unknown}
use Rattle.p416_syntax.specs.Scopes.{Layout, FieldKind, fields_in, Sort, a_type, a_value, an_enumeration, a_function, an_object, an_action, a_table, a_state, a_block, undeclared, Scope, sort_of}
use Rattle.p416_syntax.specs.Expressions.{field_kind_in, sort_kind, known_kind, member_kind, element_kind, kind_of}
use Rattle.v1_core.specs.Values.{Step, to_member, to_element, Slice}
use Rattle.v1_core.specs.Expressions.{slice_of}
use Rattle.v1_core.specs.Seats.{Content, some_bits, a_truth, an_error, Form, slot_form, stack_form, struct_form, no_form, form_of, Start, moved, behind, Seat, seat, member_seat, field_form, field_seat, element_seat, stepped_seat}
use Rattle.v1_core.proofs.Reading.{by_truth}
use Rattle.v1_ready_forms.specs.Named.{NamedSeat, seat_of_name}
use Rattle.v1_ready_forms.specs.Ways.{which_of}
use Rattle.v1_ready_forms.specs.Spots.{Told, Spot, spot_with, spot_behind, told_in, told_spot}
use Rattle.v1_core.specs.declared.node.Which.{Which}
use Rattle.v1_ready_laws.specs.Rules.{SortSeated, NamesSeated}
use Rattle.v1_place_laws.specs.Places.{Meant, meant, behind_meant, slice_meant, member_meant, meant_by}
use Rattle.p416_syntax.specs.BuiltIn.{members_of}
use Rattle.std.specs.Prelude.{codes}
use Rattle.v1_value_laws.specs.Kinds.{IsBits, FieldsBits, KindFine, SortFine, Fine, IsUnformed, FormIs}

module _ (types : List Layout) (members : (type word : Name) → KindFine types (known_kind (field_kind_in (fields_in types type) word))) where
  abbrev pub Is : Kind → Option Seat → Type 0
  Is k o = IfSome o (λ u. FormIs types k u.form)

  abbrev pub SpotIs : Kind → Option Spot → Type 0
  SpotIs k o = IfSome o (λ x. FormIs types k x.seat.form)

  pub with_is : (k : Kind) (told : Option Told) (o : Option Seat) → Is k o → SpotIs k (spot_with told o)
  with_is k told None h = tt
  with_is k told (Some u) h = h

  bits_form : (k : Kind) → IsBits k → field_form (record { called = []; kind = k }) ≡ form_of k
  bits_form (bits width) is = refl
  bits_form unsized is = absurd is
  bits_form boolean is = absurd is
  bits_form error_code is = absurd is
  bits_form (header type) is = absurd is
  bits_form (stack type size) is = absurd is
  bits_form (struct type) is = absurd is
  bits_form packet_in is = absurd is
  bits_form packet_out is = absurd is
  bits_form errors is = absurd is
  bits_form (enumeration enum) is = absurd is
  bits_form (one_of enum) is = absurd is
  bits_form table is = absurd is
  bits_form applied is = absurd is
  bits_form (object kind) is = absurd is
  bits_form items is = absurd is
  bits_form nothing is = absurd is
  bits_form unknown is = absurd is

  bits_fine : (k : Kind) → IsBits k → KindFine types k
  bits_fine (bits width) is = tt
  bits_fine unsized is = absurd is
  bits_fine boolean is = absurd is
  bits_fine error_code is = absurd is
  bits_fine (header type) is = absurd is
  bits_fine (stack type size) is = absurd is
  bits_fine (struct type) is = absurd is
  bits_fine packet_in is = absurd is
  bits_fine packet_out is = absurd is
  bits_fine errors is = absurd is
  bits_fine (enumeration enum) is = absurd is
  bits_fine (one_of enum) is = absurd is
  bits_fine table is = absurd is
  bits_fine applied is = absurd is
  bits_fine (object kind) is = absurd is
  bits_fine items is = absurd is
  bits_fine nothing is = absurd is
  bits_fine unknown is = absurd is

  field_is : (owner n : ℕ) (fields : List FieldKind) (b : Start) (word : Name) → FieldsBits fields → Is (known_kind (field_kind_in fields word)) (field_seat owner n fields b word)
  field_is owner n [] b word fine = tt
  field_is owner n (f ∷ fields) b word fine =
      by_truth (λ (same : Bool). Is (known_kind (cond same (Some f.kind) (field_kind_in fields word))) (cond same (Some (record { depth = n; form = field_form f; start = b; owner = Some owner })) (field_seat owner n fields (moved b 1 0 0) word)))
      (inr (bits_form f.kind fine.0, bits_fine f.kind fine.0)) (field_is owner n fields (moved b 1 0 0) word fine.1) (bytes_eq f.called word)

  member_at : (n : ℕ) (fields : List FieldKind) (b : Start) (word : Name) → KindFine types (known_kind (field_kind_in fields word)) → Is (known_kind (field_kind_in fields word)) (member_seat (λ k s. behind types n k s) n fields b word)
  member_at n [] b word fine = tt
  member_at n (f ∷ fields) b word fine = by (bytes_eq f.called word) fine (λ g. member_at n fields (behind types n (form_of f.kind) b) word g) where
    by : (same : Bool) → KindFine types (known_kind (cond same (Some f.kind) (field_kind_in fields word))) → (KindFine types (known_kind (field_kind_in fields word)) → Is (known_kind (field_kind_in fields word)) (member_seat (λ k s. behind types n k s) n fields (behind types n (form_of f.kind) b) word)) → Is (known_kind (cond same (Some f.kind) (field_kind_in fields word))) (cond same (Some (seat n (form_of f.kind) b)) (member_seat (λ k s. behind types n k s) n fields (behind types n (form_of f.kind) b) word))
    by true fine rest = inr (refl, fine)
    by false fine rest = rest fine

  element_is : (n : ℕ) (type : Name) (fields size : ℕ) (b : Start) (number : ℕ) → FieldsBits (fields_in types type) → Is (header type) (element_seat n type fields size b number)
  element_is n type fields zero b number fine = tt
  element_is n type fields (suc size) b zero fine = inr (refl, fine)
  element_is n type fields (suc size) b (suc number) fine = element_is n type fields size (moved b fields 1 0) number fine

  -- a member of what is of a kind that has none stands nowhere
  none_at : (k j : Kind) (step : Step) (n : ℕ) (b : Start) (form : Form) → form ≡ no_form → Is j (stepped_seat types n form b step)
  none_at k j step n b form is = subst (λ (f : Form). Is j (stepped_seat types n f b step)) (sym is) tt

  slot_none : (j : Kind) (step : Step) (n : ℕ) (b : Start) (form : Form) (of : Content) → form ≡ slot_form of → Is j (stepped_seat types n form b step)
  slot_none j step n b form of is = subst (λ (f : Form). Is j (stepped_seat types n f b step)) (sym is) tt

  anything : (j : Kind) → IsUnformed j → (o : Option Seat) → Is j o
  anything j un None = tt
  anything j un (Some u) = inl un

  among_unformed : (enum : Enumeration) (t : Bool) → IsUnformed (known_kind (cond t (Some (one_of enum)) None))
  among_unformed enum true = tt
  among_unformed enum false = tt

  pub member_is : (k : Kind) (word : Name) (x : Seat) → FormIs types k x.form → Is (known_kind (member_kind types k word)) (stepped_seat types x.depth x.form x.start (to_member word))
  member_is (header type) word x (inl e) = absurd e
  member_is (header type) word x (inr h) = subst (λ (f : Form). Is (known_kind (field_kind_in (fields_in types type) word)) (stepped_seat types x.depth f x.start (to_member word))) (sym h.0) (field_is x.start.header x.depth (fields_in types type) x.start word h.1)
  member_is (struct type) word x (inl e) = absurd e
  member_is (struct type) word x (inr h) = subst (λ (f : Form). Is (known_kind (field_kind_in (fields_in types type) word)) (stepped_seat types x.depth f x.start (to_member word))) (sym h.0) (by x.depth) where
    by : (n : ℕ) → Is (known_kind (field_kind_in (fields_in types type) word)) (stepped_seat types n (struct_form type) x.start (to_member word))
    by zero = tt
    by (suc n) = member_at n (fields_in types type) x.start word (members type word)
  member_is (stack type size) word x (inl e) = absurd e
  member_is (stack type size) word x (inr h) = subst (λ (f : Form). Is (known_kind (member_kind types (stack type size) word)) (stepped_seat types x.depth f x.start (to_member word))) (sym h.0) tt
  member_is unknown word x h = anything unknown tt (stepped_seat types x.depth x.form x.start (to_member word))
  member_is (bits width) word x (inl e) = absurd e
  member_is (bits width) word x (inr h) = slot_none (known_kind (member_kind types (bits width) word)) (to_member word) x.depth x.start x.form (some_bits width) h.0
  member_is unsized word x (inl e) = absurd e
  member_is unsized word x (inr h) = none_at unsized (known_kind (member_kind types unsized word)) (to_member word) x.depth x.start x.form h.0
  member_is boolean word x (inl e) = absurd e
  member_is boolean word x (inr h) = slot_none (known_kind (member_kind types boolean word)) (to_member word) x.depth x.start x.form a_truth h.0
  member_is error_code word x (inl e) = absurd e
  member_is error_code word x (inr h) = slot_none (known_kind (member_kind types error_code word)) (to_member word) x.depth x.start x.form an_error h.0
  member_is packet_in word x (inl e) = absurd e
  member_is packet_in word x (inr h) = none_at packet_in (known_kind (member_kind types packet_in word)) (to_member word) x.depth x.start x.form h.0
  member_is packet_out word x (inl e) = absurd e
  member_is packet_out word x (inr h) = none_at packet_out (known_kind (member_kind types packet_out word)) (to_member word) x.depth x.start x.form h.0
  member_is errors word x (inl e) = absurd e
  member_is errors word x (inr h) = none_at errors (known_kind (member_kind types errors word)) (to_member word) x.depth x.start x.form h.0
  member_is (enumeration enum) word x h = anything (known_kind (member_kind types (enumeration enum) word)) (among_unformed enum (has_name (members_of enum) word)) (stepped_seat types x.depth x.form x.start (to_member word))
  member_is (one_of enum) word x h = anything (known_kind (member_kind types (one_of enum) word)) tt (stepped_seat types x.depth x.form x.start (to_member word))
  member_is table word x h = anything (known_kind (member_kind types table word)) tt (stepped_seat types x.depth x.form x.start (to_member word))
  member_is applied word x (inl e) = absurd e
  member_is applied word x (inr h) = none_at applied (known_kind (member_kind types applied word)) (to_member word) x.depth x.start x.form h.0
  member_is (object kind) word x h = anything (known_kind (member_kind types (object kind) word)) tt (stepped_seat types x.depth x.form x.start (to_member word))
  member_is items word x (inl e) = absurd e
  member_is items word x (inr h) = none_at items (known_kind (member_kind types items word)) (to_member word) x.depth x.start x.form h.0
  member_is nothing word x (inl e) = absurd e
  member_is nothing word x (inr h) = none_at nothing (known_kind (member_kind types nothing word)) (to_member word) x.depth x.start x.form h.0

  pub index_is : (k : Kind) (number : ℕ) (x : Seat) → FormIs types k x.form → Is (element_kind k) (stepped_seat types x.depth x.form x.start (to_element number))
  index_is (stack type size) number x (inl e) = absurd e
  index_is (stack type size) number x (inr h) = subst (λ (f : Form). Is (header type) (stepped_seat types x.depth f x.start (to_element number))) (sym h.0) (element_is x.depth type (length (fields_in types type)) size x.start number h.1)
  index_is (bits width) number x h = anything unknown tt (stepped_seat types x.depth x.form x.start (to_element number))
  index_is unsized number x h = anything unknown tt (stepped_seat types x.depth x.form x.start (to_element number))
  index_is boolean number x h = anything unknown tt (stepped_seat types x.depth x.form x.start (to_element number))
  index_is error_code number x h = anything unknown tt (stepped_seat types x.depth x.form x.start (to_element number))
  index_is (header type) number x h = anything unknown tt (stepped_seat types x.depth x.form x.start (to_element number))
  index_is (struct type) number x h = anything unknown tt (stepped_seat types x.depth x.form x.start (to_element number))
  index_is packet_in number x h = anything unknown tt (stepped_seat types x.depth x.form x.start (to_element number))
  index_is packet_out number x h = anything unknown tt (stepped_seat types x.depth x.form x.start (to_element number))
  index_is errors number x h = anything unknown tt (stepped_seat types x.depth x.form x.start (to_element number))
  index_is (enumeration enum) number x h = anything unknown tt (stepped_seat types x.depth x.form x.start (to_element number))
  index_is (one_of enum) number x h = anything unknown tt (stepped_seat types x.depth x.form x.start (to_element number))
  index_is table number x h = anything unknown tt (stepped_seat types x.depth x.form x.start (to_element number))
  index_is applied number x h = anything unknown tt (stepped_seat types x.depth x.form x.start (to_element number))
  index_is (object kind) number x h = anything unknown tt (stepped_seat types x.depth x.form x.start (to_element number))
  index_is items number x h = anything unknown tt (stepped_seat types x.depth x.form x.start (to_element number))
  index_is nothing number x h = anything unknown tt (stepped_seat types x.depth x.form x.start (to_element number))
  index_is unknown number x h = anything unknown tt (stepped_seat types x.depth x.form x.start (to_element number))

  -- the element that a stack tells

  stack_told : (type : Name) (size : ℕ) (which : Which) (t : Seat) (told : Option Told) → t.form ≡ stack_form type size → FieldsBits (fields_in types type) → SpotIs (header type) (told_spot types which (record { seat = t; told = told }))
  stack_told type size which t None is fine =
      subst (λ (f : Form). SpotIs (header type) (told_spot types which (record { seat = record { depth = t.depth; form = f; start = t.start; owner = t.owner }; told = None }))) (sym is)
      (with_is (header type) (Some (told_in (length (fields_in types type)) which t.start.stack)) (element_seat t.depth type (length (fields_in types type)) size t.start 0) (element_is t.depth type (length (fields_in types type)) size t.start 0 fine))
  stack_told type size which t (Some d) is fine =
      subst (λ (f : Form). SpotIs (header type) (told_spot types which (record { seat = record { depth = t.depth; form = f; start = t.start; owner = t.owner }; told = Some d }))) (sym is) tt

  any_spot : (j : Kind) → IsUnformed j → (o : Option Spot) → SpotIs j o
  any_spot j un None = tt
  any_spot j un (Some y) = inl un

  pub told_any : (k : Kind) (which : Which) (x : Spot) → FormIs types k x.seat.form → SpotIs (element_kind k) (told_spot types which x)
  told_any (stack type size) which x (inl e) = absurd e
  told_any (stack type size) which x (inr h) = stack_told type size which x.seat x.told h.0 h.1
  told_any (bits width) which x h = any_spot unknown tt (told_spot types which x)
  told_any unsized which x h = any_spot unknown tt (told_spot types which x)
  told_any boolean which x h = any_spot unknown tt (told_spot types which x)
  told_any error_code which x h = any_spot unknown tt (told_spot types which x)
  told_any (header type) which x h = any_spot unknown tt (told_spot types which x)
  told_any (struct type) which x h = any_spot unknown tt (told_spot types which x)
  told_any packet_in which x h = any_spot unknown tt (told_spot types which x)
  told_any packet_out which x h = any_spot unknown tt (told_spot types which x)
  told_any errors which x h = any_spot unknown tt (told_spot types which x)
  told_any (enumeration enum) which x h = any_spot unknown tt (told_spot types which x)
  told_any (one_of enum) which x h = any_spot unknown tt (told_spot types which x)
  told_any table which x h = any_spot unknown tt (told_spot types which x)
  told_any applied which x h = any_spot unknown tt (told_spot types which x)
  told_any (object kind) which x h = any_spot unknown tt (told_spot types which x)
  told_any items which x h = any_spot unknown tt (told_spot types which x)
  told_any nothing which x h = any_spot unknown tt (told_spot types which x)
  told_any unknown which x h = any_spot unknown tt (told_spot types which x)

  told_is : (type : Name) (size : ℕ) (word : Name) (which : Which) (x : Spot) → FormIs types (stack type size) x.seat.form → SpotIs (known_kind (member_kind types (stack type size) word)) (told_spot types which x)
  told_is type size word which x h = known (has_name (codes "next" ∷ codes "last" ∷ []) word) (told_spot types which x) (told_any (stack type size) which x h) where
    known : (t : Bool) (o : Option Spot) → SpotIs (header type) o → SpotIs (known_kind (cond t (Some (header type)) None)) o
    known true o g = g
    known false None g = tt
    known false (Some y) g = inl tt

  abbrev MeantIs : Kind → Option Meant → Type 0
  MeantIs k o = IfSome o (λ x. x.slice ≡ None → FormIs types k x.spot.seat.form)

  meant_is : (k : Kind) (o : Option Spot) → SpotIs k o → MeantIs k (meant None o)
  meant_is k None h = tt
  meant_is k (Some x) h = λ none. h

  further_is : (j k : Kind) (further : Spot → Option Spot) → ((x : Spot) → FormIs types k x.seat.form → SpotIs j (further x)) → (o : Option Meant) → MeantIs k o → MeantIs j (behind_meant further o)
  further_is j k further f None h = tt
  further_is j k further f (Some x) h = by x.slice h where
    by : (cut : Option Slice) → (cut ≡ None → FormIs types k x.spot.seat.form) → MeantIs j (behind_meant further (Some (record { spot = x.spot; slice = cut })))
    by None g = meant_is j (further x.spot) (f x.spot (g refl))
    by (Some s) g = tt

  cut_is : (k : Kind) (s : Slice) (o : Option Meant) → MeantIs k (slice_meant s o)
  cut_is k s None = tt
  cut_is k s (Some x) = λ none. absurd (cc none)

  parts_is : (k : Kind) (word : Name) (o : Option Meant) → MeantIs k o → MeantIs (known_kind (member_kind types k word)) (member_meant types k word o)
  parts_is (stack type size) word o h = further_is (known_kind (member_kind types (stack type size) word)) (stack type size) (told_spot types (which_of word)) (λ x f. told_is type size word (which_of word) x f) o h
  parts_is (bits width) word o h = further_is (known_kind (member_kind types (bits width) word)) (bits width) (spot_behind types (to_member word)) (λ x f. with_is (known_kind (member_kind types (bits width) word)) x.told (stepped_seat types x.seat.depth x.seat.form x.seat.start (to_member word)) (member_is (bits width) word x.seat f)) o h
  parts_is unsized word o h = further_is (known_kind (member_kind types unsized word)) unsized (spot_behind types (to_member word)) (λ x f. with_is (known_kind (member_kind types unsized word)) x.told (stepped_seat types x.seat.depth x.seat.form x.seat.start (to_member word)) (member_is unsized word x.seat f)) o h
  parts_is boolean word o h = further_is (known_kind (member_kind types boolean word)) boolean (spot_behind types (to_member word)) (λ x f. with_is (known_kind (member_kind types boolean word)) x.told (stepped_seat types x.seat.depth x.seat.form x.seat.start (to_member word)) (member_is boolean word x.seat f)) o h
  parts_is error_code word o h = further_is (known_kind (member_kind types error_code word)) error_code (spot_behind types (to_member word)) (λ x f. with_is (known_kind (member_kind types error_code word)) x.told (stepped_seat types x.seat.depth x.seat.form x.seat.start (to_member word)) (member_is error_code word x.seat f)) o h
  parts_is (header type) word o h = further_is (known_kind (member_kind types (header type) word)) (header type) (spot_behind types (to_member word)) (λ x f. with_is (known_kind (member_kind types (header type) word)) x.told (stepped_seat types x.seat.depth x.seat.form x.seat.start (to_member word)) (member_is (header type) word x.seat f)) o h
  parts_is (struct type) word o h = further_is (known_kind (member_kind types (struct type) word)) (struct type) (spot_behind types (to_member word)) (λ x f. with_is (known_kind (member_kind types (struct type) word)) x.told (stepped_seat types x.seat.depth x.seat.form x.seat.start (to_member word)) (member_is (struct type) word x.seat f)) o h
  parts_is packet_in word o h = further_is (known_kind (member_kind types packet_in word)) packet_in (spot_behind types (to_member word)) (λ x f. with_is (known_kind (member_kind types packet_in word)) x.told (stepped_seat types x.seat.depth x.seat.form x.seat.start (to_member word)) (member_is packet_in word x.seat f)) o h
  parts_is packet_out word o h = further_is (known_kind (member_kind types packet_out word)) packet_out (spot_behind types (to_member word)) (λ x f. with_is (known_kind (member_kind types packet_out word)) x.told (stepped_seat types x.seat.depth x.seat.form x.seat.start (to_member word)) (member_is packet_out word x.seat f)) o h
  parts_is errors word o h = further_is (known_kind (member_kind types errors word)) errors (spot_behind types (to_member word)) (λ x f. with_is (known_kind (member_kind types errors word)) x.told (stepped_seat types x.seat.depth x.seat.form x.seat.start (to_member word)) (member_is errors word x.seat f)) o h
  parts_is (enumeration enum) word o h = further_is (known_kind (member_kind types (enumeration enum) word)) (enumeration enum) (spot_behind types (to_member word)) (λ x f. with_is (known_kind (member_kind types (enumeration enum) word)) x.told (stepped_seat types x.seat.depth x.seat.form x.seat.start (to_member word)) (member_is (enumeration enum) word x.seat f)) o h
  parts_is (one_of enum) word o h = further_is (known_kind (member_kind types (one_of enum) word)) (one_of enum) (spot_behind types (to_member word)) (λ x f. with_is (known_kind (member_kind types (one_of enum) word)) x.told (stepped_seat types x.seat.depth x.seat.form x.seat.start (to_member word)) (member_is (one_of enum) word x.seat f)) o h
  parts_is table word o h = further_is (known_kind (member_kind types table word)) table (spot_behind types (to_member word)) (λ x f. with_is (known_kind (member_kind types table word)) x.told (stepped_seat types x.seat.depth x.seat.form x.seat.start (to_member word)) (member_is table word x.seat f)) o h
  parts_is applied word o h = further_is (known_kind (member_kind types applied word)) applied (spot_behind types (to_member word)) (λ x f. with_is (known_kind (member_kind types applied word)) x.told (stepped_seat types x.seat.depth x.seat.form x.seat.start (to_member word)) (member_is applied word x.seat f)) o h
  parts_is (object kind) word o h = further_is (known_kind (member_kind types (object kind) word)) (object kind) (spot_behind types (to_member word)) (λ x f. with_is (known_kind (member_kind types (object kind) word)) x.told (stepped_seat types x.seat.depth x.seat.form x.seat.start (to_member word)) (member_is (object kind) word x.seat f)) o h
  parts_is items word o h = further_is (known_kind (member_kind types items word)) items (spot_behind types (to_member word)) (λ x f. with_is (known_kind (member_kind types items word)) x.told (stepped_seat types x.seat.depth x.seat.form x.seat.start (to_member word)) (member_is items word x.seat f)) o h
  parts_is nothing word o h = further_is (known_kind (member_kind types nothing word)) nothing (spot_behind types (to_member word)) (λ x f. with_is (known_kind (member_kind types nothing word)) x.told (stepped_seat types x.seat.depth x.seat.form x.seat.start (to_member word)) (member_is nothing word x.seat f)) o h
  parts_is unknown word o h = further_is (known_kind (member_kind types unknown word)) unknown (spot_behind types (to_member word)) (λ x f. with_is (known_kind (member_kind types unknown word)) x.told (stepped_seat types x.seat.depth x.seat.form x.seat.start (to_member word)) (member_is unknown word x.seat f)) o h

pub sort_form : (types : List Layout) (sort : Sort) (t : Seat) → SortSeated sort (Some t) → SortFine types sort → FormIs types (sort_kind sort) t.form
sort_form types (a_value k can) t seated fine = inr (seated, fine)
sort_form types (a_type k) t seated fine = inl tt
sort_form types (an_enumeration of) t seated fine = inl tt
sort_form types a_function t seated fine = inl tt
sort_form types (an_object of) t seated fine = inl tt
sort_form types (an_action plane handed) t seated fine = inl tt
sort_form types (a_table actions counters) t seated fine = inl tt
sort_form types a_state t seated fine = inl tt
sort_form types a_block t seated fine = inl tt
sort_form types undeclared t seated fine = inl tt

sort_is : (types : List Layout) (sort : Sort) (o : Option Seat) → SortSeated sort o → SortFine types sort → IfSome (meant None (spot_with None o)) (λ x. x.slice ≡ None → FormIs types (sort_kind sort) x.spot.seat.form)
sort_is types sort None seated fine = tt
sort_is types sort (Some t) seated fine = λ none. sort_form types sort t seated fine

pub meant_kind : (s : Scope) (seats : List NamedSeat) (e : Exp16) → Fine s → NamesSeated s seats → IfSome (meant_by s seats e) (λ x. x.slice ≡ None → FormIs s.layouts (kind_of s e) x.spot.seat.form)
meant_kind s seats (name text) fine seated = sort_is s.layouts (sort_of s text) (seat_of_name seats text) (seated text) (fine.names text)
meant_kind s seats (member e word) fine seated = parts_is s.layouts fine.members (kind_of s e) word (meant_by s seats e) (meant_kind s seats e fine seated)
meant_kind s seats (index e at) fine seated =
    further_is s.layouts fine.members (element_kind (kind_of s e)) (kind_of s e) (spot_behind s.layouts (to_element at.value))
    (λ x f. with_is s.layouts fine.members (element_kind (kind_of s e)) x.told (stepped_seat s.layouts x.seat.depth x.seat.form x.seat.start (to_element at.value)) (index_is s.layouts fine.members (kind_of s e) at.value x.seat f))
    (meant_by s seats e) (meant_kind s seats e fine seated)
meant_kind s seats (slice e high low) fine seated = cut_is s.layouts fine.members (kind_of s (slice e high low)) (slice_of high low) (meant_by s seats e)
meant_kind s seats (literal n) fine seated = tt
meant_kind s seats (truth holds) fine seated = tt
meant_kind s seats error fine seated = tt
meant_kind s seats (call e handed) fine seated = tt
meant_kind s seats (lookahead e to handed) fine seated = tt
meant_kind s seats (cast to e) fine seated = tt
meant_kind s seats (unary operator e) fine seated = tt
meant_kind s seats (binary operator a b) fine seated = tt
meant_kind s seats (choice c a b) fine seated = tt
meant_kind s seats (parenthesized e) fine seated = tt
meant_kind s seats no_arguments fine seated = tt
meant_kind s seats (argument before last) fine seated = tt
meant_kind s seats (listed es) fine seated = tt
