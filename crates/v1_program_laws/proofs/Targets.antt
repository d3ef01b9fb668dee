-- What is judged of an expression itself, and what targets of assignments are.
use Rattle.std.proofs.Common.{◌≡◌, inl, inr, ℕ, zero, suc, ◌&&◌, not, Bool, true, false, cond, Option, Some, None, IfSome, List, [], ◌∷◌, length, refl, sym, ap, ◌∙◌, subst}
use Rattle.std.specs.Prelude.{◌-◌, codes, is_none}
use Rattle.std.specs.List.{list_any}
use Rattle.std.specs.Str.{bytes_eq}
use Rattle.p416_syntax.specs.declared.lexeme.Literal16.{Literal16}
use Rattle.p416_syntax.specs.Tree.{Exp16, literal, truth, error, name, member, index, slice, call, lookahead, cast, unary, binary, choice, parenthesized, no_arguments, argument, listed}
use Rattle.p416_syntax.specs.Names.{Name, has_name}
use Rattle.p416_syntax.specs.Kinds.{Kind, bits, unsized, boolean, error_code, header, stack, struct, packet_in, packet_out, errors, enumeration, one_of, table, applied, object, items, nothing, unknown, is_bits, is_plain}
use Rattle.p416_syntax.specs.Scopes.{Layout, FieldKind, fields_in, Sort, a_type, a_value, an_enumeration, a_function, an_object, an_action, a_table, a_state, a_block, undeclared, Scope, sort_of}
use Rattle.p416_syntax.specs.Calls.{Place, target, owner, a_stack, any_bits, Signature, method_signature}
use Rattle.p416_syntax.specs.Expressions.{kind_of, sort_kind, field_kind_in, known_kind, member_kind, element_kind, slice_kind, leaves_width, is_chosen, can_write}
use Rattle.p416_syntax.specs.Uses.{Use, an_expression, a_number, owner_place, uses}
use Rattle.p416_syntax.specs.Unknown.{is_misnamed, is_unknown_member}
use Rattle.p416_syntax.specs.Sizes.{leaves_bits, leaves_size}
use Rattle.p416_syntax.specs.Types.{is_mistyped}
use Rattle.p416_syntax.specs.Writes.{writes_constant}
use Rattle.v1_core.specs.Values.{Slice, to_member, to_element}
use Rattle.v1_core.specs.Expressions.{slice_of}
use Rattle.v1_core.specs.Seats.{Content, some_bits, a_truth, an_error, Form, slot_form, header_form, stack_form, struct_form, no_form, form_of, Start, moved, behind, Seat, seat, member_seat, field_form, field_seat, element_seat, stepped_seat}
use Rattle.v1_core.proofs.Reading.{by_truth}
use Rattle.v1_ready_forms.specs.Named.{NamedSeat, seat_of_name}
use Rattle.v1_ready_forms.specs.Ways.{which_of}
use Rattle.v1_ready_forms.specs.Spots.{Told, Spot, spot_with, spot_behind, told_in, told_spot}
use Rattle.v1_ready_laws.specs.Rules.{SortSeated, NamesSeated}
use Rattle.v1_block_laws.proofs.Tests.{first_false, second_false, not_false, at_end}
use Rattle.v1_place_laws.specs.Places.{Meant, meant, behind_meant, slice_meant, member_meant, meant_by}
use Rattle.v1_value_laws.specs.Kinds.{IsBits, FieldsBits, KindFine, Fine, FormIs}
use Rattle.v1_value_laws.proofs.Formed.{meant_kind}
use Rattle.v1_value_laws.proofs.Taken.{taken}
use Rattle.v1_statement_laws.proofs.Sources.{Composite}
use Rattle.v1_program_laws.specs.SourceLaws.{Headed}

-- the expression itself is judged first
pub own_use : (test : Use → Bool) (s : Scope) (p : Place) (e : Exp16) → list_any test (uses s p e) ≡ false → test (an_expression s p e) ≡ false
own_use test s p (literal n) none = first_false (test (an_expression s p (literal n))) _ none
own_use test s p (truth holds) none = first_false (test (an_expression s p (truth holds))) _ none
own_use test s p error none = first_false (test (an_expression s p error)) _ none
own_use test s p (name text) none = first_false (test (an_expression s p (name text))) _ none
own_use test s p (member e word) none = first_false (test (an_expression s p (member e word))) _ none
own_use test s p (index e at) none = first_false (test (an_expression s p (index e at))) _ none
own_use test s p (slice e high low) none = first_false (test (an_expression s p (slice e high low))) _ none
own_use test s p (call e given) none = first_false (test (an_expression s p (call e given))) _ none
own_use test s p (lookahead e to given) none = first_false (test (an_expression s p (lookahead e to given))) _ none
own_use test s p (cast to e) none = first_false (test (an_expression s p (cast to e))) _ none
own_use test s p (unary operator e) none = first_false (test (an_expression s p (unary operator e))) _ none
own_use test s p (binary operator a d) none = first_false (test (an_expression s p (binary operator a d))) _ none
own_use test s p (choice c a d) none = first_false (test (an_expression s p (choice c a d))) _ none
own_use test s p (parenthesized e) none = first_false (test (an_expression s p (parenthesized e))) _ none
own_use test s p no_arguments none = first_false (test (an_expression s p no_arguments)) _ none
own_use test s p (argument before last) none = first_false (test (an_expression s p (argument before last))) _ none
own_use test s p (listed es) none = first_false (test (an_expression s p (listed es))) _ none

-- and then what stands within it
pub in_member : (test : Use → Bool) (s : Scope) (p : Place) (e : Exp16) (word : Name) → list_any test (uses s p (member e word)) ≡ false → list_any test (uses s (owner_place p (method_signature (kind_of s e) word)) e) ≡ false
in_member test s p e word none = second_false (test (an_expression s p (member e word))) (list_any test (uses s (owner_place p (method_signature (kind_of s e) word)) e)) none

pub in_index : (test : Use → Bool) (s : Scope) (p : Place) (e : Exp16) (at : Literal16) → list_any test (uses s p (index e at)) ≡ false → list_any test (uses s a_stack e) ≡ false
in_index test s p e at none = at_end test (an_expression s p (index e at) ∷ a_number at ∷ []) (uses s a_stack e) none

pub in_slice : (test : Use → Bool) (s : Scope) (p : Place) (e : Exp16) (high low : Literal16) → list_any test (uses s p (slice e high low)) ≡ false → list_any test (uses s any_bits e) ≡ false
in_slice test s p e high low none = at_end test (an_expression s p (slice e high low) ∷ a_number high ∷ a_number low ∷ []) (uses s any_bits e) none

-- places where nothing is called
pub record NotCallee (p : Place) : Type 0 where
  pub within : (signature : Option Signature) → owner_place p signature ≡ owner
  pub named : (s : Scope) (e : Exp16) (word : Name) → is_unknown_member s p e word ≡ (is_none (member_kind s.layouts (kind_of s e) word) && not (is_plain (kind_of s e)))

pub not_target : NotCallee target
not_target = record { within = λ signature. refl; named = λ s e word. refl }

pub not_owner : NotCallee owner
not_owner = record { within = λ signature. refl; named = λ s e word. refl }

pub not_a_stack : NotCallee a_stack
not_a_stack = record { within = λ signature. refl; named = λ s e word. refl }

-- T5: what is written can be
pub written_can : (s : Scope) (e : Exp16) → list_any writes_constant (uses s target e) ≡ false → can_write s e ≡ true
written_can s e none = not_false (can_write s e) (own_use writes_constant s target e none)

-- kinds of forms

pub slot_chosen : (k : Kind) (of : Content) → form_of k ≡ slot_form of → is_chosen k ≡ true
slot_chosen (bits width) of is = refl
slot_chosen unsized of is = absurd (cc is)
slot_chosen boolean of is = refl
slot_chosen error_code of is = refl
slot_chosen (header type) of is = absurd (cc is)
slot_chosen (stack type size) of is = absurd (cc is)
slot_chosen (struct type) of is = absurd (cc is)
slot_chosen packet_in of is = absurd (cc is)
slot_chosen packet_out of is = absurd (cc is)
slot_chosen errors of is = absurd (cc is)
slot_chosen (enumeration enum) of is = absurd (cc is)
slot_chosen (one_of enum) of is = absurd (cc is)
slot_chosen table of is = absurd (cc is)
slot_chosen applied of is = absurd (cc is)
slot_chosen (object obj) of is = absurd (cc is)
slot_chosen items of is = absurd (cc is)
slot_chosen nothing of is = absurd (cc is)
slot_chosen unknown of is = absurd (cc is)

pub headed_composite : (k : Kind) → Headed (form_of k) → Composite k
headed_composite (bits width) h = absurd h
headed_composite unsized h = absurd h
headed_composite boolean h = absurd h
headed_composite error_code h = absurd h
headed_composite (header type) h = tt
headed_composite (stack type size) h = tt
headed_composite (struct type) h = tt
headed_composite packet_in h = absurd h
headed_composite packet_out h = absurd h
headed_composite errors h = absurd h
headed_composite (enumeration enum) h = absurd h
headed_composite (one_of enum) h = absurd h
headed_composite table h = absurd h
headed_composite applied h = absurd h
headed_composite (object obj) h = absurd h
headed_composite items h = absurd h
headed_composite nothing h = absurd h
headed_composite unknown h = absurd h

-- a part of a known kind

bits_field : (f : FieldKind) → IsBits f.kind → field_form f ≡ form_of f.kind
bits_field f is = by f.kind is where
  by : (k : Kind) → IsBits k → field_form (record { called = f.called; kind = k }) ≡ form_of k
  by (bits width) h = refl
  by unsized h = absurd h
  by boolean h = absurd h
  by error_code h = absurd h
  by (header type) h = absurd h
  by (stack type size) h = absurd h
  by (struct type) h = absurd h
  by packet_in h = absurd h
  by packet_out h = absurd h
  by errors h = absurd h
  by (enumeration enum) h = absurd h
  by (one_of enum) h = absurd h
  by table h = absurd h
  by applied h = absurd h
  by (object obj) h = absurd h
  by items h = absurd h
  by nothing h = absurd h
  by unknown h = absurd h

field_formed : (above n : ℕ) (fields : List FieldKind) (a : Start) (word : Name) → FieldsBits fields → IfSome (field_seat above n fields a word) (λ u. u.form ≡ form_of (known_kind (field_kind_in fields word)))
field_formed above n [] a word fine = tt
field_formed above n (f ∷ fields) a word fine =
    by_truth (λ (same : Bool). IfSome (cond same (Some (record { depth = n; form = field_form f; start = a; owner = Some above })) (field_seat above n fields (moved a 1 0 0) word)) (λ u. u.form ≡ form_of (known_kind (cond same (Some f.kind) (field_kind_in fields word)))))
    (bits_field f fine.0) (field_formed above n fields (moved a 1 0 0) word fine.1) (bytes_eq f.called word)

member_formed : (types : List Layout) (n : ℕ) (fields : List FieldKind) (a : Start) (word : Name) → IfSome (member_seat (λ k s. behind types n k s) n fields a word) (λ u. u.form ≡ form_of (known_kind (field_kind_in fields word)))
member_formed types n [] a word = tt
member_formed types n (f ∷ fields) a word =
    by_truth (λ (same : Bool). IfSome (cond same (Some (seat n (form_of f.kind) a)) (member_seat (λ k s. behind types n k s) n fields (behind types n (form_of f.kind) a) word)) (λ u. u.form ≡ form_of (known_kind (cond same (Some f.kind) (field_kind_in fields word)))))
    refl (member_formed types n fields (behind types n (form_of f.kind) a) word) (bytes_eq f.called word)

element_formed : (n : ℕ) (type : Name) (fields size : ℕ) (a : Start) (number : ℕ) → IfSome (element_seat n type fields size a number) (λ u. u.form ≡ header_form type)
element_formed n type fields zero a number = tt
element_formed n type fields (suc size) a zero = refl
element_formed n type fields (suc size) a (suc number) = element_formed n type fields size (moved a fields 1 0) number

-- what is meant, as a whole, where that is a value of the kind
abbrev pub OfForm : Kind → Option Meant → Type 0
OfForm k o = IfSome o (λ x. x.slice ≡ None → x.spot.seat.form ≡ form_of k)

spot_formed : (k : Kind) (told : Option Told) (o : Option Seat) → IfSome o (λ u. u.form ≡ form_of k) → OfForm k (meant None (spot_with told o))
spot_formed k told None h = tt
spot_formed k told (Some u) h = λ whole. h

none_formed : (k : Kind) (told : Option Told) (o : Option Seat) → IfSome o (λ u. ⊥) → OfForm k (meant None (spot_with told o))
none_formed k told None h = tt
none_formed k told (Some u) h = absurd h

further_whole : (j k : Kind) (step : Spot → Option Spot) (o : Option Meant) → ((y : Meant) → y.spot.seat.form ≡ form_of j → o ≡ Some y → y.slice ≡ None → OfForm k (meant None (step y.spot))) → OfForm j o → OfForm k (behind_meant step o)
further_whole j k step None each h = tt
further_whole j k step (Some y) each h = by y.slice refl where
  by : (cut : Option Slice) → y.slice ≡ cut → OfForm k (behind_meant step (Some (record { spot = y.spot; slice = cut })))
  by (Some c) is = tt
  by None is = each y (h is) refl is

further : (j k : Kind) (step : Spot → Option Spot) (o : Option Meant) → ((y : Meant) → y.spot.seat.form ≡ form_of j → o ≡ Some y → OfForm k (meant None (step y.spot))) → OfForm j o → OfForm k (behind_meant step o)
further j k step None each h = tt
further j k step (Some y) each h = by y.slice refl where
  by : (cut : Option Slice) → y.slice ≡ cut → OfForm k (behind_meant step (Some (record { spot = y.spot; slice = cut })))
  by (Some c) is = tt
  by None is = each y (h is) refl

module _ (types : List Layout) where
  no_step : (f : Form) (n : ℕ) (a : Start) (word : Name) → f ≡ no_form → IfSome (stepped_seat types n f a (to_member word)) (λ u. ⊥)
  no_step f n a word is = subst (λ (g : Form). IfSome (stepped_seat types n g a (to_member word)) (λ u. ⊥)) (sym is) tt

  no_slot_step : (f : Form) (of : Content) (n : ℕ) (a : Start) (word : Name) → f ≡ slot_form of → IfSome (stepped_seat types n f a (to_member word)) (λ u. ⊥)
  no_slot_step f of n a word is = subst (λ (g : Form). IfSome (stepped_seat types n g a (to_member word)) (λ u. ⊥)) (sym is) tt

  no_element : (f : Form) (n : ℕ) (a : Start) (i : ℕ) → f ≡ no_form → IfSome (stepped_seat types n f a (to_element i)) (λ u. ⊥)
  no_element f n a i is = subst (λ (g : Form). IfSome (stepped_seat types n g a (to_element i)) (λ u. ⊥)) (sym is) tt

  no_slot_element : (f : Form) (of : Content) (n : ℕ) (a : Start) (i : ℕ) → f ≡ slot_form of → IfSome (stepped_seat types n f a (to_element i)) (λ u. ⊥)
  no_slot_element f of n a i is = subst (λ (g : Form). IfSome (stepped_seat types n g a (to_element i)) (λ u. ⊥)) (sym is) tt

  struct_step : (n : ℕ) (type : Name) (a : Start) (word : Name) → IfSome (stepped_seat types n (struct_form type) a (to_member word)) (λ u. u.form ≡ form_of (known_kind (field_kind_in (fields_in types type) word)))
  struct_step zero type a word = tt
  struct_step (suc n) type a word = member_formed types n (fields_in types type) a word

  struct_element : (n : ℕ) (type : Name) (a : Start) (i : ℕ) → IfSome (stepped_seat types n (struct_form type) a (to_element i)) (λ u. ⊥)
  struct_element zero type a i = tt
  struct_element (suc n) type a i = tt

  -- the member with this word of what is of a kind
  abbrev member_of : Kind → Name → Spot → Option Spot
  member_of (stack type size) word y = told_spot types (which_of word) y
  member_of k word y = spot_behind types (to_member word) y

  member_step : (k : Kind) (word : Name) (y : Meant) → y.spot.seat.form ≡ form_of k → KindFine types k → (is_none (member_kind types k word) && not (is_plain k)) ≡ false → OfForm (known_kind (member_kind types k word)) (meant None (member_of k word y.spot))
  member_step (bits width) word y form fine known = none_formed (known_kind (member_kind types (bits width) word)) y.spot.told (stepped_seat types y.spot.seat.depth y.spot.seat.form y.spot.seat.start (to_member word)) (no_slot_step y.spot.seat.form (some_bits width) y.spot.seat.depth y.spot.seat.start word form)
  member_step unsized word y form fine known = none_formed (known_kind (member_kind types unsized word)) y.spot.told (stepped_seat types y.spot.seat.depth y.spot.seat.form y.spot.seat.start (to_member word)) (no_step y.spot.seat.form y.spot.seat.depth y.spot.seat.start word form)
  member_step boolean word y form fine known = none_formed (known_kind (member_kind types boolean word)) y.spot.told (stepped_seat types y.spot.seat.depth y.spot.seat.form y.spot.seat.start (to_member word)) (no_slot_step y.spot.seat.form a_truth y.spot.seat.depth y.spot.seat.start word form)
  member_step error_code word y form fine known = none_formed (known_kind (member_kind types error_code word)) y.spot.told (stepped_seat types y.spot.seat.depth y.spot.seat.form y.spot.seat.start (to_member word)) (no_slot_step y.spot.seat.form an_error y.spot.seat.depth y.spot.seat.start word form)
  member_step (header type) word y form fine known =
      subst (λ (f : Form). OfForm (known_kind (field_kind_in (fields_in types type) word)) (meant None (spot_behind types (to_member word) (record { seat = record { depth = y.spot.seat.depth; form = f; start = y.spot.seat.start; owner = y.spot.seat.owner }; told = y.spot.told })))) (sym form)
      (spot_formed (known_kind (field_kind_in (fields_in types type) word)) y.spot.told (field_seat y.spot.seat.start.header y.spot.seat.depth (fields_in types type) y.spot.seat.start word) (field_formed y.spot.seat.start.header y.spot.seat.depth (fields_in types type) y.spot.seat.start word fine))
  member_step (stack type size) word y form fine known =
      subst (λ (f : Form). OfForm (known_kind (member_kind types (stack type size) word)) (meant None (told_spot types (which_of word) (record { seat = record { depth = y.spot.seat.depth; form = f; start = y.spot.seat.start; owner = y.spot.seat.owner }; told = y.spot.told })))) (sym form)
      (by y.spot.told) where
        element : (has_name (codes "next" ∷ codes "last" ∷ []) word) ≡ true → IfSome (element_seat y.spot.seat.depth type (length (fields_in types type)) size y.spot.seat.start 0) (λ u. u.form ≡ form_of (known_kind (member_kind types (stack type size) word)))
        element has = subst (λ (t : Bool). IfSome (element_seat y.spot.seat.depth type (length (fields_in types type)) size y.spot.seat.start 0) (λ u. u.form ≡ form_of (known_kind (cond t (Some (header type)) None)))) (sym has) (element_formed y.spot.seat.depth type (length (fields_in types type)) size y.spot.seat.start 0)

        is_member : (t : Bool) → (is_none (cond t (Some (header type)) None) && true) ≡ false → t ≡ true
        is_member true e = refl
        is_member false e = absurd (cc e)

        by : (told : Option Told) → OfForm (known_kind (member_kind types (stack type size) word)) (meant None (told_spot types (which_of word) (record { seat = record { depth = y.spot.seat.depth; form = stack_form type size; start = y.spot.seat.start; owner = y.spot.seat.owner }; told = told })))
        by None = spot_formed (known_kind (member_kind types (stack type size) word)) (Some (told_in (length (fields_in types type)) (which_of word) y.spot.seat.start.stack)) (element_seat y.spot.seat.depth type (length (fields_in types type)) size y.spot.seat.start 0) (element (is_member (has_name (codes "next" ∷ codes "last" ∷ []) word) known))
        by (Some t) = tt
  member_step (struct type) word y form fine known =
      subst (λ (f : Form). OfForm (known_kind (field_kind_in (fields_in types type) word)) (meant None (spot_behind types (to_member word) (record { seat = record { depth = y.spot.seat.depth; form = f; start = y.spot.seat.start; owner = y.spot.seat.owner }; told = y.spot.told })))) (sym form)
      (spot_formed (known_kind (field_kind_in (fields_in types type) word)) y.spot.told (stepped_seat types y.spot.seat.depth (struct_form type) y.spot.seat.start (to_member word)) (struct_step y.spot.seat.depth type y.spot.seat.start word))
  member_step packet_in word y form fine known = none_formed (known_kind (member_kind types packet_in word)) y.spot.told (stepped_seat types y.spot.seat.depth y.spot.seat.form y.spot.seat.start (to_member word)) (no_step y.spot.seat.form y.spot.seat.depth y.spot.seat.start word form)
  member_step packet_out word y form fine known = none_formed (known_kind (member_kind types packet_out word)) y.spot.told (stepped_seat types y.spot.seat.depth y.spot.seat.form y.spot.seat.start (to_member word)) (no_step y.spot.seat.form y.spot.seat.depth y.spot.seat.start word form)
  member_step errors word y form fine known = none_formed (known_kind (member_kind types errors word)) y.spot.told (stepped_seat types y.spot.seat.depth y.spot.seat.form y.spot.seat.start (to_member word)) (no_step y.spot.seat.form y.spot.seat.depth y.spot.seat.start word form)
  member_step (enumeration enum) word y form fine known = none_formed (known_kind (member_kind types (enumeration enum) word)) y.spot.told (stepped_seat types y.spot.seat.depth y.spot.seat.form y.spot.seat.start (to_member word)) (no_step y.spot.seat.form y.spot.seat.depth y.spot.seat.start word form)
  member_step (one_of enum) word y form fine known = none_formed (known_kind (member_kind types (one_of enum) word)) y.spot.told (stepped_seat types y.spot.seat.depth y.spot.seat.form y.spot.seat.start (to_member word)) (no_step y.spot.seat.form y.spot.seat.depth y.spot.seat.start word form)
  member_step table word y form fine known = none_formed (known_kind (member_kind types table word)) y.spot.told (stepped_seat types y.spot.seat.depth y.spot.seat.form y.spot.seat.start (to_member word)) (no_step y.spot.seat.form y.spot.seat.depth y.spot.seat.start word form)
  member_step applied word y form fine known = none_formed (known_kind (member_kind types applied word)) y.spot.told (stepped_seat types y.spot.seat.depth y.spot.seat.form y.spot.seat.start (to_member word)) (no_step y.spot.seat.form y.spot.seat.depth y.spot.seat.start word form)
  member_step (object obj) word y form fine known = none_formed (known_kind (member_kind types (object obj) word)) y.spot.told (stepped_seat types y.spot.seat.depth y.spot.seat.form y.spot.seat.start (to_member word)) (no_step y.spot.seat.form y.spot.seat.depth y.spot.seat.start word form)
  member_step items word y form fine known = none_formed (known_kind (member_kind types items word)) y.spot.told (stepped_seat types y.spot.seat.depth y.spot.seat.form y.spot.seat.start (to_member word)) (no_step y.spot.seat.form y.spot.seat.depth y.spot.seat.start word form)
  member_step nothing word y form fine known = none_formed (known_kind (member_kind types nothing word)) y.spot.told (stepped_seat types y.spot.seat.depth y.spot.seat.form y.spot.seat.start (to_member word)) (no_step y.spot.seat.form y.spot.seat.depth y.spot.seat.start word form)
  member_step unknown word y form fine known = none_formed (known_kind (member_kind types unknown word)) y.spot.told (stepped_seat types y.spot.seat.depth y.spot.seat.form y.spot.seat.start (to_member word)) (no_step y.spot.seat.form y.spot.seat.depth y.spot.seat.start word form)

  index_step : (k : Kind) (i : ℕ) (y : Meant) → y.spot.seat.form ≡ form_of k → OfForm (element_kind k) (meant None (spot_behind types (to_element i) y.spot))
  index_step (bits width) i y form = none_formed unknown y.spot.told (stepped_seat types y.spot.seat.depth y.spot.seat.form y.spot.seat.start (to_element i)) (no_slot_element y.spot.seat.form (some_bits width) y.spot.seat.depth y.spot.seat.start i form)
  index_step unsized i y form = none_formed unknown y.spot.told (stepped_seat types y.spot.seat.depth y.spot.seat.form y.spot.seat.start (to_element i)) (no_element y.spot.seat.form y.spot.seat.depth y.spot.seat.start i form)
  index_step boolean i y form = none_formed unknown y.spot.told (stepped_seat types y.spot.seat.depth y.spot.seat.form y.spot.seat.start (to_element i)) (no_slot_element y.spot.seat.form a_truth y.spot.seat.depth y.spot.seat.start i form)
  index_step error_code i y form = none_formed unknown y.spot.told (stepped_seat types y.spot.seat.depth y.spot.seat.form y.spot.seat.start (to_element i)) (no_slot_element y.spot.seat.form an_error y.spot.seat.depth y.spot.seat.start i form)
  index_step (header type) i y form = none_formed unknown y.spot.told (stepped_seat types y.spot.seat.depth y.spot.seat.form y.spot.seat.start (to_element i)) (subst (λ (f : Form). IfSome (stepped_seat types y.spot.seat.depth f y.spot.seat.start (to_element i)) (λ u. ⊥)) (sym form) tt)
  index_step (stack type size) i y form =
      subst (λ (f : Form). OfForm (header type) (meant None (spot_behind types (to_element i) (record { seat = record { depth = y.spot.seat.depth; form = f; start = y.spot.seat.start; owner = y.spot.seat.owner }; told = y.spot.told })))) (sym form)
      (spot_formed (header type) y.spot.told (element_seat y.spot.seat.depth type (length (fields_in types type)) size y.spot.seat.start i) (element_formed y.spot.seat.depth type (length (fields_in types type)) size y.spot.seat.start i))
  index_step (struct type) i y form = none_formed unknown y.spot.told (stepped_seat types y.spot.seat.depth y.spot.seat.form y.spot.seat.start (to_element i)) (subst (λ (f : Form). IfSome (stepped_seat types y.spot.seat.depth f y.spot.seat.start (to_element i)) (λ u. ⊥)) (sym form) (struct_element y.spot.seat.depth type y.spot.seat.start i))
  index_step packet_in i y form = none_formed unknown y.spot.told (stepped_seat types y.spot.seat.depth y.spot.seat.form y.spot.seat.start (to_element i)) (no_element y.spot.seat.form y.spot.seat.depth y.spot.seat.start i form)
  index_step packet_out i y form = none_formed unknown y.spot.told (stepped_seat types y.spot.seat.depth y.spot.seat.form y.spot.seat.start (to_element i)) (no_element y.spot.seat.form y.spot.seat.depth y.spot.seat.start i form)
  index_step errors i y form = none_formed unknown y.spot.told (stepped_seat types y.spot.seat.depth y.spot.seat.form y.spot.seat.start (to_element i)) (no_element y.spot.seat.form y.spot.seat.depth y.spot.seat.start i form)
  index_step (enumeration enum) i y form = none_formed unknown y.spot.told (stepped_seat types y.spot.seat.depth y.spot.seat.form y.spot.seat.start (to_element i)) (no_element y.spot.seat.form y.spot.seat.depth y.spot.seat.start i form)
  index_step (one_of enum) i y form = none_formed unknown y.spot.told (stepped_seat types y.spot.seat.depth y.spot.seat.form y.spot.seat.start (to_element i)) (no_element y.spot.seat.form y.spot.seat.depth y.spot.seat.start i form)
  index_step table i y form = none_formed unknown y.spot.told (stepped_seat types y.spot.seat.depth y.spot.seat.form y.spot.seat.start (to_element i)) (no_element y.spot.seat.form y.spot.seat.depth y.spot.seat.start i form)
  index_step applied i y form = none_formed unknown y.spot.told (stepped_seat types y.spot.seat.depth y.spot.seat.form y.spot.seat.start (to_element i)) (no_element y.spot.seat.form y.spot.seat.depth y.spot.seat.start i form)
  index_step (object obj) i y form = none_formed unknown y.spot.told (stepped_seat types y.spot.seat.depth y.spot.seat.form y.spot.seat.start (to_element i)) (no_element y.spot.seat.form y.spot.seat.depth y.spot.seat.start i form)
  index_step items i y form = none_formed unknown y.spot.told (stepped_seat types y.spot.seat.depth y.spot.seat.form y.spot.seat.start (to_element i)) (no_element y.spot.seat.form y.spot.seat.depth y.spot.seat.start i form)
  index_step nothing i y form = none_formed unknown y.spot.told (stepped_seat types y.spot.seat.depth y.spot.seat.form y.spot.seat.start (to_element i)) (no_element y.spot.seat.form y.spot.seat.depth y.spot.seat.start i form)
  index_step unknown i y form = none_formed unknown y.spot.told (stepped_seat types y.spot.seat.depth y.spot.seat.form y.spot.seat.start (to_element i)) (no_element y.spot.seat.form y.spot.seat.depth y.spot.seat.start i form)

at_some : {A : Type 0} (B : A → Type 0) (o : Option A) (x : A) → o ≡ Some x → IfSome o B → B x
at_some {A = A} B o x is h = subst (λ (p : Option A). IfSome p B) is h

abbrev can_be : Sort → Bool
can_be (a_value k can) = can
can_be sort = false

name_formed : (sort : Sort) (o : Option Seat) → SortSeated sort o → can_be sort ≡ true → OfForm (sort_kind sort) (meant None (spot_with None o))
name_formed (a_value k can) None seated writes = tt
name_formed (a_value k can) (Some t) seated writes = λ whole. seated
name_formed (a_type k) o seated writes = absurd (cc writes)
name_formed (an_enumeration of) o seated writes = absurd (cc writes)
name_formed a_function o seated writes = absurd (cc writes)
name_formed (an_object of) o seated writes = absurd (cc writes)
name_formed (an_action plane handed) o seated writes = absurd (cc writes)
name_formed (a_table actions counters) o seated writes = absurd (cc writes)
name_formed a_state o seated writes = absurd (cc writes)
name_formed a_block o seated writes = absurd (cc writes)
name_formed undeclared o seated writes = absurd (cc writes)

-- only a value can be written
can_value : (s : Scope) (text : Name) (sort : Sort) → sort_of s text ≡ sort → can_write s (name text) ≡ can_be sort
can_value s text (a_value k c) is = rw is refl
can_value s text (a_type k) is = rw is refl
can_value s text (an_enumeration of) is = rw is refl
can_value s text a_function is = rw is refl
can_value s text (an_object of) is = rw is refl
can_value s text (an_action plane handed) is = rw is refl
can_value s text (a_table actions counters) is = rw is refl
can_value s text a_state is = rw is refl
can_value s text a_block is = rw is refl
can_value s text undeclared is = rw is refl

can_sort : (s : Scope) (text : Name) → can_write s (name text) ≡ true → can_be (sort_of s text) ≡ true
can_sort s text e = sym (can_value s text (sort_of s text) refl) ∙ e

no_cut : (c : Slice) (o : Option Meant) (k : Kind) → OfForm k (slice_meant c o)
no_cut c None k = tt
no_cut c (Some x) k = λ e. absurd (cc e)

module _ (s : Scope) (seats : List NamedSeat) (fine : Fine s) (seated : NamesSeated s seats) where
  fine_kind : (e : Exp16) (y : Meant) → meant_by s seats e ≡ Some y → y.slice ≡ None → y.spot.seat.form ≡ form_of (kind_of s e) → KindFine s.layouts (kind_of s e)
  fine_kind e y means whole form = by (kind_of s e) form (at_some (λ (z : Meant). z.slice ≡ None → FormIs s.layouts (kind_of s e) z.spot.seat.form) (meant_by s seats e) y means (meant_kind s seats e fine seated) whole) where
    by : (k : Kind) → y.spot.seat.form ≡ form_of k → FormIs s.layouts k y.spot.seat.form → KindFine s.layouts k
    by k is (inr h) = h.1
    by (bits width) is (inl un) = absurd un
    by unsized is (inl un) = absurd un
    by boolean is (inl un) = absurd un
    by error_code is (inl un) = absurd un
    by (header type) is (inl un) = absurd un
    by (stack type size) is (inl un) = absurd un
    by (struct type) is (inl un) = absurd un
    by packet_in is (inl un) = absurd un
    by packet_out is (inl un) = absurd un
    by errors is (inl un) = absurd un
    by (enumeration enum) is (inl un) = tt
    by (one_of enum) is (inl un) = tt
    by table is (inl un) = tt
    by applied is (inl un) = absurd un
    by (object obj) is (inl un) = tt
    by items is (inl un) = absurd un
    by nothing is (inl un) = absurd un
    by unknown is (inl un) = tt

  member_is : (k : Kind) (word : Name) (o : Option Meant) → OfForm k o → ((y : Meant) → o ≡ Some y → y.slice ≡ None → y.spot.seat.form ≡ form_of k → KindFine s.layouts k) → (is_none (member_kind s.layouts k word) && not (is_plain k)) ≡ false → OfForm (known_kind (member_kind s.layouts k word)) (member_meant s.layouts k word o)
  member_is (bits width) word o h fine_at known = further_whole (bits width) (known_kind (member_kind s.layouts (bits width) word)) (spot_behind s.layouts (to_member word)) o (λ y form is whole. member_step s.layouts (bits width) word y form (fine_at y is whole form) known) h
  member_is unsized word o h fine_at known = further_whole unsized (known_kind (member_kind s.layouts unsized word)) (spot_behind s.layouts (to_member word)) o (λ y form is whole. member_step s.layouts unsized word y form (fine_at y is whole form) known) h
  member_is boolean word o h fine_at known = further_whole boolean (known_kind (member_kind s.layouts boolean word)) (spot_behind s.layouts (to_member word)) o (λ y form is whole. member_step s.layouts boolean word y form (fine_at y is whole form) known) h
  member_is error_code word o h fine_at known = further_whole error_code (known_kind (member_kind s.layouts error_code word)) (spot_behind s.layouts (to_member word)) o (λ y form is whole. member_step s.layouts error_code word y form (fine_at y is whole form) known) h
  member_is (header type) word o h fine_at known = further_whole (header type) (known_kind (member_kind s.layouts (header type) word)) (spot_behind s.layouts (to_member word)) o (λ y form is whole. member_step s.layouts (header type) word y form (fine_at y is whole form) known) h
  member_is (stack type size) word o h fine_at known = further_whole (stack type size) (known_kind (member_kind s.layouts (stack type size) word)) (told_spot s.layouts (which_of word)) o (λ y form is whole. member_step s.layouts (stack type size) word y form (fine_at y is whole form) known) h
  member_is (struct type) word o h fine_at known = further_whole (struct type) (known_kind (member_kind s.layouts (struct type) word)) (spot_behind s.layouts (to_member word)) o (λ y form is whole. member_step s.layouts (struct type) word y form (fine_at y is whole form) known) h
  member_is packet_in word o h fine_at known = further_whole packet_in (known_kind (member_kind s.layouts packet_in word)) (spot_behind s.layouts (to_member word)) o (λ y form is whole. member_step s.layouts packet_in word y form (fine_at y is whole form) known) h
  member_is packet_out word o h fine_at known = further_whole packet_out (known_kind (member_kind s.layouts packet_out word)) (spot_behind s.layouts (to_member word)) o (λ y form is whole. member_step s.layouts packet_out word y form (fine_at y is whole form) known) h
  member_is errors word o h fine_at known = further_whole errors (known_kind (member_kind s.layouts errors word)) (spot_behind s.layouts (to_member word)) o (λ y form is whole. member_step s.layouts errors word y form (fine_at y is whole form) known) h
  member_is (enumeration enum) word o h fine_at known = further_whole (enumeration enum) (known_kind (member_kind s.layouts (enumeration enum) word)) (spot_behind s.layouts (to_member word)) o (λ y form is whole. member_step s.layouts (enumeration enum) word y form (fine_at y is whole form) known) h
  member_is (one_of enum) word o h fine_at known = further_whole (one_of enum) (known_kind (member_kind s.layouts (one_of enum) word)) (spot_behind s.layouts (to_member word)) o (λ y form is whole. member_step s.layouts (one_of enum) word y form (fine_at y is whole form) known) h
  member_is table word o h fine_at known = further_whole table (known_kind (member_kind s.layouts table word)) (spot_behind s.layouts (to_member word)) o (λ y form is whole. member_step s.layouts table word y form (fine_at y is whole form) known) h
  member_is applied word o h fine_at known = further_whole applied (known_kind (member_kind s.layouts applied word)) (spot_behind s.layouts (to_member word)) o (λ y form is whole. member_step s.layouts applied word y form (fine_at y is whole form) known) h
  member_is (object obj) word o h fine_at known = further_whole (object obj) (known_kind (member_kind s.layouts (object obj) word)) (spot_behind s.layouts (to_member word)) o (λ y form is whole. member_step s.layouts (object obj) word y form (fine_at y is whole form) known) h
  member_is items word o h fine_at known = further_whole items (known_kind (member_kind s.layouts items word)) (spot_behind s.layouts (to_member word)) o (λ y form is whole. member_step s.layouts items word y form (fine_at y is whole form) known) h
  member_is nothing word o h fine_at known = further_whole nothing (known_kind (member_kind s.layouts nothing word)) (spot_behind s.layouts (to_member word)) o (λ y form is whole. member_step s.layouts nothing word y form (fine_at y is whole form) known) h
  member_is unknown word o h fine_at known = further_whole unknown (known_kind (member_kind s.layouts unknown word)) (spot_behind s.layouts (to_member word)) o (λ y form is whole. member_step s.layouts unknown word y form (fine_at y is whole form) known) h

  -- T1: the members that are named are there
  abbrev pub KnownMembers : Exp16 → Type 0
  KnownMembers (member e word) = ((is_none (member_kind s.layouts (kind_of s e) word) && not (is_plain (kind_of s e))) ≡ false) × KnownMembers e
  KnownMembers (index e at) = KnownMembers e
  KnownMembers e = Unit {0}

  pub known_members : (e : Exp16) (p : Place) → NotCallee p → list_any is_misnamed (uses s p e) ≡ false → KnownMembers e
  known_members (member e word) p plain none = (
    sym (plain.named s e word) ∙ own_use is_misnamed s p (member e word) none,
    known_members e owner not_owner (subst (λ (q : Place). list_any is_misnamed (uses s q e) ≡ false) (plain.within (method_signature (kind_of s e) word)) (in_member is_misnamed s p e word none)),
  )
  known_members (index e at) p plain none = known_members e a_stack not_a_stack (in_index is_misnamed s p e at none)
  known_members (literal n) p plain none = tt
  known_members (truth holds) p plain none = tt
  known_members error p plain none = tt
  known_members (name text) p plain none = tt
  known_members (slice e high low) p plain none = tt
  known_members (call e given) p plain none = tt
  known_members (lookahead e to given) p plain none = tt
  known_members (cast to e) p plain none = tt
  known_members (unary operator e) p plain none = tt
  known_members (binary operator a d) p plain none = tt
  known_members (choice c a d) p plain none = tt
  known_members (parenthesized e) p plain none = tt
  known_members no_arguments p plain none = tt
  known_members (argument before last) p plain none = tt
  known_members (listed es) p plain none = tt

  -- what can be written stands at a seat of the form of its kind
  pub target_formed : (e : Exp16) → can_write s e ≡ true → KnownMembers e → OfForm (kind_of s e) (meant_by s seats e)
  target_formed (name text) can known = name_formed (sort_of s text) (seat_of_name seats text) (seated text) (can_sort s text can)
  target_formed (member e word) can known =
      member_is (kind_of s e) word (meant_by s seats e) (target_formed e can known.1) (λ y means whole form. fine_kind e y means whole form) known.0
  target_formed (index e at) can known =
      further (kind_of s e) (element_kind (kind_of s e)) (spot_behind s.layouts (to_element at.value)) (meant_by s seats e)
      (λ y form is. index_step s.layouts (kind_of s e) at.value y form) (target_formed e can known)
  target_formed (slice e high low) can known = no_cut (slice_of high low) (meant_by s seats e) (slice_kind (kind_of s e) high low)
  target_formed (literal n) can known = absurd (cc can)
  target_formed (truth holds) can known = absurd (cc can)
  target_formed error can known = absurd (cc can)
  target_formed (call e given) can known = absurd (cc can)
  target_formed (lookahead e to given) can known = absurd (cc can)
  target_formed (cast to e) can known = absurd (cc can)
  target_formed (unary operator e) can known = absurd (cc can)
  target_formed (binary operator a d) can known = absurd (cc can)
  target_formed (choice c a d) can known = absurd (cc can)
  target_formed (parenthesized e) can known = absurd (cc can)
  target_formed no_arguments can known = absurd (cc can)
  target_formed (argument before last) can known = absurd (cc can)
  target_formed (listed es) can known = absurd (cc can)

-- T2, T3: a slice is of bits
bits_kind : (k : Kind) → is_bits k ≡ true → (width : ℕ) × (k ≡ bits width)
bits_kind (bits width) e = (width, refl)
bits_kind unsized e = absurd (cc e)
bits_kind boolean e = absurd (cc e)
bits_kind error_code e = absurd (cc e)
bits_kind (header type) e = absurd (cc e)
bits_kind (stack type size) e = absurd (cc e)
bits_kind (struct type) e = absurd (cc e)
bits_kind packet_in e = absurd (cc e)
bits_kind packet_out e = absurd (cc e)
bits_kind errors e = absurd (cc e)
bits_kind (enumeration enum) e = absurd (cc e)
bits_kind (one_of enum) e = absurd (cc e)
bits_kind table e = absurd (cc e)
bits_kind applied e = absurd (cc e)
bits_kind (object obj) e = absurd (cc e)
bits_kind items e = absurd (cc e)
bits_kind nothing e = absurd (cc e)
bits_kind unknown e = absurd (cc e)

slice_chosen : (k : Kind) (high low : Literal16) → is_bits k ≡ true → leaves_bits k high low ≡ false → is_chosen (slice_kind k high low) ≡ true
slice_chosen k high low is within = by k (bits_kind k is) within where
  by : (k : Kind) → (width : ℕ) × (k ≡ bits width) → leaves_bits k high low ≡ false → is_chosen (slice_kind k high low) ≡ true
  by k h e =
      let inside : leaves_width h.0 high low ≡ false = ap (λ (j : Kind). leaves_bits j high low) (sym h.1) ∙ e in
      ap (λ (j : Kind). is_chosen (slice_kind j high low)) h.1 ∙ ap (λ (t : Bool). is_chosen (cond t unknown (bits (suc high.value - low.value)))) inside

whole_meant : (o : Option Spot) → IfSome (meant None o) (λ x. x.slice ≡ None)
whole_meant None = tt
whole_meant (Some x) = refl

whole_behind : (step : Spot → Option Spot) (o : Option Meant) → IfSome (behind_meant step o) (λ x. x.slice ≡ None)
whole_behind step None = tt
whole_behind step (Some x) = by x.slice where
  by : (cut : Option Slice) → IfSome (behind_meant step (Some (record { spot = x.spot; slice = cut }))) (λ y. y.slice ≡ None)
  by None = whole_meant (step x.spot)
  by (Some c) = tt

whole_member : (types : List Layout) (k : Kind) (word : Name) (o : Option Meant) → IfSome (member_meant types k word o) (λ x. x.slice ≡ None)
whole_member types (bits width) word o = whole_behind (spot_behind types (to_member word)) o
whole_member types unsized word o = whole_behind (spot_behind types (to_member word)) o
whole_member types boolean word o = whole_behind (spot_behind types (to_member word)) o
whole_member types error_code word o = whole_behind (spot_behind types (to_member word)) o
whole_member types (header type) word o = whole_behind (spot_behind types (to_member word)) o
whole_member types (stack type size) word o = whole_behind (told_spot types (which_of word)) o
whole_member types (struct type) word o = whole_behind (spot_behind types (to_member word)) o
whole_member types packet_in word o = whole_behind (spot_behind types (to_member word)) o
whole_member types packet_out word o = whole_behind (spot_behind types (to_member word)) o
whole_member types errors word o = whole_behind (spot_behind types (to_member word)) o
whole_member types (enumeration enum) word o = whole_behind (spot_behind types (to_member word)) o
whole_member types (one_of enum) word o = whole_behind (spot_behind types (to_member word)) o
whole_member types table word o = whole_behind (spot_behind types (to_member word)) o
whole_member types applied word o = whole_behind (spot_behind types (to_member word)) o
whole_member types (object obj) word o = whole_behind (spot_behind types (to_member word)) o
whole_member types items word o = whole_behind (spot_behind types (to_member word)) o
whole_member types nothing word o = whole_behind (spot_behind types (to_member word)) o
whole_member types unknown word o = whole_behind (spot_behind types (to_member word)) o

module _ (s : Scope) (seats : List NamedSeat) (fine : Fine s) (seated : NamesSeated s seats) where
  -- a single value that is written is chosen
  whole_chosen : (e : Exp16) (x : Meant) (of : Content) → can_write s e ≡ true → KnownMembers s seats fine seated e → meant_by s seats e ≡ Some x → IfSome (meant_by s seats e) (λ y. y.slice ≡ None) → x.spot.seat.form ≡ slot_form of → is_chosen (kind_of s e) ≡ true
  whole_chosen e x of can known means whole form =
      slot_chosen (kind_of s e) of
      (sym (at_some (λ (y : Meant). y.slice ≡ None → y.spot.seat.form ≡ form_of (kind_of s e)) (meant_by s seats e) x means (target_formed s seats fine seated e can known)
      (at_some (λ (y : Meant). y.slice ≡ None) (meant_by s seats e) x means whole)) ∙ form)

  pub target_chosen : (e : Exp16) (x : Meant) (of : Content) → can_write s e ≡ true → list_any is_misnamed (uses s target e) ≡ false → list_any is_mistyped (uses s target e) ≡ false → list_any leaves_size (uses s target e) ≡ false → meant_by s seats e ≡ Some x → x.spot.seat.form ≡ slot_form of → is_chosen (kind_of s e) ≡ true
  target_chosen (name text) x of can names kinds sizes means form = whole_chosen (name text) x of can tt means (whole_meant (spot_with None (seat_of_name seats text))) form
  target_chosen (member e word) x of can names kinds sizes means form = whole_chosen (member e word) x of can (known_members s seats fine seated (member e word) target not_target names) means (whole_member s.layouts (kind_of s e) word (meant_by s seats e)) form
  target_chosen (index e at) x of can names kinds sizes means form = whole_chosen (index e at) x of can (known_members s seats fine seated (index e at) target not_target names) means (whole_behind (spot_behind s.layouts (to_element at.value)) (meant_by s seats e)) form
  target_chosen (slice e high low) x of can names kinds sizes means form =
      slice_chosen (kind_of s e) high low (taken s any_bits e (in_slice is_mistyped s target e high low kinds)) (own_use leaves_size s target (slice e high low) sizes)
  target_chosen (literal n) y of can names kinds sizes means form = absurd (cc can)
  target_chosen (truth holds) y of can names kinds sizes means form = absurd (cc can)
  target_chosen error y of can names kinds sizes means form = absurd (cc can)
  target_chosen (call e given) y of can names kinds sizes means form = absurd (cc can)
  target_chosen (lookahead e to given) y of can names kinds sizes means form = absurd (cc can)
  target_chosen (cast to e) y of can names kinds sizes means form = absurd (cc can)
  target_chosen (unary operator e) y of can names kinds sizes means form = absurd (cc can)
  target_chosen (binary operator a d) y of can names kinds sizes means form = absurd (cc can)
  target_chosen (choice c a d) y of can names kinds sizes means form = absurd (cc can)
  target_chosen (parenthesized e) y of can names kinds sizes means form = absurd (cc can)
  target_chosen no_arguments y of can names kinds sizes means form = absurd (cc can)
  target_chosen (argument before last) y of can names kinds sizes means form = absurd (cc can)
  target_chosen (listed es) y of can names kinds sizes means form = absurd (cc can)
