-- What is given at the place of an assignment fits the slot of its target.
use Rattle.std.proofs.Common.{◌≡◌, ◌⊎◌, inl, inr, ℕ, suc, ◌-◌, Bool, true, false, cond, Option, Some, None, IfSome, List, refl, sym, ap, ◌∙◌, subst}
use Rattle.std.specs.Prelude.{option_map}
use Rattle.p416_syntax.specs.declared.lexeme.Literal16.{Literal16}
use Rattle.p416_syntax.specs.Tree.{Exp16, literal, truth, error, name, member, index, slice, call, lookahead, cast, unary, binary, choice, parenthesized, no_arguments, argument, listed}
use Rattle.p416_syntax.specs.Names.{Name}
use Rattle.p416_syntax.specs.Kinds.{Kind, bits, unsized, boolean, error_code, header, stack, struct, packet_in, packet_out, errors, enumeration, one_of, table, applied, object, items, nothing, unknown}
use Rattle.p416_syntax.specs.Scopes.{Layout, Scope}
use Rattle.p416_syntax.specs.Calls.{value}
use Rattle.p416_syntax.specs.Expressions.{kind_of, is_chosen, slice_kind, leaves_width}
use Rattle.p416_syntax.specs.Statements.{assigned_place}
use Rattle.p416_syntax.specs.Types.{takes}
use Rattle.v1_core.specs.Values.{Value, as_number, number_in, to_member, to_element, Slice}
use Rattle.v1_core.specs.Expressions.{slice_of}
use Rattle.v1_core.specs.Seats.{Content, some_bits, a_truth, an_error, Form, slot_form, form_of}
use Rattle.v1_ready_forms.specs.Named.{NamedSeat, seat_of_name}
use Rattle.v1_ready_forms.specs.Ways.{which_of}
use Rattle.v1_ready_forms.specs.Spots.{Spot, spot_with, spot_behind, told_spot}
use Rattle.v1_ready_laws.specs.Rules.{NamesSeated}
use Rattle.v1_ready_blocks.specs.declared.places.Slice.{Slice as ReadySlice}
use Rattle.v1_place_laws.specs.Places.{Meant, meant, behind_meant, slice_meant, member_meant, meant_by}
use Rattle.v1_place_laws.specs.Laws.{FitsSlot}
use Rattle.v1_ready_statements.specs.Targets.{ready_slice}
use Rattle.v1_value_laws.specs.Kinds.{Fine, FormIs}
use Rattle.v1_value_laws.specs.Classes.{IsNumber, IsTruth, IsError, IsOfClass}
use Rattle.v1_value_laws.proofs.Taken.{sized_number, truth_only, error_only}
use Rattle.v1_value_laws.proofs.Formed.{meant_kind}
use Rattle.v1_value_laws.proofs.Classes.{class_number}

-- values of a class fit slots of a content

number_fits : (v : Value) → IsNumber v → as_number v ≡ number_in v
number_fits v h = subst (λ (x : Value). as_number x ≡ number_in x) (sym h.1.1) refl

pub content_is : (k l : Content) → slot_form k ≡ slot_form l → k ≡ l
content_is k l e = let inner : k ≡ l = cc e in inner

-- bits take a number, and a slice of them does
bits_fit : (width : ℕ) (of : Content) (cut : Option ReadySlice) (f : Exp16) (k : Kind) (v : Value) (wanted : ℕ) → slot_form of ≡ slot_form (some_bits width) → takes (value (bits wanted)) f k ≡ true → IsOfClass k v → FitsSlot of cut v
bits_fit width of cut f k v wanted is taken h =
    subst (λ (c : Content). FitsSlot c cut v) (sym (content_is of (some_bits width) is)) (number_fits v (class_number k v (sized_number wanted f k taken) h))

pub whole_fits : (wanted : Kind) (of : Content) (f : Exp16) (k : Kind) (v : Value) → slot_form of ≡ form_of wanted → takes (value wanted) f k ≡ true → IsOfClass k v → FitsSlot of None v
whole_fits (bits width) of f k v is taken h = bits_fit width of None f k v width is taken h
whole_fits boolean of f k v is taken h =
    let truth : IsTruth v = subst (λ (j : Kind). IsOfClass j v) (truth_only f k taken) h in
    subst (λ (c : Content). FitsSlot c None v) (sym (content_is of a_truth is)) (refl, truth)
whole_fits error_code of f k v is taken h =
    let code : IsError v = subst (λ (j : Kind). IsOfClass j v) (error_only f k taken) h in
    subst (λ (c : Content). FitsSlot c None v) (sym (content_is of an_error is)) (refl, (code.0, code.1.0, code.1.1))
whole_fits unsized of f given v is taken h = absurd (cc is)
whole_fits (header type) of f given v is taken h = absurd (cc is)
whole_fits (stack type many) of f given v is taken h = absurd (cc is)
whole_fits (struct type) of f given v is taken h = absurd (cc is)
whole_fits packet_in of f given v is taken h = absurd (cc is)
whole_fits packet_out of f given v is taken h = absurd (cc is)
whole_fits errors of f given v is taken h = absurd (cc is)
whole_fits (enumeration enum) of f given v is taken h = absurd (cc is)
whole_fits (one_of enum) of f given v is taken h = absurd (cc is)
whole_fits table of f given v is taken h = absurd (cc is)
whole_fits applied of f given v is taken h = absurd (cc is)
whole_fits (object obj) of f given v is taken h = absurd (cc is)
whole_fits items of f given v is taken h = absurd (cc is)
whole_fits nothing of f given v is taken h = absurd (cc is)
whole_fits unknown of f given v is taken h = absurd (cc is)

-- the place of what is assigned
value_taken : (wanted : Kind) (f : Exp16) (k : Kind) → is_chosen wanted ≡ true → takes (assigned_place wanted) f k ≡ true → takes (value wanted) f k ≡ true
value_taken (bits width) f given is h = h
value_taken unsized f given is h = absurd (cc is)
value_taken boolean f given is h = h
value_taken error_code f given is h = h
value_taken (header type) f given is h = h
value_taken (stack type many) f given is h = h
value_taken (struct type) f given is h = h
value_taken packet_in f given is h = absurd (cc is)
value_taken packet_out f given is h = absurd (cc is)
value_taken errors f given is h = absurd (cc is)
value_taken (enumeration enum) f given is h = absurd (cc is)
value_taken (one_of enum) f given is h = absurd (cc is)
value_taken table f given is h = absurd (cc is)
value_taken applied f given is h = absurd (cc is)
value_taken (object obj) f given is h = absurd (cc is)
value_taken items f given is h = absurd (cc is)
value_taken nothing f given is h = absurd (cc is)
value_taken unknown f given is h = absurd (cc is)

formed : (types : List Layout) (k : Kind) (form : Form) → is_chosen k ≡ true → FormIs types k form → form ≡ form_of k
formed types k form is (inr h) = h.0
formed types (bits width) form is (inl un) = absurd un
formed types unsized form is (inl un) = absurd un
formed types boolean form is (inl un) = absurd un
formed types error_code form is (inl un) = absurd un
formed types (header type) form is (inl un) = absurd un
formed types (stack type many) form is (inl un) = absurd un
formed types (struct type) form is (inl un) = absurd un
formed types packet_in form is (inl un) = absurd un
formed types packet_out form is (inl un) = absurd un
formed types errors form is (inl un) = absurd un
formed types (enumeration enum) form is (inl un) = absurd (cc is)
formed types (one_of enum) form is (inl un) = absurd (cc is)
formed types table form is (inl un) = absurd (cc is)
formed types applied form is (inl un) = absurd un
formed types (object obj) form is (inl un) = absurd (cc is)
formed types items form is (inl un) = absurd un
formed types nothing form is (inl un) = absurd un
formed types unknown form is (inl un) = absurd (cc is)

-- slices are of bits

abbrev AtBits : Meant → Type 0
AtBits x = (width : ℕ) × (x.spot.seat.form ≡ slot_form (some_bits width))

abbrev OfBits : Kind → Type 0
OfBits k = (width : ℕ) × (k ≡ bits width)

abbrev Cut : Kind → Meant → Type 0
Cut k x = (x.slice ≡ None) ⊎ (is_chosen k ≡ true → OfBits k × AtBits x)

uncut : (k : Kind) (o : Option Meant) → IfSome o (λ x. x.slice ≡ None) → IfSome o (Cut k)
uncut k None h = tt
uncut k (Some x) h = inl h

whole_meant : (o : Option Spot) → IfSome (meant None o) (λ x. x.slice ≡ None)
whole_meant None = tt
whole_meant (Some x) = refl

whole_behind : (further : Spot → Option Spot) (o : Option Meant) → IfSome (behind_meant further o) (λ x. x.slice ≡ None)
whole_behind further None = tt
whole_behind further (Some x) = by x.slice where
  by : (cut : Option Slice) → IfSome (behind_meant further (Some (record { spot = x.spot; slice = cut }))) (λ y. y.slice ≡ None)
  by None = whole_meant (further x.spot)
  by (Some c) = tt

whole_member : (types : List Layout) (k : Kind) (word : Name) (o : Option Meant) → IfSome (member_meant types k word o) (λ x. x.slice ≡ None)
whole_member types (bits width) word o = whole_behind (spot_behind types (to_member word)) o
whole_member types unsized word o = whole_behind (spot_behind types (to_member word)) o
whole_member types boolean word o = whole_behind (spot_behind types (to_member word)) o
whole_member types error_code word o = whole_behind (spot_behind types (to_member word)) o
whole_member types (header type) word o = whole_behind (spot_behind types (to_member word)) o
whole_member types (stack type many) word o = whole_behind (told_spot types (which_of word)) o
whole_member types (struct type) word o = whole_behind (spot_behind types (to_member word)) o
whole_member types packet_in word o = whole_behind (spot_behind types (to_member word)) o
whole_member types packet_out word o = whole_behind (spot_behind types (to_member word)) o
whole_member types errors word o = whole_behind (spot_behind types (to_member word)) o
whole_member types (enumeration enum) word o = whole_behind (spot_behind types (to_member word)) o
whole_member types (one_of enum) word o = whole_behind (spot_behind types (to_member word)) o
whole_member types table word o = whole_behind (spot_behind types (to_member word)) o
whole_member types applied word o = whole_behind (spot_behind types (to_member word)) o
whole_member types (object obj) word o = whole_behind (spot_behind types (to_member word)) o
whole_member types items word o = whole_behind (spot_behind types (to_member word)) o
whole_member types nothing word o = whole_behind (spot_behind types (to_member word)) o
whole_member types unknown word o = whole_behind (spot_behind types (to_member word)) o

-- the kind of a slice
cut_kind : (k : Kind) (high low : Literal16) → is_chosen (slice_kind k high low) ≡ true → OfBits k × OfBits (slice_kind k high low)
cut_kind (bits width) high low is = by (leaves_width width high low) refl is where
  by : (t : Bool) → leaves_width width high low ≡ t → is_chosen (slice_kind (bits width) high low) ≡ true → OfBits (bits width) × OfBits (slice_kind (bits width) high low)
  by true e h = absurd (cc (subst (λ (t : Bool). is_chosen (cond t unknown (bits (suc high.value - low.value))) ≡ true) e h))
  by false e h = ((width, refl), (suc high.value - low.value, ap (λ (t : Bool). cond t unknown (bits (suc high.value - low.value))) e))
cut_kind unsized high low is = absurd (cc is)
cut_kind boolean high low is = absurd (cc is)
cut_kind error_code high low is = absurd (cc is)
cut_kind (header type) high low is = absurd (cc is)
cut_kind (stack type many) high low is = absurd (cc is)
cut_kind (struct type) high low is = absurd (cc is)
cut_kind packet_in high low is = absurd (cc is)
cut_kind packet_out high low is = absurd (cc is)
cut_kind errors high low is = absurd (cc is)
cut_kind (enumeration enum) high low is = absurd (cc is)
cut_kind (one_of enum) high low is = absurd (cc is)
cut_kind table high low is = absurd (cc is)
cut_kind applied high low is = absurd (cc is)
cut_kind (object obj) high low is = absurd (cc is)
cut_kind items high low is = absurd (cc is)
cut_kind nothing high low is = absurd (cc is)
cut_kind unknown high low is = absurd (cc is)

chosen_bits : (k : Kind) → OfBits k → is_chosen k ≡ true
chosen_bits k h = ap is_chosen h.1

bits_at : (types : List Layout) (k : Kind) (form : Form) (width : ℕ) → k ≡ bits width → FormIs types k form → form ≡ slot_form (some_bits width)
bits_at types k form width is h = formed types (bits width) form refl (subst (λ (j : Kind). FormIs types j form) is h)

-- behind a slice
cut_again : (s : Scope) (seats : List NamedSeat) (e : Exp16) (high low : Literal16) (o : Option Meant) → IfSome o (λ x. x.slice ≡ None → FormIs s.layouts (kind_of s e) x.spot.seat.form) → IfSome o (Cut (kind_of s e)) → IfSome (slice_meant (slice_of high low) o) (Cut (slice_kind (kind_of s e) high low))
cut_again s seats e high low None f h = tt
cut_again s seats e high low (Some x) f (inl whole) = inr (λ is.
    let two : OfBits (kind_of s e) × OfBits (slice_kind (kind_of s e) high low) = cut_kind (kind_of s e) high low is in
    (two.1, (two.0.0, bits_at s.layouts (kind_of s e) x.spot.seat.form two.0.0 two.0.1 (f whole))))
cut_again s seats e high low (Some x) f (inr g) = inr (λ is.
    let two : OfBits (kind_of s e) × OfBits (slice_kind (kind_of s e) high low) = cut_kind (kind_of s e) high low is in
    (two.1, (g (chosen_bits (kind_of s e) two.0)).1))

pub cut_is : (s : Scope) (seats : List NamedSeat) (e : Exp16) → Fine s → NamesSeated s seats → IfSome (meant_by s seats e) (Cut (kind_of s e))
cut_is s seats (name text) fine seated = uncut (kind_of s (name text)) (meant_by s seats (name text)) (whole_meant (spot_with None (seat_of_name seats text)))
cut_is s seats (member e word) fine seated = uncut (kind_of s (member e word)) (meant_by s seats (member e word)) (whole_member s.layouts (kind_of s e) word (meant_by s seats e))
cut_is s seats (index e at) fine seated = uncut (kind_of s (index e at)) (meant_by s seats (index e at)) (whole_behind (spot_behind s.layouts (to_element at.value)) (meant_by s seats e))
cut_is s seats (slice e high low) fine seated = cut_again s seats e high low (meant_by s seats e) (meant_kind s seats e fine seated) (cut_is s seats e fine seated)
cut_is s seats (literal n) fine seated = tt
cut_is s seats (truth holds) fine seated = tt
cut_is s seats error fine seated = tt
cut_is s seats (call e handed) fine seated = tt
cut_is s seats (lookahead e to handed) fine seated = tt
cut_is s seats (cast to e) fine seated = tt
cut_is s seats (unary operator e) fine seated = tt
cut_is s seats (binary operator a b) fine seated = tt
cut_is s seats (choice c a b) fine seated = tt
cut_is s seats (parenthesized e) fine seated = tt
cut_is s seats no_arguments fine seated = tt
cut_is s seats (argument before last) fine seated = tt
cut_is s seats (listed es) fine seated = tt

at_some : {A : Type 0} (B : A → Type 0) (o : Option A) (x : A) → o ≡ Some x → IfSome o B → B x
at_some {A = A} B o x is h = subst (λ (p : Option A). IfSome p B) is h

-- what is given at the place of an assignment, to what the target means
pub fits_target : (s : Scope) (seats : List NamedSeat) (target f : Exp16) (x : Meant) (of : Content) (k : Kind) (v : Value) → Fine s → NamesSeated s seats → is_chosen (kind_of s target) ≡ true → meant_by s seats target ≡ Some x → x.spot.seat.form ≡ slot_form of → takes (assigned_place (kind_of s target)) f k ≡ true → IsOfClass k v → FitsSlot of (option_map ready_slice x.slice) v
fits_target s seats target f x of k v fine seated chosen means form taken h =
    by (at_some (Cut (kind_of s target)) (meant_by s seats target) x means (cut_is s seats target fine seated)) where
      by_cut : (cut : Option ReadySlice) → OfBits (kind_of s target) × AtBits x → FitsSlot of cut v
      by_cut cut two =
          bits_fit two.1.0 of cut f k v two.0.0 (sym form ∙ two.1.1)
          (subst (λ (j : Kind). takes (value j) f k ≡ true) two.0.1 (value_taken (kind_of s target) f k chosen taken)) h

      by : Cut (kind_of s target) x → FitsSlot of (option_map ready_slice x.slice) v
      by (inl whole) =
          subst (λ (cut : Option Slice). FitsSlot of (option_map ready_slice cut) v) (sym whole)
          (whole_fits (kind_of s target) of f k v
          (sym form ∙ formed s.layouts (kind_of s target) x.spot.seat.form chosen (at_some (λ (y : Meant). y.slice ≡ None → FormIs s.layouts (kind_of s target) y.spot.seat.form) (meant_by s seats target) x means (meant_kind s seats target fine seated) whole))
          (value_taken (kind_of s target) f k chosen taken) h)
      by (inr g) = by_cut (option_map ready_slice x.slice) (g chosen)
