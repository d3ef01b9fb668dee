-- Where the parts of an l-value are found, its seat is.
use Rattle.std.proofs.Common.{◌≡◌, ℕ, zero, suc, ◌+◌, ◌-◌, ◌*◌, Bool, true, false, cond, Option, Some, None, IfSome, List, [], ◌∷◌, length, refl, sym, ap, ◌∙◌, subst, arith}
use Rattle.std.specs.Str.{bytes_eq}
use Rattle.p416_syntax.specs.Tree.{Exp16, literal, truth, error, name, member, index, slice, call, lookahead, cast, unary, binary, choice, parenthesized, no_arguments, argument, listed}
use Rattle.p416_syntax.specs.Names.{Name}
use Rattle.p416_syntax.specs.Kinds.{Kind, bits, unsized, boolean, error_code, header, stack, struct, packet_in, packet_out, errors, enumeration, one_of, table, applied, object, items, nothing, unknown}
use Rattle.p416_syntax.specs.Scopes.{Layout, FieldKind, fields_in, Scope}
use Rattle.p416_syntax.specs.Expressions.{kind_of}
use Rattle.v1_core.specs.Values.{Step, to_member, to_element, Slice}
use Rattle.v1_core.specs.Expressions.{slice_of}
use Rattle.v1_core.specs.Cells.{Cells, stack_place, stack_size}
use Rattle.v1_core.specs.Seats.{Form, slot_form, header_form, stack_form, struct_form, no_form, Start, moved, Seat, field_form, field_seat, element_seat, stepped_seat}
use Rattle.v1_core.proofs.Reading.{by_truth}
use Rattle.v1_core.specs.declared.node.Which.{Which}
use Rattle.v1_core.specs.Ready.{element_by, is_past}
use Rattle.v1_ready_forms.specs.Named.{NamedSeat, seat_of_name}
use Rattle.v1_ready_forms.specs.Ways.{which_of}
use Rattle.v1_ready_forms.specs.Spots.{Told, Spot, spot_with, spot_behind, told_in, told_spot}
use Rattle.v1_ready_blocks.specs.declared.places.RangePlace.{RangePlace}
use Rattle.v1_ready_blocks.specs.declared.places.Range.{Range}
use Rattle.v1_ready_blocks.specs.Places.{element_range, range_at}
use Rattle.v1_parser_laws.specs.Ranges.{IsRangeOf}
use Rattle.v1_place_laws.specs.Places.{Meant, meant, behind_meant, slice_meant, member_meant, meant_by, range_of, range_place_of}
use Rattle.v1_place_laws.specs.Finding.{in_element, seat_now}
use Rattle.v1_deed_laws.specs.Forms.{IsParted}
use Rattle.v1_statement_laws.proofs.Starting.{range_is}

-- what a stack tells is a header with as many fields as its elements have, or a field
abbrev pub ToldFits : List Layout → Form → Option Told → Type 0
ToldFits types form None = Unit {0}
ToldFits types (slot_form of) (Some t) = Unit {0}
ToldFits types (header_form type) (Some t) = t.apart ≡ length (fields_in types type)
ToldFits types form (Some t) = ⊥

module _ (types : List Layout) where
  abbrev SpotFits : Spot → Type 0
  SpotFits x = ToldFits types x.seat.form x.told

  abbrev MeantFits : Option Meant → Type 0
  MeantFits o = IfSome o (λ x. SpotFits x.spot)

  field_fits : (owner n : ℕ) (fields : List FieldKind) (b : Start) (word : Name) (t : Told) → IfSome (field_seat owner n fields b word) (λ u. ToldFits types u.form (Some t))
  field_fits owner n [] b word t = tt
  field_fits owner n (f ∷ fields) b word t =
      by_truth (λ (same : Bool). IfSome (cond same (Some (record { depth = n; form = field_form f; start = b; owner = Some owner })) (field_seat owner n fields (moved b 1 0 0) word)) (λ u. ToldFits types u.form (Some t)))
      tt (field_fits owner n fields (moved b 1 0 0) word t) (bytes_eq f.called word)

  with_none : (o : Option Seat) → IfSome (spot_with None o) SpotFits
  with_none None = tt
  with_none (Some u) = tt

  with_told : (t : Told) (o : Option Seat) → IfSome o (λ u. ToldFits types u.form (Some t)) → IfSome (spot_with (Some t) o) SpotFits
  with_told t None h = tt
  with_told t (Some u) h = h

  step_fits : (step : Step) (n : ℕ) (form : Form) (a : Start) (owner : Option ℕ) (told : Option Told) → ToldFits types form told → IfSome (spot_behind types step (record { seat = record { depth = n; form = form; start = a; owner = owner }; told = told })) SpotFits
  step_fits step n form a owner None h = with_none (stepped_seat types n form a step)
  step_fits step n (slot_form of) a owner (Some t) h = tt
  step_fits (to_member word) n (header_form type) a owner (Some t) h = with_told t (field_seat a.header n (fields_in types type) a word) (field_fits a.header n (fields_in types type) a word t)
  step_fits (to_element i) n (header_form type) a owner (Some t) h = tt
  step_fits step n (stack_form type size) a owner (Some t) h = absurd h
  step_fits step n (struct_form type) a owner (Some t) h = absurd h
  step_fits step n no_form a owner (Some t) h = absurd h

  first_fits : (which : Which) (of : ℕ) (n : ℕ) (type : Name) (size : ℕ) (a : Start) → IfSome (spot_with (Some (told_in (length (fields_in types type)) which of)) (element_seat n type (length (fields_in types type)) size a 0)) SpotFits
  first_fits which of n type zero a = tt
  first_fits which of n type (suc size) a = refl

  told_fits : (which : Which) (n : ℕ) (form : Form) (a : Start) (owner : Option ℕ) (told : Option Told) → IfSome (told_spot types which (record { seat = record { depth = n; form = form; start = a; owner = owner }; told = told })) SpotFits
  told_fits which n (slot_form of) a owner told = tt
  told_fits which n (header_form type) a owner told = tt
  told_fits which n (stack_form type size) a owner None = first_fits which a.stack n type size a
  told_fits which n (stack_form type size) a owner (Some t) = tt
  told_fits which n (struct_form type) a owner told = tt
  told_fits which n no_form a owner told = tt

  meant_of : (cut : Option Slice) (o : Option Spot) → IfSome o SpotFits → MeantFits (meant cut o)
  meant_of cut None h = tt
  meant_of cut (Some x) h = h

  further_fits : (further : Spot → Option Spot) → ((x : Spot) → SpotFits x → IfSome (further x) SpotFits) → (o : Option Meant) → MeantFits o → MeantFits (behind_meant further o)
  further_fits further f None h = tt
  further_fits further f (Some x) h = by x.slice where
    by : (cut : Option Slice) → MeantFits (behind_meant further (Some (record { spot = x.spot; slice = cut })))
    by None = meant_of None (further x.spot) (f x.spot h)
    by (Some s) = tt

  cut_fits : (s : Slice) (o : Option Meant) → MeantFits o → MeantFits (slice_meant s o)
  cut_fits s None h = tt
  cut_fits s (Some x) h = h

  member_fits : (k : Kind) (word : Name) (o : Option Meant) → MeantFits o → MeantFits (member_meant types k word o)
  member_fits (bits width) word o h = further_fits (spot_behind types (to_member word)) (λ x f. step_fits (to_member word) x.seat.depth x.seat.form x.seat.start x.seat.owner x.told f) o h
  member_fits unsized word o h = further_fits (spot_behind types (to_member word)) (λ x f. step_fits (to_member word) x.seat.depth x.seat.form x.seat.start x.seat.owner x.told f) o h
  member_fits boolean word o h = further_fits (spot_behind types (to_member word)) (λ x f. step_fits (to_member word) x.seat.depth x.seat.form x.seat.start x.seat.owner x.told f) o h
  member_fits error_code word o h = further_fits (spot_behind types (to_member word)) (λ x f. step_fits (to_member word) x.seat.depth x.seat.form x.seat.start x.seat.owner x.told f) o h
  member_fits (header type) word o h = further_fits (spot_behind types (to_member word)) (λ x f. step_fits (to_member word) x.seat.depth x.seat.form x.seat.start x.seat.owner x.told f) o h
  member_fits (stack type size) word o h = further_fits (told_spot types (which_of word)) (λ x f. told_fits (which_of word) x.seat.depth x.seat.form x.seat.start x.seat.owner x.told) o h
  member_fits (struct type) word o h = further_fits (spot_behind types (to_member word)) (λ x f. step_fits (to_member word) x.seat.depth x.seat.form x.seat.start x.seat.owner x.told f) o h
  member_fits packet_in word o h = further_fits (spot_behind types (to_member word)) (λ x f. step_fits (to_member word) x.seat.depth x.seat.form x.seat.start x.seat.owner x.told f) o h
  member_fits packet_out word o h = further_fits (spot_behind types (to_member word)) (λ x f. step_fits (to_member word) x.seat.depth x.seat.form x.seat.start x.seat.owner x.told f) o h
  member_fits errors word o h = further_fits (spot_behind types (to_member word)) (λ x f. step_fits (to_member word) x.seat.depth x.seat.form x.seat.start x.seat.owner x.told f) o h
  member_fits (enumeration enum) word o h = further_fits (spot_behind types (to_member word)) (λ x f. step_fits (to_member word) x.seat.depth x.seat.form x.seat.start x.seat.owner x.told f) o h
  member_fits (one_of enum) word o h = further_fits (spot_behind types (to_member word)) (λ x f. step_fits (to_member word) x.seat.depth x.seat.form x.seat.start x.seat.owner x.told f) o h
  member_fits table word o h = further_fits (spot_behind types (to_member word)) (λ x f. step_fits (to_member word) x.seat.depth x.seat.form x.seat.start x.seat.owner x.told f) o h
  member_fits applied word o h = further_fits (spot_behind types (to_member word)) (λ x f. step_fits (to_member word) x.seat.depth x.seat.form x.seat.start x.seat.owner x.told f) o h
  member_fits (object kind) word o h = further_fits (spot_behind types (to_member word)) (λ x f. step_fits (to_member word) x.seat.depth x.seat.form x.seat.start x.seat.owner x.told f) o h
  member_fits items word o h = further_fits (spot_behind types (to_member word)) (λ x f. step_fits (to_member word) x.seat.depth x.seat.form x.seat.start x.seat.owner x.told f) o h
  member_fits nothing word o h = further_fits (spot_behind types (to_member word)) (λ x f. step_fits (to_member word) x.seat.depth x.seat.form x.seat.start x.seat.owner x.told f) o h
  member_fits unknown word o h = further_fits (spot_behind types (to_member word)) (λ x f. step_fits (to_member word) x.seat.depth x.seat.form x.seat.start x.seat.owner x.told f) o h

pub meant_fits : (s : Scope) (seats : List NamedSeat) (e : Exp16) → IfSome (meant_by s seats e) (λ x. ToldFits s.layouts x.spot.seat.form x.spot.told)
meant_fits s seats (name text) = meant_of s.layouts None (spot_with None (seat_of_name seats text)) (with_none s.layouts (seat_of_name seats text))
meant_fits s seats (member e word) = member_fits s.layouts (kind_of s e) word (meant_by s seats e) (meant_fits s seats e)
meant_fits s seats (index e at) = further_fits s.layouts (spot_behind s.layouts (to_element at.value)) (λ x f. step_fits s.layouts (to_element at.value) x.seat.depth x.seat.form x.seat.start x.seat.owner x.told f) (meant_by s seats e) (meant_fits s seats e)
meant_fits s seats (slice e high low) = cut_fits s.layouts (slice_of high low) (meant_by s seats e) (meant_fits s seats e)
meant_fits s seats (literal n) = tt
meant_fits s seats (truth holds) = tt
meant_fits s seats error = tt
meant_fits s seats (call e handed) = tt
meant_fits s seats (lookahead e to handed) = tt
meant_fits s seats (cast to e) = tt
meant_fits s seats (unary operator e) = tt
meant_fits s seats (binary operator a b) = tt
meant_fits s seats (choice c a b) = tt
meant_fits s seats (parenthesized e) = tt
meant_fits s seats no_arguments = tt
meant_fits s seats (argument before last) = tt
meant_fits s seats (listed es) = tt

-- the parts

abbrev pub RangeFound : List Layout → Option Range → Option Seat → Type 0
RangeFound types None None = Unit {0}
RangeFound types (Some r) (Some t) = IsRangeOf types t r × IsParted t.form
RangeFound types _ _ = ⊥

element_ranged : (types : List Layout) (x : Seat) (t : Told) (type : Name) (number : ℕ) → x.form ≡ header_form type → t.apart ≡ length (fields_in types type) → IsRangeOf types (in_element t.apart number x) (element_range (range_of types x) number)
element_ranged types x t type number form is =
    subst (λ (k : Form). IsRangeOf types (in_element t.apart number (record { depth = x.depth; form = k; start = x.start; owner = x.owner })) (element_range (range_of types (record { depth = x.depth; form = k; start = x.start; owner = x.owner })) number)) (sym form)
    (record {
      slot = ap (λ (k : ℕ). x.start.slot + number * k) (width x.start.slot (length (fields_in types type)) ∙ sym is);
      slots = last x.start.slot number (length (fields_in types type)) t.apart is;
      header = one x.start.header number;
      headers = next x.start.header number;
      stack = same x.start.stack;
      stacks = none x.start.stack;
    }) where
      width : (a k : ℕ) → a + k - a ≡ k
      width a k = omega arith

      last : (a number k apart : ℕ) → apart ≡ k → a + number * (a + k - a) + (a + k - a) ≡ a + number * apart + k
      last a number k apart e = ap (λ (j : ℕ). a + number * j + (a + k - a)) (width a k ∙ sym e) ∙ ap (λ (j : ℕ). a + number * apart + j) (width a k)

      one : (a number : ℕ) → a + number * (a + 1 - a) ≡ a + number
      one a number = ap (λ (j : ℕ). a + number * j) (width a 1) ∙ times a number where
        times : (a number : ℕ) → a + number * 1 ≡ a + number
        times a number = omega arith

      next : (a number : ℕ) → a + number * (a + 1 - a) + (a + 1 - a) ≡ a + number + 1
      next a number = ap (λ (j : ℕ). a + number * j + (a + 1 - a)) (width a 1) ∙ ap (λ (j : ℕ). a + number * 1 + j) (width a 1) ∙ times a number where
        times : (a number : ℕ) → a + number * 1 + 1 ≡ a + number + 1
        times a number = omega arith

      same : (a : ℕ) → a ≡ a + 0
      same a = omega arith

      none : (a : ℕ) → a + (a + 0 - a) ≡ a + 0 + 0
      none a = omega arith

range_by : (types : List Layout) (c : Cells) (x : Seat) (told : Option Told) (form : Form) → x.form ≡ form → ToldFits types form told → IfSome (range_place_of types (record { seat = record { depth = x.depth; form = form; start = x.start; owner = x.owner }; told = told })) (λ place. RangeFound types (range_at c place) (seat_now c (record { seat = record { depth = x.depth; form = form; start = x.start; owner = x.owner }; told = told })))
range_by types c x None (slot_form of) same fits = tt
range_by types c x None (header_form type) same fits = (range_is types (record { depth = x.depth; form = header_form type; start = x.start; owner = x.owner }), tt)
range_by types c x None (stack_form type size) same fits = (range_is types (record { depth = x.depth; form = stack_form type size; start = x.start; owner = x.owner }), tt)
range_by types c x None (struct_form type) same fits = (range_is types (record { depth = x.depth; form = struct_form type; start = x.start; owner = x.owner }), tt)
range_by types c x None no_form same fits = tt
range_by types c x (Some t) (slot_form of) same fits = tt
range_by types c x (Some t) (header_form type) same fits = by (is_past t.which (stack_place c t.stack) (stack_size c t.stack)) where
  here : Seat
  here = record { depth = x.depth; form = header_form type; start = x.start; owner = x.owner }

  by : (past : Bool) → RangeFound types (cond past None (Some (element_range (range_of types here) (element_by t.which (stack_place c t.stack))))) (cond past None (Some (in_element t.apart (element_by t.which (stack_place c t.stack)) here)))
  by true = tt
  by false = (element_ranged types here t type (element_by t.which (stack_place c t.stack)) refl fits, tt)
range_by types c x (Some t) (stack_form type size) same fits = absurd fits
range_by types c x (Some t) (struct_form type) same fits = absurd fits
range_by types c x (Some t) no_form same fits = absurd fits

pub range_found : (types : List Layout) (c : Cells) (x : Spot) (place : RangePlace) → ToldFits types x.seat.form x.told → range_place_of types x ≡ Some place → RangeFound types (range_at c place) (seat_now c x)
range_found types c x place fits is =
    subst (λ (o : Option RangePlace). IfSome o (λ p. RangeFound types (range_at c p) (seat_now c x))) is (range_by types c x.seat x.told x.seat.form refl fits)
