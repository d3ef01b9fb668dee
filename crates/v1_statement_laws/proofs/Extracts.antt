-- `p.extract(h)`: into a header, and into the next element of a stack.
use Rattle.std.proofs.Common.{◌≡◌, ◌⊎◌, inl, inr, ℕ, zero, suc, ◌<◌, nat_lt, not, ◌&&◌, ◌||◌, Bool, true, false, cond, is_some, Option, Some, None, IfSome, List, [], ◌∷◌, length, refl, sym, ap, ◌∙◌, subst}
use Rattle.std.specs.Prelude.{option_map, option_and_then, codes}
use Rattle.std.specs.Str.{bytes_eq}
use Rattle.std.proofs.lemmas.Bool.{ltb-true}
use Rattle.std.proofs.lemmas.Slice.Eq.{bytes_eq-Decides}
use Rattle.p416_syntax.specs.Tree.{Exp16, literal, truth, error, name, member, index, slice, call, lookahead, cast, unary, binary, choice, parenthesized, no_arguments, argument, listed, expression}
use Rattle.p416_syntax.specs.Names.{Name, has_name}
use Rattle.p416_syntax.specs.Kinds.{Kind, bits, unsized, boolean, error_code, header, stack, struct, packet_in, packet_out, errors, enumeration, one_of, table, applied, object, items, nothing, unknown, is_stack}
use Rattle.p416_syntax.specs.Scopes.{Layout, FieldKind, fields_in, Scope}
use Rattle.p416_syntax.specs.Calls.{written_header, parser_position, extern_at}
use Rattle.p416_syntax.specs.Expressions.{kind_of, known_kind, member_kind}
use Rattle.p416_syntax.specs.Uses.{arguments_of, wanted_by}
use Rattle.p416_syntax.specs.Breaks.{BreaksNone, program_rules}
use Rattle.p416_syntax.specs.Declarations.{layouts_of}
use Rattle.v1_core.specs.declared.parser_error.ParserError.TheVariants.{PacketTooShort}
use Rattle.v1_core.specs.Values.{to_member, to_element, Slice as SliceOf}
use Rattle.v1_core.specs.Externs.Packets as packets
use Rattle.v1_core.specs.Frames as sem
use Rattle.v1_core.specs.Frames.{Reference}
use Rattle.v1_core.specs.Slots.{variable_kinds}
use Rattle.v1_core.specs.Surroundings as meaning
use Rattle.v1_core.specs.Numbered.{InScope}
use Rattle.v1_core.specs.Expressions.{reference_of, slice_of}
use Rattle.v1_core.specs.Calls.{Given, argument_at, arguments_from, target_at, by_reference, stack_of_next, first_stack_of_next, method_call}
use Rattle.v1_core.specs.Cells.{Cells, stack_place, stack_size}
use Rattle.v1_core.specs.Seats.{Form, slot_form, header_form, stack_form, struct_form, no_form, Content, Start, moved, Seat, seat, field_form, field_seat, element_seat, stepped_seat}
use Rattle.v1_core.specs.Scopes.{IsScope}
use Rattle.v1_core.proofs.Reading.{by_truth}
use Rattle.v1_core.specs.declared.node.Which.{Which}
use Rattle.v1_core.specs.declared.node.Which.TheVariants.{Next, Last}
use Rattle.v1_core.specs.Ready.{element_by}
use Rattle.v1_ready_forms.specs.Named.{NamedSeat, seat_of_name, seats_in}
use Rattle.v1_ready_forms.specs.Ways.{which_of}
use Rattle.v1_ready_forms.specs.Spots.{Told, Spot, spot, spot_with, spot_behind, told_in, told_spot}
use Rattle.v1_ready_laws.specs.Rules.{NamesSeated}
use Rattle.v1_ready_blocks.specs.declared.places.Range.{Range}
use Rattle.v1_ready_blocks.specs.declared.places.RangePlace.{RangePlace}
use Rattle.v1_ready_blocks.specs.declared.places.RangePlace.TheVariants as range_place
use Rattle.v1_ready_blocks.specs.declared.places.ToldRange.{ToldRange}
use Rattle.v1_ready_blocks.specs.Moments.{Moment, raised}
use Rattle.v1_ready_blocks.specs.Places.{range_at}
use Rattle.v1_ready_blocks.specs.Packets as ready_packets
use Rattle.v1_ready_blocks.specs.Packets.{moved_on, extract}
use Rattle.v1_ready_blocks.specs.Tests.{World, with_range}
use Rattle.v1_ready_blocks.specs.Statements.{extract_header, does}
use Rattle.v1_parser_laws.specs.Shown.{Shows}
use Rattle.v1_place_laws.specs.Places.{Meant, meant, behind_meant, slice_meant, member_meant, meant_by, range_of, range_place_of}
use Rattle.v1_place_laws.specs.Finding.{IsAt, FoundAt, IsFound, in_element, seat_now}
use Rattle.v1_place_laws.proofs.Finding.{places_found}
use Rattle.v1_deed_laws.proofs.Extracting.{extract_header_shows, extract_next_shows}
use Rattle.v1_ready_statements.specs.Around.{Around}
use Rattle.v1_ready_statements.specs.Targets.{parts_meant, range_given}
use Rattle.v1_ready_statements.specs.Given.{given_at}
use Rattle.v1_ready_statements.specs.Called.{only_called, method_deed, expression_ready}
use Rattle.v1_value_laws.specs.Kinds.{Fine}
use Rattle.v1_statement_laws.specs.Behind.{Waits, Shown}
use Rattle.v1_statement_laws.specs.Leaves.{RunsAlike}
use Rattle.v1_statement_laws.specs.Laws.{HeadersExtracted}
use Rattle.v1_statement_laws.proofs.Ranging.{ToldFits, meant_fits}
use Rattle.v1_statement_laws.proofs.Methods.{found_by, with_found, found_form, whole_of}
use Rattle.v1_statement_laws.proofs.Calls.{called_alike}
use Rattle.v1_block_laws.proofs.Apart.{body_scope}

at_some : {A : Type 0} (B : A → Type 0) (o : Option A) (x : A) → o ≡ Some x → IfSome o B → B x
at_some {A = A} B o x is h = subst (λ (p : Option A). IfSome p B) is h

-- what no stack tells

abbrev Untold : Meant → Type 0
Untold x = x.spot.told ≡ None

-- or a single value
abbrev UntoldParts : Meant → Type 0
UntoldParts x = (x.spot.told ≡ None) ⊎ ((of : Content) × (x.spot.seat.form ≡ slot_form of))

untold_name : (o : Option Seat) → IfSome (meant None (spot_with None o)) Untold
untold_name None = tt
untold_name (Some u) = refl

untold_element : (types : List Layout) (i : ℕ) (o : Option Meant) → IfSome o (λ x. ToldFits types x.spot.seat.form x.spot.told) → IfSome (behind_meant (spot_behind types (to_element i)) o) Untold
untold_element types i None h = tt
untold_element types i (Some x) h = by x.slice x.spot.told x.spot.seat.form h where
  some_none : (o : Option Seat) → IfSome (meant None (spot_with None o)) Untold
  some_none None = tt
  some_none (Some u) = refl

  by : (cut : Option SliceOf) (told : Option Told) (form : Form) → ToldFits types form told → IfSome (behind_meant (spot_behind types (to_element i)) (Some (record { spot = record { seat = record { depth = x.spot.seat.depth; form = form; start = x.spot.seat.start; owner = x.spot.seat.owner }; told = told }; slice = cut }))) Untold
  by (Some c) told form h = tt
  by None None form h = some_none (stepped_seat types x.spot.seat.depth form x.spot.seat.start (to_element i))
  by None (Some t) (slot_form of) h = tt
  by None (Some t) (header_form type) h = tt
  by None (Some t) (stack_form type size) h = absurd h
  by None (Some t) (struct_form type) h = absurd h
  by None (Some t) no_form h = absurd h

untold_member : (types : List Layout) (word : Name) (o : Option Meant) → IfSome o (λ x. ToldFits types x.spot.seat.form x.spot.told) → IfSome (behind_meant (spot_behind types (to_member word)) o) UntoldParts
untold_member types word None h = tt
untold_member types word (Some x) h = by x.slice x.spot.told x.spot.seat.form h where
  some_none : (o : Option Seat) → IfSome (meant None (spot_with None o)) UntoldParts
  some_none None = tt
  some_none (Some u) = inl refl

  slots : (t : Told) (owner n : ℕ) (fields : List FieldKind) (a : Start) → IfSome (field_seat owner n fields a word) (λ u. (of : Content) × (u.form ≡ slot_form of))
  slots t owner n [] a = tt
  slots t owner n (f ∷ fields) a =
      by_truth (λ (same : Bool). IfSome (cond same (Some (record { depth = n; form = field_form f; start = a; owner = Some owner })) (field_seat owner n fields (moved a 1 0 0) word)) (λ u. (of : Content) × (u.form ≡ slot_form of)))
      (_, refl) (slots t owner n fields (moved a 1 0 0)) (bytes_eq f.called word)

  single : (t : Told) (o : Option Seat) → IfSome o (λ u. (of : Content) × (u.form ≡ slot_form of)) → IfSome (meant None (spot_with (Some t) o)) UntoldParts
  single t None g = tt
  single t (Some u) g = inr g

  by : (cut : Option SliceOf) (told : Option Told) (form : Form) → ToldFits types form told → IfSome (behind_meant (spot_behind types (to_member word)) (Some (record { spot = record { seat = record { depth = x.spot.seat.depth; form = form; start = x.spot.seat.start; owner = x.spot.seat.owner }; told = told }; slice = cut }))) UntoldParts
  by (Some c) told form h = tt
  by None None form h = some_none (stepped_seat types x.spot.seat.depth form x.spot.seat.start (to_member word))
  by None (Some t) (slot_form of) h = tt
  by None (Some t) (header_form type) h = single t (field_seat x.spot.seat.start.header x.spot.seat.depth (fields_in types type) x.spot.seat.start word) (slots t x.spot.seat.start.header x.spot.seat.depth (fields_in types type) x.spot.seat.start)
  by None (Some t) (stack_form type size) h = absurd h
  by None (Some t) (struct_form type) h = absurd h
  by None (Some t) no_form h = absurd h

-- it stays where it is
fixed_stays : (types : List Layout) (x : Spot) (place : RangePlace) → x.told ≡ None → range_place_of types x ≡ Some place → (c : Cells) → moved_on place c ≡ c
fixed_stays types x place told is c = by x.seat.form x.told told is where
  here : (r : Range) → Some (range_place.Fixed r) ≡ Some place → moved_on place c ≡ c
  here r e = let same : range_place.Fixed r ≡ place = cc e in subst (λ (p : RangePlace). moved_on p c ≡ c) same refl

  by : (f : Form) (o : Option Told) → o ≡ None → range_place_of types (record { seat = record { depth = x.seat.depth; form = f; start = x.seat.start; owner = x.seat.owner }; told = o }) ≡ Some place → moved_on place c ≡ c
  by f (Some t) none e = absurd (cc none)
  by (slot_form of) None none e = absurd (cc e)
  by (header_form type) None none e = here (range_of types (record { depth = x.seat.depth; form = header_form type; start = x.seat.start; owner = x.seat.owner })) e
  by (stack_form type size) None none e = here (range_of types (record { depth = x.seat.depth; form = stack_form type size; start = x.seat.start; owner = x.seat.owner })) e
  by (struct_form type) None none e = here (range_of types (record { depth = x.seat.depth; form = struct_form type; start = x.seat.start; owner = x.seat.owner })) e
  by no_form None none e = absurd (cc e)

no_parts : (types : List Layout) (x : Spot) (of : Content) (place : RangePlace) → x.seat.form ≡ slot_form of → range_place_of types x ≡ Some place → ⊥
no_parts types x of place form is = by x.seat.form x.told form is where
  by : (f : Form) (o : Option Told) → f ≡ slot_form of → range_place_of types (record { seat = record { depth = x.seat.depth; form = f; start = x.seat.start; owner = x.seat.owner }; told = o }) ≡ Some place → ⊥
  by (slot_form content) o e h = cc h
  by (header_form type) o e h = cc e
  by (stack_form type size) o e h = cc e
  by (struct_form type) o e h = cc e
  by no_form o e h = cc e

-- the parts of what isn't cut
parts_whole : (types : List Layout) (x : Meant) (place : RangePlace) → parts_meant types x ≡ Some place → range_place_of types x.spot ≡ Some place
parts_whole types x place is = by x.slice is where
  by : (cut : Option SliceOf) → parts_meant types (record { spot = x.spot; slice = cut }) ≡ Some place → range_place_of types x.spot ≡ Some place
  by None e = e
  by (Some c) e = absurd (cc e)

-- an element that its stack tells
record Element (types : List Layout) (which : Which) (o : Option Meant) (x : Meant) (place : RangePlace) : Type 0 where
  stack_meant : Meant
  means : o ≡ Some stack_meant
  whole : stack_meant.slice ≡ None
  type : Name
  size : ℕ
  form : stack_meant.spot.seat.form ≡ stack_form type size
  untold : stack_meant.spot.told ≡ None
  told : x.spot.told ≡ Some (told_in (length (fields_in types type)) which stack_meant.spot.seat.start.stack)
  first : Range
  placed : place ≡ range_place.Told (record { which = which; stack = stack_meant.spot.seat.start.stack; first = first })

element_of : (types : List Layout) (which : Which) (o : Option Meant) (x : Meant) (place : RangePlace) → behind_meant (told_spot types which) o ≡ Some x → range_place_of types x.spot ≡ Some place → Element types which o x place
element_of types which None x place is parts = absurd (cc is)
element_of types which (Some y) x place is parts = by y.slice y.spot.seat.form y.spot.told refl refl refl is where
  with_first : (type : Name) (size : ℕ) → y.slice ≡ None → y.spot.seat.form ≡ stack_form type size → y.spot.told ≡ None → (q : Option Seat) → IfSome q (λ u. u ≡ seat y.spot.seat.depth (header_form type) y.spot.seat.start) → meant None (spot_with (Some (told_in (length (fields_in types type)) which y.spot.seat.start.stack)) q) ≡ Some x → Element types which (Some y) x place
  with_first type size whole form untold None u e = absurd (cc e)
  with_first type size whole form untold (Some t) u e =
      let same : record { spot = spot (Some (told_in (length (fields_in types type)) which y.spot.seat.start.stack)) t; slice = None } ≡ x = cc e in
      let at : Seat = seat y.spot.seat.depth (header_form type) y.spot.seat.start in
      let placed : range_place_of types (spot (Some (told_in (length (fields_in types type)) which y.spot.seat.start.stack)) at) ≡ Some place =
      ap (λ (k : Seat). range_place_of types (spot (Some (told_in (length (fields_in types type)) which y.spot.seat.start.stack)) k)) (sym u) ∙ (ap (λ (k : Meant). range_place_of types k.spot) same ∙ parts) in
      let told_is : range_place.Told (record { which = which; stack = y.spot.seat.start.stack; first = range_of types at }) ≡ place = cc placed in
      record {
        stack_meant = y;
        means = refl;
        whole = whole;
        type = type;
        size = size;
        form = form;
        untold = untold;
        told = sym (ap (λ (k : Meant). k.spot.told) same);
        first = range_of types at;
        placed = sym told_is;
      }

  first_seat : (type : Name) (size : ℕ) → IfSome (element_seat y.spot.seat.depth type (length (fields_in types type)) size y.spot.seat.start 0) (λ u. u ≡ seat y.spot.seat.depth (header_form type) y.spot.seat.start)
  first_seat type zero = tt
  first_seat type (suc size) = refl

  by : (cut : Option SliceOf) (form : Form) (told : Option Told) → y.slice ≡ cut → y.spot.seat.form ≡ form → y.spot.told ≡ told → behind_meant (told_spot types which) (Some (record { spot = record { seat = record { depth = y.spot.seat.depth; form = form; start = y.spot.seat.start; owner = y.spot.seat.owner }; told = told }; slice = cut })) ≡ Some x → Element types which (Some y) x place
  by (Some c) form told whole f t e = absurd (cc e)
  by None (stack_form type size) None whole f t e = with_first type size whole f t (element_seat y.spot.seat.depth type (length (fields_in types type)) size y.spot.seat.start 0) (first_seat type size) e
  by None (stack_form type size) (Some u) whole f t e = absurd (cc e)
  by None (slot_form of) told whole f t e = absurd (cc e)
  by None (header_form type) told whole f t e = absurd (cc e)
  by None (struct_form type) told whole f t e = absurd (cc e)
  by None no_form told whole f t e = absurd (cc e)

-- the words of elements
next_word : (word : Name) → bytes_eq word (codes "next") ≡ true → which_of word ≡ Next
next_word word is =
    ap (λ (t : Bool). cond t Last Next) (subst (λ (u : Name). bytes_eq u (codes "last") ≡ false) (sym ((bytes_eq-Decides word (codes "next")).0 is)) refl)

last_word : (types : List Layout) (type other word : Name) (size : ℕ) → bytes_eq word (codes "next") ≡ false → known_kind (member_kind types (stack other size) word) ≡ header type → which_of word ≡ Last
last_word types type other word size next kind = by (bytes_eq word (codes "last")) refl where
  by : (t : Bool) → bytes_eq word (codes "last") ≡ t → which_of word ≡ Last
  by true e = ap (λ (u : Bool). cond u Last Next) e
  by false e =
      let none : has_name (codes "next" ∷ codes "last" ∷ []) word ≡ false = ap (λ (u : Bool). u || (bytes_eq word (codes "last") || false)) next ∙ ap (λ (u : Bool). u || false) e in
      absurd (cc (sym (ap (λ (u : Bool). known_kind (cond u (Some (header other)) None)) none) ∙ kind))

module _ (P : Cells → Type 0) (b : Around) (w : meaning.World) (z : World) (s : Scope) (who : InScope) (accepted : BreaksNone b.syntax program_rules) (layouts : s.layouts ≡ layouts_of b.syntax.decls) (seated : NamesSeated s (seats_in b.syntax w.around.roots who)) (fine : Fine s) (scope : IsScope (length (variable_kinds b.syntax)) who) where
  abbrev seats : List NamedSeat
  seats = seats_in b.syntax w.around.roots who

  abbrev Extracts : Exp16 → RangePlace → sem.Moment → Moment → Type 0
  Extracts f place m k = Shown P b.syntax who (sem.going_on (packets.extract (reference_of w.around s f m).reference (stack_of_next w.around s f m)) (reference_of w.around s f m).moment) (with_range (range_at k.cells place) k (λ r. extract place r k))

  waits_on : (place : RangePlace) (r : Range) (k : Moment) → P k.waiting → P (extract place r k).waiting
  waits_on place r k h =
      by_truth (λ (t : Bool). P (cond t (ready_packets.moved place (ready_packets.extracted r k)) (raised PacketTooShort k)).waiting) h
      (by_truth (λ (t : Bool). P (cond t k (record k { stopped = Some PacketTooShort })).waiting) h h (is_some k.stopped))
      (ready_packets.has_bits k (ready_packets.total_width k.cells r.slots r.slot))

  -- into a header that stays where it is
  fixed : (f : Exp16) (x : Meant) (place : RangePlace) (type : Name) (m : sem.Moment) (k : Moment) → kind_of s f ≡ header type → meant_by s seats f ≡ Some x → parts_meant s.layouts x ≡ Some place → Shown P b.syntax who m k → m.stopped ≡ None → stack_of_next w.around s f m ≡ None → ((c : Cells) → moved_on place c ≡ c) → Extracts f place m k
  fixed f x place type m k kind means parts h runs none stays =
      subst (λ (o : Option Reference). Shown P b.syntax who (sem.going_on (packets.extract (reference_of w.around s f m).reference o) (reference_of w.around s f m).moment) (with_range (range_at k.cells place) k (λ r. extract place r k))) (sym none)
      (with_found P b w s who accepted layouts f x place m k (found_by P b w s who accepted layouts f x place m k means parts h runs) (λ r. packets.extract r None) (λ r. extract place r k) h runs
      (λ t to now at ranged. record {
        shows = extract_header_shows b.syntax who (reference_of w.around s f m).reference t type place to m k accepted scope at (found_form P b w s who accepted layouts f x type k.cells t fine seated kind means (whole_of P b w s who accepted layouts x place parts) now) ranged stays h.shows;
        waits = waits_on place to k h.waits;
      }))

  -- into an element that its stack tells
  told_into : (e : Exp16) (word : Name) (type other : Name) (size : ℕ) (x : Meant) (place : RangePlace) (m : sem.Moment) (k : Moment) → kind_of s (member e word) ≡ header type → kind_of s e ≡ stack other size → meant_by s seats (member e word) ≡ Some x → parts_meant s.layouts x ≡ Some place → Shown P b.syntax who m k → m.stopped ≡ None → Extracts (member e word) place m k
  told_into e word type other size x place m k kind stacked means parts h runs =
      by (bytes_eq word (codes "next")) refl (element_of s.layouts (which_of word) (meant_by s seats e) x place (subst (λ (j : Kind). member_meant s.layouts j word (meant_by s seats e) ≡ Some x) stacked means) (parts_whole s.layouts x place parts)) where
        flag : (t : Bool) → bytes_eq word (codes "next") ≡ t → stack_of_next w.around s (member e word) m ≡ cond t (Some (reference_of w.around s e m).reference) None
        flag t is =
            ap (λ (j : Kind). cond (is_stack j && bytes_eq word (codes "next")) (Some (reference_of w.around s e m).reference) None) stacked
            ∙ ap (λ (u : Bool). cond u (Some (reference_of w.around s e m).reference) None) is

        by : (t : Bool) → bytes_eq word (codes "next") ≡ t → Element s.layouts (which_of word) (meant_by s seats e) x place → Extracts (member e word) place m k
        by false is l = fixed (member e word) x place type m k kind means parts h runs (flag false is) (λ c. subst (λ (p : RangePlace). moved_on p c ≡ c) (sym (l.placed ∙ ap (λ (i : Which). range_place.Told (record { which = i; stack = l.stack_meant.spot.seat.start.stack; first = l.first })) (last_word s.layouts type other word size is (subst (λ (j : Kind). known_kind (member_kind s.layouts j word) ≡ header type) stacked kind)))) refl)
        by true is l =
            let told : ToldRange = record { which = which_of word; stack = l.stack_meant.spot.seat.start.stack; first = l.first } in
            let at_stack : FoundAt b.syntax who l.stack_meant.slice (reference_of w.around s e m) m (seat_now k.cells l.stack_meant.spot) =
            at_some (λ (y : Meant). IsFound b.syntax who k.cells y (reference_of w.around s e m) m) (meant_by s seats e) l.stack_meant l.means (places_found b.syntax k.cells w.around s who m e accepted h.shows.whole layouts h.shows.frame runs) in
            let stack_is : IsAt b.syntax who (reference_of w.around s e m).reference None l.stack_meant.spot.seat = stack_at l.stack_meant.spot.told l.untold (subst (λ (c : Option SliceOf). FoundAt b.syntax who c (reference_of w.around s e m) m (seat_now k.cells l.stack_meant.spot)) l.whole at_stack) in
            subst (λ (o : Option Reference). Shown P b.syntax who (sem.going_on (packets.extract (reference_of w.around s (member e word) m).reference o) (reference_of w.around s (member e word) m).moment) (with_range (range_at k.cells place) k (λ r. extract place r k))) (sym (flag true is))
            (with_found P b w s who accepted layouts (member e word) x place m k (found_by P b w s who accepted layouts (member e word) x place m k means parts h runs) (λ r. packets.extract r (Some (reference_of w.around s e m).reference)) (λ r. extract place r k) h runs
            (λ t to now at ranged. record {
              shows =
                  subst (λ (p : RangePlace). Shows b.syntax who (packets.extract (reference_of w.around s (member e word) m).reference (Some (reference_of w.around s e m).reference) m) (extract p to k)) (sym l.placed)
                  (extract_next_shows b.syntax who (reference_of w.around s (member e word) m).reference (reference_of w.around s e m).reference t l.stack_meant.spot.seat type l.type l.size told to m k accepted scope at (found_form P b w s who accepted layouts (member e word) x type k.cells t fine seated kind means (whole_of P b w s who accepted layouts x place parts) now) ranged stack_is l.form (next_word word is) refl
                  (not_past (length (fields_in s.layouts l.type)) l.stack_meant.spot.seat.start.stack t (subst (λ (o : Option Told). seat_now k.cells (record { seat = x.spot.seat; told = o }) ≡ Some t) (l.told ∙ ap (λ (i : Which). Some (told_in (length (fields_in s.layouts l.type)) i l.stack_meant.spot.seat.start.stack)) (next_word word is)) now))
                  h.shows);
              waits = waits_on place to k h.waits;
            })) where
              stack_at : (o : Option Told) → o ≡ None → FoundAt b.syntax who None (reference_of w.around s e m) m (seat_now k.cells (record { seat = l.stack_meant.spot.seat; told = o })) → IsAt b.syntax who (reference_of w.around s e m).reference None l.stack_meant.spot.seat
              stack_at None none f = f.1
              stack_at (Some t) none f = absurd (cc none)

              not_past : (n of : ℕ) (t : Seat) → seat_now k.cells (record { seat = x.spot.seat; told = Some (told_in n Next of) }) ≡ Some t → stack_place k.cells of < stack_size k.cells of
              not_past n of t is = lt (nat_lt (stack_place k.cells of) (stack_size k.cells of)) refl is where
                lt : (u : Bool) → nat_lt (stack_place k.cells of) (stack_size k.cells of) ≡ u → cond (not u) None (Some (in_element n (element_by Next (stack_place k.cells of)) x.spot.seat)) ≡ Some t → stack_place k.cells of < stack_size k.cells of
                lt true e g = ltb-true (stack_place k.cells of) (stack_size k.cells of) e
                lt false e g = absurd (cc g)

  plain_member : (e : Exp16) (word : Name) (type : Name) (x : Meant) (place : RangePlace) (m : sem.Moment) (k : Moment) → kind_of s (member e word) ≡ header type → (is_stack (kind_of s e) ≡ false) → meant_by s seats (member e word) ≡ Some x → parts_meant s.layouts x ≡ Some place → Shown P b.syntax who m k → m.stopped ≡ None → UntoldParts x → Extracts (member e word) place m k
  plain_member e word type x place m k kind no_stack means parts h runs (inl untold) =
      fixed (member e word) x place type m k kind means parts h runs (ap (λ (t : Bool). cond (t && bytes_eq word (codes "next")) (Some (reference_of w.around s e m).reference) None) no_stack) (fixed_stays s.layouts x.spot place untold (parts_whole s.layouts x place parts))
  plain_member e word type x place m k kind no_stack means parts h runs (inr single) = absurd (no_parts s.layouts x.spot single.0 place single.1 (parts_whole s.layouts x place parts))

  by_kind : (e : Exp16) (word : Name) (type : Name) (x : Meant) (place : RangePlace) (m : sem.Moment) (k : Moment) → kind_of s (member e word) ≡ header type → meant_by s seats (member e word) ≡ Some x → parts_meant s.layouts x ≡ Some place → Shown P b.syntax who m k → m.stopped ≡ None → (j : Kind) → kind_of s e ≡ j → Extracts (member e word) place m k
  by_kind e word type x place m k kind means parts h runs (bits width) is = plain_member e word type x place m k kind (ap is_stack is) means parts h runs (at_some UntoldParts (behind_meant (spot_behind s.layouts (to_member word)) (meant_by s seats e)) x (subst (λ (j : Kind). member_meant s.layouts j word (meant_by s seats e) ≡ Some x) is means) (untold_member s.layouts word (meant_by s seats e) (meant_fits s seats e)))
  by_kind e word type x place m k kind means parts h runs unsized is = plain_member e word type x place m k kind (ap is_stack is) means parts h runs (at_some UntoldParts (behind_meant (spot_behind s.layouts (to_member word)) (meant_by s seats e)) x (subst (λ (j : Kind). member_meant s.layouts j word (meant_by s seats e) ≡ Some x) is means) (untold_member s.layouts word (meant_by s seats e) (meant_fits s seats e)))
  by_kind e word type x place m k kind means parts h runs boolean is = plain_member e word type x place m k kind (ap is_stack is) means parts h runs (at_some UntoldParts (behind_meant (spot_behind s.layouts (to_member word)) (meant_by s seats e)) x (subst (λ (j : Kind). member_meant s.layouts j word (meant_by s seats e) ≡ Some x) is means) (untold_member s.layouts word (meant_by s seats e) (meant_fits s seats e)))
  by_kind e word type x place m k kind means parts h runs error_code is = plain_member e word type x place m k kind (ap is_stack is) means parts h runs (at_some UntoldParts (behind_meant (spot_behind s.layouts (to_member word)) (meant_by s seats e)) x (subst (λ (j : Kind). member_meant s.layouts j word (meant_by s seats e) ≡ Some x) is means) (untold_member s.layouts word (meant_by s seats e) (meant_fits s seats e)))
  by_kind e word type x place m k kind means parts h runs (header inner) is = plain_member e word type x place m k kind (ap is_stack is) means parts h runs (at_some UntoldParts (behind_meant (spot_behind s.layouts (to_member word)) (meant_by s seats e)) x (subst (λ (j : Kind). member_meant s.layouts j word (meant_by s seats e) ≡ Some x) is means) (untold_member s.layouts word (meant_by s seats e) (meant_fits s seats e)))
  by_kind e word type x place m k kind means parts h runs (stack inner many) is = told_into e word type inner many x place m k kind is means parts h runs
  by_kind e word type x place m k kind means parts h runs (struct inner) is = plain_member e word type x place m k kind (ap is_stack is) means parts h runs (at_some UntoldParts (behind_meant (spot_behind s.layouts (to_member word)) (meant_by s seats e)) x (subst (λ (j : Kind). member_meant s.layouts j word (meant_by s seats e) ≡ Some x) is means) (untold_member s.layouts word (meant_by s seats e) (meant_fits s seats e)))
  by_kind e word type x place m k kind means parts h runs packet_in is = plain_member e word type x place m k kind (ap is_stack is) means parts h runs (at_some UntoldParts (behind_meant (spot_behind s.layouts (to_member word)) (meant_by s seats e)) x (subst (λ (j : Kind). member_meant s.layouts j word (meant_by s seats e) ≡ Some x) is means) (untold_member s.layouts word (meant_by s seats e) (meant_fits s seats e)))
  by_kind e word type x place m k kind means parts h runs packet_out is = plain_member e word type x place m k kind (ap is_stack is) means parts h runs (at_some UntoldParts (behind_meant (spot_behind s.layouts (to_member word)) (meant_by s seats e)) x (subst (λ (j : Kind). member_meant s.layouts j word (meant_by s seats e) ≡ Some x) is means) (untold_member s.layouts word (meant_by s seats e) (meant_fits s seats e)))
  by_kind e word type x place m k kind means parts h runs errors is = plain_member e word type x place m k kind (ap is_stack is) means parts h runs (at_some UntoldParts (behind_meant (spot_behind s.layouts (to_member word)) (meant_by s seats e)) x (subst (λ (j : Kind). member_meant s.layouts j word (meant_by s seats e) ≡ Some x) is means) (untold_member s.layouts word (meant_by s seats e) (meant_fits s seats e)))
  by_kind e word type x place m k kind means parts h runs (enumeration enum) is = plain_member e word type x place m k kind (ap is_stack is) means parts h runs (at_some UntoldParts (behind_meant (spot_behind s.layouts (to_member word)) (meant_by s seats e)) x (subst (λ (j : Kind). member_meant s.layouts j word (meant_by s seats e) ≡ Some x) is means) (untold_member s.layouts word (meant_by s seats e) (meant_fits s seats e)))
  by_kind e word type x place m k kind means parts h runs (one_of enum) is = plain_member e word type x place m k kind (ap is_stack is) means parts h runs (at_some UntoldParts (behind_meant (spot_behind s.layouts (to_member word)) (meant_by s seats e)) x (subst (λ (j : Kind). member_meant s.layouts j word (meant_by s seats e) ≡ Some x) is means) (untold_member s.layouts word (meant_by s seats e) (meant_fits s seats e)))
  by_kind e word type x place m k kind means parts h runs table is = plain_member e word type x place m k kind (ap is_stack is) means parts h runs (at_some UntoldParts (behind_meant (spot_behind s.layouts (to_member word)) (meant_by s seats e)) x (subst (λ (j : Kind). member_meant s.layouts j word (meant_by s seats e) ≡ Some x) is means) (untold_member s.layouts word (meant_by s seats e) (meant_fits s seats e)))
  by_kind e word type x place m k kind means parts h runs applied is = plain_member e word type x place m k kind (ap is_stack is) means parts h runs (at_some UntoldParts (behind_meant (spot_behind s.layouts (to_member word)) (meant_by s seats e)) x (subst (λ (j : Kind). member_meant s.layouts j word (meant_by s seats e) ≡ Some x) is means) (untold_member s.layouts word (meant_by s seats e) (meant_fits s seats e)))
  by_kind e word type x place m k kind means parts h runs (object obj) is = plain_member e word type x place m k kind (ap is_stack is) means parts h runs (at_some UntoldParts (behind_meant (spot_behind s.layouts (to_member word)) (meant_by s seats e)) x (subst (λ (j : Kind). member_meant s.layouts j word (meant_by s seats e) ≡ Some x) is means) (untold_member s.layouts word (meant_by s seats e) (meant_fits s seats e)))
  by_kind e word type x place m k kind means parts h runs items is = plain_member e word type x place m k kind (ap is_stack is) means parts h runs (at_some UntoldParts (behind_meant (spot_behind s.layouts (to_member word)) (meant_by s seats e)) x (subst (λ (j : Kind). member_meant s.layouts j word (meant_by s seats e) ≡ Some x) is means) (untold_member s.layouts word (meant_by s seats e) (meant_fits s seats e)))
  by_kind e word type x place m k kind means parts h runs nothing is = plain_member e word type x place m k kind (ap is_stack is) means parts h runs (at_some UntoldParts (behind_meant (spot_behind s.layouts (to_member word)) (meant_by s seats e)) x (subst (λ (j : Kind). member_meant s.layouts j word (meant_by s seats e) ≡ Some x) is means) (untold_member s.layouts word (meant_by s seats e) (meant_fits s seats e)))
  by_kind e word type x place m k kind means parts h runs unknown is = plain_member e word type x place m k kind (ap is_stack is) means parts h runs (at_some UntoldParts (behind_meant (spot_behind s.layouts (to_member word)) (meant_by s seats e)) x (subst (λ (j : Kind). member_meant s.layouts j word (meant_by s seats e) ≡ Some x) is means) (untold_member s.layouts word (meant_by s seats e) (meant_fits s seats e)))

  pub extracts : (f : Exp16) (x : Meant) (place : RangePlace) (type : Name) (m : sem.Moment) (k : Moment) → kind_of s f ≡ header type → meant_by s seats f ≡ Some x → parts_meant s.layouts x ≡ Some place → Shown P b.syntax who m k → m.stopped ≡ None → Extracts f place m k
  extracts (name text) x place type m k kind means parts h runs = fixed (name text) x place type m k kind means parts h runs refl (fixed_stays s.layouts x.spot place (at_some Untold (meant_by s seats (name text)) x means (untold_name (seat_of_name seats text))) (parts_whole s.layouts x place parts))
  extracts (member e word) x place type m k kind means parts h runs = by_kind e word type x place m k kind means parts h runs (kind_of s e) refl
  extracts (index e at) x place type m k kind means parts h runs = fixed (index e at) x place type m k kind means parts h runs refl (fixed_stays s.layouts x.spot place (at_some Untold (meant_by s seats (index e at)) x means (untold_element s.layouts at.value (meant_by s seats e) (meant_fits s seats e))) (parts_whole s.layouts x place parts))
  extracts (slice e high low) x place type m k kind means parts h runs = absurd (cut (meant_by s seats e) means) where
    cut : (o : Option Meant) → slice_meant (slice_of high low) o ≡ Some x → ⊥
    cut None e = cc e
    cut (Some y) e = let same : record { spot = y.spot; slice = Some (sem.cut_to (slice_of high low) y.slice) } ≡ x = cc e in cc (ap (λ (u : Meant). parts_meant s.layouts u) same ∙ parts)
  extracts (literal n) x place type m k kind means parts h runs = absurd (cc means)
  extracts (truth holds) x place type m k kind means parts h runs = absurd (cc means)
  extracts error x place type m k kind means parts h runs = absurd (cc means)
  extracts (call g other) x place type m k kind means parts h runs = absurd (cc means)
  extracts (lookahead e to other) x place type m k kind means parts h runs = absurd (cc means)
  extracts (cast to e) x place type m k kind means parts h runs = absurd (cc means)
  extracts (unary operator e) x place type m k kind means parts h runs = absurd (cc means)
  extracts (binary operator a c) x place type m k kind means parts h runs = absurd (cc means)
  extracts (choice c a d) x place type m k kind means parts h runs = absurd (cc means)
  extracts (parenthesized e) x place type m k kind means parts h runs = absurd (cc means)
  extracts no_arguments x place type m k kind means parts h runs = absurd (cc means)
  extracts (argument before last) x place type m k kind means parts h runs = absurd (cc means)
  extracts (listed es) x place type m k kind means parts h runs = absurd (cc means)

  -- the argument is found as an l-value
  argument_is : (f : Exp16) (x : Meant) (m : sem.Moment) → meant_by s seats f ≡ Some x → argument_at w s written_header f m ≡ by_reference (reference_of w.around s f m)
  argument_is (name text) x m means = refl
  argument_is (member e word) x m means = refl
  argument_is (index e at) x m means = refl
  argument_is (slice e high low) x m means = refl
  argument_is (literal n) x m means = absurd (cc means)
  argument_is (truth holds) x m means = absurd (cc means)
  argument_is error x m means = absurd (cc means)
  argument_is (call g other) x m means = absurd (cc means)
  argument_is (lookahead e to other) x m means = absurd (cc means)
  argument_is (cast to e) x m means = absurd (cc means)
  argument_is (unary operator e) x m means = absurd (cc means)
  argument_is (binary operator a c) x m means = absurd (cc means)
  argument_is (choice c a d) x m means = absurd (cc means)
  argument_is (parenthesized e) x m means = absurd (cc means)
  argument_is no_arguments x m means = absurd (cc means)
  argument_is (argument before last) x m means = absurd (cc means)
  argument_is (listed es) x m means = absurd (cc means)

  pub extract_does : (e handed f : Exp16) (type word : Name) → kind_of s e ≡ packet_in → arguments_of handed ≡ f ∷ [] → kind_of s f ≡ header type → IfSome (expression_ready b s seats (call (member e word) handed)) (RunsAlike P b w z s who [] (expression (call (member e word) handed)))
  extract_does e handed f type word kind one headed =
      subst (λ (j : Kind). IfSome (option_map does (method_deed b s seats j e word (arguments_of handed))) (RunsAlike P b w z s who [] (expression (call (member e word) handed)))) (sym kind)
      (subst (λ (es : List Exp16). IfSome (option_map does (only_called (codes "extract") word (option_map extract_header (range_given s seats (given_at es 0))))) (RunsAlike P b w z s who [] (expression (call (member e word) handed)))) (sym one)
      (by_word (bytes_eq word (codes "extract")) refl)) where
        leaves : (x : Meant) (m : sem.Moment) → bytes_eq word (codes "extract") ≡ true → meant_by s seats f ≡ Some x → method_call w s (kind_of s e) e word handed m ≡ sem.going_on (packets.extract (reference_of w.around s f m).reference (stack_of_next w.around s f m)) (reference_of w.around s f m).moment
        leaves x m is means =
            ap (λ (j : Kind). method_call w s j e word handed m) kind
            ∙ (ap (λ (t : Bool). let y = arguments_from w s (wanted_by (cond t (Some (extern_at (parser_position ∷ []) (written_header ∷ []))) None)) (arguments_of handed) m in sem.going_on (packets.extract (target_at y.given 0) (first_stack_of_next w.around s (arguments_of handed) m)) y.moment) is
            ∙ (ap (λ (es : List Exp16). let y = arguments_from w s (written_header ∷ []) es m in sem.going_on (packets.extract (target_at y.given 0) (first_stack_of_next w.around s es m)) y.moment) one
            ∙ ap (λ (g : Given × sem.Moment). sem.going_on (packets.extract g.0.target (stack_of_next w.around s f m)) g.1) (argument_is f x m means)))

        by_parts : (x : Meant) (q : Option RangePlace) → bytes_eq word (codes "extract") ≡ true → meant_by s seats f ≡ Some x → parts_meant s.layouts x ≡ q → IfSome (option_map does (option_map extract_header q)) (RunsAlike P b w z s who [] (expression (call (member e word) handed)))
        by_parts x None is means parts = tt
        by_parts x (Some place) is means parts =
            called_alike P b w z s who accepted layouts seated fine scope (member e word) handed (extract_header place)
            (λ m k h runs. subst (λ (y : sem.Moment). Shown P b.syntax who y (with_range (range_at k.cells place) k (λ r. extract place r k))) (sym (leaves x m is means)) (extracts f x place type m k headed means parts h runs))

        by_meant : (o : Option Meant) → bytes_eq word (codes "extract") ≡ true → meant_by s seats f ≡ o → IfSome (option_map does (option_map extract_header (option_and_then (parts_meant s.layouts) o))) (RunsAlike P b w z s who [] (expression (call (member e word) handed)))
        by_meant None is means = tt
        by_meant (Some x) is means = by_parts x (parts_meant s.layouts x) is means refl

        by_word : (t : Bool) → bytes_eq word (codes "extract") ≡ t → IfSome (option_map does (cond t (option_map extract_header (range_given s seats f)) None)) (RunsAlike P b w z s who [] (expression (call (member e word) handed)))
        by_word true is = by_meant (meant_by s seats f) is refl
        by_word false is = tt

pub headers_extracted : HeadersExtracted
headers_extracted calls b w z from to n s who e handed f type word accepted at kind one headed =
    extract_does (Waits calls b.syntax) b w z s who accepted at.layouts at.seated at.fine (body_scope (length (variable_kinds b.syntax)) from to n who at.body) e handed f type word kind one headed
