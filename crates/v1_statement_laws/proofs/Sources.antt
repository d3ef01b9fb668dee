-- Headers and stacks that are read: what an l-value gives as a value that no stack tells, and its parts.
use Rattle.std.proofs.Common.{◌≡◌, ℕ, Bool, true, false, cond, Option, Some, None, IfSome, List, [], ◌∷◌, ◌++◌, length, refl, sym, ap, ◌∙◌, subst}
use Rattle.std.specs.Prelude.{option_map, codes}
use Rattle.p416_syntax.specs.Tree.{Exp16, literal, truth, error, name, member, index, slice, call, lookahead, cast, unary, binary, choice, parenthesized, no_arguments, argument, listed}
use Rattle.p416_syntax.specs.Names.{Name, has_name}
use Rattle.p416_syntax.specs.Kinds.{Kind, bits, unsized, boolean, error_code, header, stack, struct, packet_in, packet_out, errors, enumeration, one_of, table, applied, object, items, nothing, unknown}
use Rattle.p416_syntax.specs.Scopes.{Layout, fields_in, Scope}
use Rattle.p416_syntax.specs.BuiltIn.{members_of, error_names}
use Rattle.p416_syntax.specs.Calls.{Place, owner, a_stack}
use Rattle.p416_syntax.specs.Expressions.{kind_of, known_kind, member_kind, element_kind}
use Rattle.p416_syntax.specs.Breaks.{BreaksNone, program_rules}
use Rattle.p416_syntax.specs.Declarations.{layouts_of}
use Rattle.v1_core.specs.Values.{Value, Step, to_member, to_element, part_of, part_at, Slice}
use Rattle.v1_core.specs.Frames as sem
use Rattle.v1_core.specs.Frames.{Frame, Reference, stepped, owned, within_slice, read}
use Rattle.v1_core.specs.Surroundings as meaning
use Rattle.v1_core.specs.Numbered.{InScope}
use Rattle.v1_core.specs.Expressions.{Valued, valued, slice_of, member_value, value_of, Referred, referred, member_reference, reference_of}
use Rattle.v1_core.specs.Cells.{Cells}
use Rattle.v1_core.specs.Seats.{Form, slot_form, header_form, stack_form, struct_form, no_form, Seat, stepped_seat}
use Rattle.v1_core.specs.PackedValues.{seat_value}
use Rattle.v1_ready_forms.specs.Named.{NamedSeat, seat_of_name, seats_in}
use Rattle.v1_ready_forms.specs.Ways.{Way, its_value, through_member, through_element, through_told, which_of}
use Rattle.v1_ready_forms.specs.Spots.{Told, Spot, spot_with, spot_behind, told_in, told_spot}
use Rattle.v1_ready_blocks.specs.declared.places.RangePlace.{RangePlace}
use Rattle.v1_ready_blocks.specs.Moments.{Moment}
use Rattle.v1_ready_blocks.specs.Tests.{parts}
use Rattle.v1_place_laws.specs.Places.{Meant, meant, behind_meant, slice_meant, member_meant, meant_by, range_place_of}
use Rattle.v1_place_laws.specs.Finding.{IsAt, FoundAt, IsFound, seat_now}
use Rattle.v1_place_laws.proofs.Finding.{places_found}
use Rattle.v1_place_laws.proofs.Marking.{place_read}
use Rattle.v1_ready_statements.specs.Around.{Around}
use Rattle.v1_ready_statements.specs.Tested.{range_behind, way_range, asked_source, member_source, ready_source}
use Rattle.v1_statement_laws.specs.Behind.{Shown}

at_some : {A : Type 0} (B : A → Type 0) (o : Option A) (x : A) → o ≡ Some x → IfSome o B → B x
at_some {A = A} B o x is h = subst (λ (p : Option A). IfSome p B) is h

-- kinds of values with parts

abbrev pub Composite : Kind → Type 0
Composite (header type) = Unit {0}
Composite (stack type size) = Unit {0}
Composite (struct type) = Unit {0}
Composite k = ⊥

flagged : (t : Bool) (k : Kind) → (Composite k → ⊥) → Composite (known_kind (cond t (Some k) None)) → ⊥
flagged true k f h = f h
flagged false k f h = h

pub owner_composite : (types : List Layout) (k : Kind) (word : Name) → Composite (known_kind (member_kind types k word)) → Composite k
owner_composite types (bits width) word h = absurd h
owner_composite types unsized word h = absurd h
owner_composite types boolean word h = absurd h
owner_composite types error_code word h = absurd h
owner_composite types (header type) word h = tt
owner_composite types (stack type size) word h = tt
owner_composite types (struct type) word h = tt
owner_composite types packet_in word h = absurd h
owner_composite types packet_out word h = absurd h
owner_composite types errors word h = absurd (flagged (has_name error_names word) error_code (λ x. x) h)
owner_composite types (enumeration enum) word h = absurd (flagged (has_name (members_of enum) word) (one_of enum) (λ x. x) h)
owner_composite types (one_of enum) word h = absurd h
owner_composite types table word h = absurd h
owner_composite types applied word h = absurd (flagged (has_name (codes "hit" ∷ codes "miss" ∷ []) word) boolean (λ x. x) h)
owner_composite types (object obj) word h = absurd h
owner_composite types items word h = absurd h
owner_composite types nothing word h = absurd h
owner_composite types unknown word h = absurd h

pub element_stack : (k : Kind) → Composite (element_kind k) → (type : Name) × ((size : ℕ) × (k ≡ stack type size))
element_stack (bits width) h = absurd h
element_stack unsized h = absurd h
element_stack boolean h = absurd h
element_stack error_code h = absurd h
element_stack (header type) h = absurd h
element_stack (stack type size) h = (type, (size, refl))
element_stack (struct type) h = absurd h
element_stack packet_in h = absurd h
element_stack packet_out h = absurd h
element_stack errors h = absurd h
element_stack (enumeration enum) h = absurd h
element_stack (one_of enum) h = absurd h
element_stack table h = absurd h
element_stack applied h = absurd h
element_stack (object obj) h = absurd h
element_stack items h = absurd h
element_stack nothing h = absurd h
element_stack unknown h = absurd h

-- reading a part

part_more : (steps : List Step) (step : Step) (v : Value) → part_at (steps ++ step ∷ []) v ≡ part_of (part_at steps v) step
part_more [] step v = refl
part_more (x ∷ steps) step v = part_more steps step (part_of v x)

read_stepped : (f : Frame) (r : Reference) (step : Step) → r.slice ≡ None → read f (stepped r step) ≡ part_of (read f r) step
read_stepped f r step whole =
    ap (λ (c : Option Slice). within_slice c (part_at (r.steps ++ step ∷ []) (owned f r.owner))) whole
    ∙ (part_more r.steps step (owned f r.owner)
    ∙ ap (λ (v : Value). part_of v step) (sym (ap (λ (c : Option Slice). within_slice c (part_at r.steps (owned f r.owner))) whole)))

-- what an untold part is a part of
pub record Behind (o : Option Meant) (x : Meant) : Type 0 where
  pub owner_meant : Meant
  pub means : o ≡ Some owner_meant
  pub whole : owner_meant.slice ≡ None
  pub untold : owner_meant.spot.told ≡ None

pub behind_is : (types : List Layout) (step : Step) (o : Option Meant) (x : Meant) → behind_meant (spot_behind types step) o ≡ Some x → x.spot.told ≡ None → Behind o x
behind_is types step None x is untold = absurd (cc is)
behind_is types step (Some y) x is untold = by y.slice refl is where
  told_is : (q : Option Seat) → meant None (spot_with y.spot.told q) ≡ Some x → y.spot.told ≡ None
  told_is None e = absurd (cc e)
  told_is (Some u) e = let same : record { spot = record { seat = u; told = y.spot.told }; slice = None } ≡ x = cc e in ap (λ (k : Meant). k.spot.told) same ∙ untold

  by : (cut : Option Slice) → y.slice ≡ cut → behind_meant (spot_behind types step) (Some (record { spot = y.spot; slice = cut })) ≡ Some x → Behind (Some y) x
  by (Some c) whole e = absurd (cc e)
  by None whole e = record {
    owner_meant = y;
    means = refl;
    whole = whole;
    untold = told_is (stepped_seat types y.spot.seat.depth y.spot.seat.form y.spot.seat.start step) e;
  }

pub told_never : (types : List Layout) (word : Name) (o : Option Meant) → IfSome (behind_meant (told_spot types (which_of word)) o) (λ x. x.spot.told ≡ None → ⊥)
told_never types word None = tt
told_never types word (Some y) = by y.slice y.spot.seat.form y.spot.told where
  some_told : (d : Told) (q : Option Seat) → IfSome (meant None (spot_with (Some d) q)) (λ x. x.spot.told ≡ None → ⊥)
  some_told d None = tt
  some_told d (Some u) = λ e. cc e

  by : (cut : Option Slice) (form : Form) (told : Option Told) → IfSome (behind_meant (told_spot types (which_of word)) (Some (record { spot = record { seat = record { depth = y.spot.seat.depth; form = form; start = y.spot.seat.start; owner = y.spot.seat.owner }; told = told }; slice = cut }))) (λ x. x.spot.told ≡ None → ⊥)
  by (Some c) form told = tt
  by None (slot_form of) told = tt
  by None (header_form type) told = tt
  by None (stack_form type size) None = some_told (told_in (length (fields_in types type)) (which_of word) y.spot.seat.start.stack) (stepped_seat types y.spot.seat.depth (stack_form type size) y.spot.seat.start (to_element 0))
  by None (stack_form type size) (Some d) = tt
  by None (struct_form type) told = tt
  by None no_form told = tt

pub cut_never : (s : Slice) (o : Option Meant) → IfSome (slice_meant s o) (λ x. x.slice ≡ None → ⊥)
cut_never s None = tt
cut_never s (Some x) = λ e. cc e

module _ (P : Cells → Type 0) (b : Around) (w : meaning.World) (s : Scope) (who : InScope) (accepted : BreaksNone b.syntax program_rules) (layouts : s.layouts ≡ layouts_of b.syntax.decls) where
  abbrev seats : List NamedSeat
  seats = seats_in b.syntax w.around.roots who

  -- where an untold l-value is
  pub record IsHere (f : Exp16) (x : Meant) (m : sem.Moment) : Type 0 where
    pub at : IsAt b.syntax who (reference_of w.around s f m).reference None x.spot.seat
    pub stays : (reference_of w.around s f m).moment ≡ m

  pub is_here : (f : Exp16) (x : Meant) (m : sem.Moment) (k : Moment) → meant_by s seats f ≡ Some x → x.slice ≡ None → x.spot.told ≡ None → Shown P b.syntax who m k → m.stopped ≡ None → IsHere f x m
  is_here f x m k means whole untold h runs =
      let found : FoundAt b.syntax who x.slice (reference_of w.around s f m) m (seat_now k.cells x.spot) =
      at_some (λ (y : Meant). IsFound b.syntax who k.cells y (reference_of w.around s f m) m) (meant_by s seats f) x means (places_found b.syntax k.cells w.around s who m f accepted h.shows.whole layouts h.shows.frame runs) in
      by x.spot.told untold (subst (λ (c : Option Slice). FoundAt b.syntax who c (reference_of w.around s f m) m (seat_now k.cells x.spot)) whole found) where
        by : (o : Option Told) → o ≡ None → FoundAt b.syntax who None (reference_of w.around s f m) m (seat_now k.cells (record { seat = x.spot.seat; told = o })) → IsHere f x m
        by None e g = record { at = g.1; stays = g.0 }
        by (Some t) e g = absurd (cc e)

  -- evaluating it reads it
  abbrev Reads : Exp16 → Place → sem.Moment → Type 0
  Reads f p m = value_of w s p f m ≡ valued (read m.frame (reference_of w.around s f m).reference) m

  one_step : (f : Exp16) (r : Referred) (v : Value) (m : sem.Moment) (step : Step) → r.reference.slice ≡ None → v ≡ read m.frame r.reference → valued (part_of v step) m ≡ valued (read m.frame (stepped r.reference step)) m
  one_step f r v m step whole is = ap (λ (u : Value). valued u m) (ap (λ (u : Value). part_of u step) is ∙ sym (read_stepped m.frame r.reference step whole))

  pub untold_reads : (f : Exp16) (x : Meant) (p : Place) (m : sem.Moment) (k : Moment) → meant_by s seats f ≡ Some x → x.slice ≡ None → x.spot.told ≡ None → Composite (kind_of s f) → Shown P b.syntax who m k → m.stopped ≡ None → Reads f p m
  untold_reads (name text) x p m k means whole untold composite h runs = refl
  untold_reads (member e word) x p m k means whole untold composite h runs =
      by (kind_of s e) refl (owner_composite s.layouts (kind_of s e) word composite) (λ y a c d g. untold_reads e y owner m k a c d g h runs) where
        step_of : (j : Kind) → kind_of s e ≡ j → Composite j → ((v : Valued) → member_value j word v ≡ valued (part_of v.value (to_member word)) v.moment) → ((r : Referred) → member_reference j word r ≡ referred (stepped r.reference (to_member word)) r.moment) → behind_meant (spot_behind s.layouts (to_member word)) (meant_by s seats e) ≡ Some x → ((y : Meant) → meant_by s seats e ≡ Some y → y.slice ≡ None → y.spot.told ≡ None → Composite (kind_of s e) → Reads e owner m) → Reads (member e word) p m
        step_of j is of values references behind rest =
            let y : Behind (meant_by s seats e) x = behind_is s.layouts (to_member word) (meant_by s seats e) x behind untold in
            let here : IsHere e y.owner_meant m = is_here e y.owner_meant m k y.means y.whole y.untold h runs in
            let inner : Reads e owner m = rest y.owner_meant y.means y.whole y.untold (subst Composite (sym is) of) in
            ap (λ (i : Kind). member_value i word (value_of w s owner e m)) is
            ∙ (values (value_of w s owner e m)
            ∙ (ap (λ (v : Valued). valued (part_of v.value (to_member word)) v.moment) inner
            ∙ (one_step e (reference_of w.around s e m) (read m.frame (reference_of w.around s e m).reference) m (to_member word) here.at.cuts refl
            ∙ ap (λ (r : Referred). valued (read m.frame r.reference) m) (sym (ap (λ (i : Kind). member_reference i word (reference_of w.around s e m)) is ∙ references (reference_of w.around s e m))))))

        by : (j : Kind) → kind_of s e ≡ j → Composite j → ((y : Meant) → meant_by s seats e ≡ Some y → y.slice ≡ None → y.spot.told ≡ None → Composite (kind_of s e) → Reads e owner m) → Reads (member e word) p m
        by (bits width) is of rest = absurd of
        by unsized is of rest = absurd of
        by boolean is of rest = absurd of
        by error_code is of rest = absurd of
        by (header type) is of rest = step_of (header type) is tt (λ v. refl) (λ r. refl) (subst (λ (i : Kind). member_meant s.layouts i word (meant_by s seats e) ≡ Some x) is means) rest
        by (stack type size) is of rest = absurd (at_some (λ (y : Meant). y.spot.told ≡ None → ⊥) (behind_meant (told_spot s.layouts (which_of word)) (meant_by s seats e)) x (subst (λ (i : Kind). member_meant s.layouts i word (meant_by s seats e) ≡ Some x) is means) (told_never s.layouts word (meant_by s seats e)) untold)
        by (struct type) is of rest = step_of (struct type) is tt (λ v. refl) (λ r. refl) (subst (λ (i : Kind). member_meant s.layouts i word (meant_by s seats e) ≡ Some x) is means) rest
        by packet_in is of rest = absurd of
        by packet_out is of rest = absurd of
        by errors is of rest = absurd of
        by (enumeration enum) is of rest = absurd of
        by (one_of enum) is of rest = absurd of
        by table is of rest = absurd of
        by applied is of rest = absurd of
        by (object obj) is of rest = absurd of
        by items is of rest = absurd of
        by nothing is of rest = absurd of
        by unknown is of rest = absurd of
  untold_reads (index e at) x p m k means whole untold composite h runs =
      let stacked = element_stack (kind_of s e) composite in
      let y : Behind (meant_by s seats e) x = behind_is s.layouts (to_element at.value) (meant_by s seats e) x means untold in
      let here : IsHere e y.owner_meant m = is_here e y.owner_meant m k y.means y.whole y.untold h runs in
      let inner : Reads e a_stack m = untold_reads e y.owner_meant a_stack m k y.means y.whole y.untold (subst Composite (sym stacked.1.1) tt) h runs in
      ap (λ (v : Valued). valued (part_of v.value (to_element at.value)) v.moment) inner
      ∙ one_step e (reference_of w.around s e m) (read m.frame (reference_of w.around s e m).reference) m (to_element at.value) here.at.cuts refl
  untold_reads (slice e high low) x p m k means whole untold composite h runs = absurd (at_some (λ (y : Meant). y.slice ≡ None → ⊥) (meant_by s seats (slice e high low)) x means (cut_never (slice_of high low) (meant_by s seats e)) whole)
  untold_reads (choice c a d) x p m k means whole untold composite h runs = absurd (cc means)
  untold_reads (literal n) x p m k means whole untold composite h runs = absurd (cc means)
  untold_reads (truth holds) x p m k means whole untold composite h runs = absurd (cc means)
  untold_reads error x p m k means whole untold composite h runs = absurd (cc means)
  untold_reads (call g other) x p m k means whole untold composite h runs = absurd (cc means)
  untold_reads (lookahead e to other) x p m k means whole untold composite h runs = absurd (cc means)
  untold_reads (cast to e) x p m k means whole untold composite h runs = absurd (cc means)
  untold_reads (unary operator e) x p m k means whole untold composite h runs = absurd (cc means)
  untold_reads (binary operator a c) x p m k means whole untold composite h runs = absurd (cc means)
  untold_reads (parenthesized e) x p m k means whole untold composite h runs = absurd (cc means)
  untold_reads no_arguments x p m k means whole untold composite h runs = absurd (cc means)
  untold_reads (argument before last) x p m k means whole untold composite h runs = absurd (cc means)
  untold_reads (listed es) x p m k means whole untold composite h runs = absurd (cc means)

  -- which is what stands at its seat
  pub untold_value : (f : Exp16) (x : Meant) (p : Place) (m : sem.Moment) (k : Moment) → meant_by s seats f ≡ Some x → x.slice ≡ None → x.spot.told ≡ None → Composite (kind_of s f) → Shown P b.syntax who m k → m.stopped ≡ None → value_of w s p f m ≡ valued (seat_value (layouts_of b.syntax.decls) k.cells x.spot.seat) m
  untold_value f x p m k means whole untold composite h runs =
      let here : IsHere f x m = is_here f x m k means whole untold h runs in
      untold_reads f x p m k means whole untold composite h runs
      ∙ ap (λ (u : Value). valued u m) (ap (λ (g : Frame). read g (reference_of w.around s f m).reference) h.shows.frame ∙ place_read b.syntax k.cells who (reference_of w.around s f m).reference None x.spot.seat h.shows.whole here.at)

-- the parts of an l-value are those of what it means

abbrev pub spot_meant : Option Meant → Option Spot
spot_meant None = None
spot_meant (Some x) = of x.slice where
  of : Option Slice → Option Spot
  of None = Some x.spot
  of (Some c) = None

spot_back : (o : Option Spot) → spot_meant (meant None o) ≡ o
spot_back None = refl
spot_back (Some x) = refl

pub spot_of : (o : Option Meant) (x : Meant) → o ≡ Some x → x.slice ≡ None → spot_meant o ≡ Some x.spot
spot_of o x is whole = ap spot_meant is ∙ by x.slice whole where
  by : (c : Option Slice) → c ≡ None → spot_meant (Some (record { spot = x.spot; slice = c })) ≡ Some x.spot
  by None e = refl
  by (Some d) e = absurd (cc e)

further_range : (rest : Spot → Option RangePlace) (further : Spot → Option Spot) (o : Option Meant) → range_behind (λ x. range_behind rest (further x)) (spot_meant o) ≡ range_behind rest (spot_meant (behind_meant further o))
further_range rest further None = refl
further_range rest further (Some x) = by x.slice where
  by : (c : Option Slice) → range_behind (λ x. range_behind rest (further x)) (spot_meant (Some (record { spot = x.spot; slice = c }))) ≡ range_behind rest (spot_meant (behind_meant further (Some (record { spot = x.spot; slice = c }))))
  by None = ap (range_behind rest) (sym (spot_back (further x.spot)))
  by (Some d) = refl

no_cut : (rest : Spot → Option RangePlace) (c : Slice) (o : Option Meant) → option_map parts (range_behind rest (spot_meant (slice_meant c o))) ≡ None
no_cut rest c None = refl
no_cut rest c (Some x) = refl

module _ (s : Scope) (seats : List NamedSeat) (tables : Name → Option ℕ) where
  abbrev Parts : Way → Exp16 → Type 0
  Parts way f = asked_source s seats tables way f ≡ option_map parts (range_behind (way_range s.layouts way) (spot_meant (meant_by s seats f)))

  member_parts : (k : Kind) (e : Exp16) (word : Name) (way : Way) → ((further : Way) → Parts further e) → member_source k word way (λ further. asked_source s seats tables further e) ≡ option_map parts (range_behind (way_range s.layouts way) (spot_meant (member_meant s.layouts k word (meant_by s seats e))))
  member_parts (bits width) e word way rest = rest (through_member word way) ∙ ap (λ (o : Option RangePlace). option_map parts o) (further_range (way_range s.layouts way) (spot_behind s.layouts (to_member word)) (meant_by s seats e))
  member_parts unsized e word way rest = rest (through_member word way) ∙ ap (λ (o : Option RangePlace). option_map parts o) (further_range (way_range s.layouts way) (spot_behind s.layouts (to_member word)) (meant_by s seats e))
  member_parts boolean e word way rest = rest (through_member word way) ∙ ap (λ (o : Option RangePlace). option_map parts o) (further_range (way_range s.layouts way) (spot_behind s.layouts (to_member word)) (meant_by s seats e))
  member_parts error_code e word way rest = rest (through_member word way) ∙ ap (λ (o : Option RangePlace). option_map parts o) (further_range (way_range s.layouts way) (spot_behind s.layouts (to_member word)) (meant_by s seats e))
  member_parts (header type) e word way rest = rest (through_member word way) ∙ ap (λ (o : Option RangePlace). option_map parts o) (further_range (way_range s.layouts way) (spot_behind s.layouts (to_member word)) (meant_by s seats e))
  member_parts (stack type size) e word way rest = rest (through_told (which_of word) way) ∙ ap (λ (o : Option RangePlace). option_map parts o) (further_range (way_range s.layouts way) (told_spot s.layouts (which_of word)) (meant_by s seats e))
  member_parts (struct type) e word way rest = rest (through_member word way) ∙ ap (λ (o : Option RangePlace). option_map parts o) (further_range (way_range s.layouts way) (spot_behind s.layouts (to_member word)) (meant_by s seats e))
  member_parts packet_in e word way rest = rest (through_member word way) ∙ ap (λ (o : Option RangePlace). option_map parts o) (further_range (way_range s.layouts way) (spot_behind s.layouts (to_member word)) (meant_by s seats e))
  member_parts packet_out e word way rest = rest (through_member word way) ∙ ap (λ (o : Option RangePlace). option_map parts o) (further_range (way_range s.layouts way) (spot_behind s.layouts (to_member word)) (meant_by s seats e))
  member_parts errors e word way rest = rest (through_member word way) ∙ ap (λ (o : Option RangePlace). option_map parts o) (further_range (way_range s.layouts way) (spot_behind s.layouts (to_member word)) (meant_by s seats e))
  member_parts (enumeration enum) e word way rest = rest (through_member word way) ∙ ap (λ (o : Option RangePlace). option_map parts o) (further_range (way_range s.layouts way) (spot_behind s.layouts (to_member word)) (meant_by s seats e))
  member_parts (one_of enum) e word way rest = rest (through_member word way) ∙ ap (λ (o : Option RangePlace). option_map parts o) (further_range (way_range s.layouts way) (spot_behind s.layouts (to_member word)) (meant_by s seats e))
  member_parts table e word way rest = rest (through_member word way) ∙ ap (λ (o : Option RangePlace). option_map parts o) (further_range (way_range s.layouts way) (spot_behind s.layouts (to_member word)) (meant_by s seats e))
  member_parts applied e word way rest = rest (through_member word way) ∙ ap (λ (o : Option RangePlace). option_map parts o) (further_range (way_range s.layouts way) (spot_behind s.layouts (to_member word)) (meant_by s seats e))
  member_parts (object obj) e word way rest = rest (through_member word way) ∙ ap (λ (o : Option RangePlace). option_map parts o) (further_range (way_range s.layouts way) (spot_behind s.layouts (to_member word)) (meant_by s seats e))
  member_parts items e word way rest = rest (through_member word way) ∙ ap (λ (o : Option RangePlace). option_map parts o) (further_range (way_range s.layouts way) (spot_behind s.layouts (to_member word)) (meant_by s seats e))
  member_parts nothing e word way rest = rest (through_member word way) ∙ ap (λ (o : Option RangePlace). option_map parts o) (further_range (way_range s.layouts way) (spot_behind s.layouts (to_member word)) (meant_by s seats e))
  member_parts unknown e word way rest = rest (through_member word way) ∙ ap (λ (o : Option RangePlace). option_map parts o) (further_range (way_range s.layouts way) (spot_behind s.layouts (to_member word)) (meant_by s seats e))

  abbrev NoChoice : Exp16 → Type 0
  NoChoice (choice c a d) = ⊥
  NoChoice (member e word) = NoChoice e
  NoChoice (index e at) = NoChoice e
  NoChoice e = Unit {0}

  parts_by : (f : Exp16) → NoChoice f → (way : Way) → Parts way f
  parts_by (name text) none way = ap (λ (o : Option Spot). option_map parts (range_behind (way_range s.layouts way) o)) (sym (spot_back (spot_with None (seat_of_name seats text))))
  parts_by (member e word) none way = member_parts (kind_of s e) e word way (λ further. parts_by e none further)
  parts_by (index e at) none way = parts_by e none (through_element at.value way) ∙ ap (λ (o : Option RangePlace). option_map parts o) (further_range (way_range s.layouts way) (spot_behind s.layouts (to_element at.value)) (meant_by s seats e))
  parts_by (slice e high low) none way = sym (no_cut (way_range s.layouts way) (slice_of high low) (meant_by s seats e))
  parts_by (choice c a d) none way = absurd none
  parts_by (literal n) none way = refl
  parts_by (truth holds) none way = refl
  parts_by error none way = refl
  parts_by (call g other) none way = refl
  parts_by (lookahead e to other) none way = refl
  parts_by (cast to e) none way = refl
  parts_by (unary operator e) none way = refl
  parts_by (binary operator a c) none way = refl
  parts_by (parenthesized e) none way = refl
  parts_by no_arguments none way = refl
  parts_by (argument before last) none way = refl
  parts_by (listed es) none way = refl

  -- what means something is no choice
  meant_chosen : (f : Exp16) (x : Meant) → meant_by s seats f ≡ Some x → NoChoice f
  meant_chosen (name text) x means = tt
  meant_chosen (member e word) x means = inner (meant_by s seats e) (λ y is. meant_chosen e y is) refl means where
    inner : (o : Option Meant) → ((y : Meant) → meant_by s seats e ≡ Some y → NoChoice e) → meant_by s seats e ≡ o → member_meant s.layouts (kind_of s e) word o ≡ Some x → NoChoice e
    inner (Some y) rest is h = rest y is
    inner None rest is h = absurd (never (kind_of s e) h) where
      never : (k : Kind) → member_meant s.layouts k word None ≡ Some x → ⊥
      never (bits width) g = cc g
      never unsized g = cc g
      never boolean g = cc g
      never error_code g = cc g
      never (header type) g = cc g
      never (stack type size) g = cc g
      never (struct type) g = cc g
      never packet_in g = cc g
      never packet_out g = cc g
      never errors g = cc g
      never (enumeration enum) g = cc g
      never (one_of enum) g = cc g
      never table g = cc g
      never applied g = cc g
      never (object obj) g = cc g
      never items g = cc g
      never nothing g = cc g
      never unknown g = cc g
  meant_chosen (index e at) x means = inner (meant_by s seats e) (λ y is. meant_chosen e y is) refl means where
    inner : (o : Option Meant) → ((y : Meant) → meant_by s seats e ≡ Some y → NoChoice e) → meant_by s seats e ≡ o → behind_meant (spot_behind s.layouts (to_element at.value)) o ≡ Some x → NoChoice e
    inner (Some y) rest is h = rest y is
    inner None rest is h = absurd (cc h)
  meant_chosen (slice e high low) x means = tt
  meant_chosen (choice c a d) x means = absurd (cc means)
  meant_chosen (literal n) x means = tt
  meant_chosen (truth holds) x means = tt
  meant_chosen error x means = tt
  meant_chosen (call g other) x means = tt
  meant_chosen (lookahead e to other) x means = tt
  meant_chosen (cast to e) x means = tt
  meant_chosen (unary operator e) x means = tt
  meant_chosen (binary operator a c) x means = tt
  meant_chosen (parenthesized e) x means = tt
  meant_chosen no_arguments x means = tt
  meant_chosen (argument before last) x means = tt
  meant_chosen (listed es) x means = tt

  pub source_is : (f : Exp16) (x : Meant) → meant_by s seats f ≡ Some x → x.slice ≡ None → ready_source s seats tables f ≡ option_map parts (range_place_of s.layouts x.spot)
  source_is f x means whole =
      parts_by f (meant_chosen f x means) its_value
      ∙ ap (λ (o : Option Spot). option_map parts (range_behind (way_range s.layouts its_value) o)) (spot_of (meant_by s seats f) x means whole)
