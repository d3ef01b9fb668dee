-- Headers, stacks and structs that are assigned, and those that variables begin with.
use Rattle.std.proofs.Common.{◌≡◌, inl, inr, ◌&&◌, ◌||◌, Bool, true, false, Option, Some, None, IfSome, List, [], length, refl, sym, ap, ◌∙◌, subst}
use Rattle.p416_syntax.specs.Tree.{Exp16, assign}
use Rattle.p416_syntax.specs.Kinds.{Kind, bits, unsized, boolean, error_code, header, stack, struct, packet_in, packet_out, errors, enumeration, one_of, table, applied, object, items, nothing, unknown, is_same_kind, is_bits, is_unsized}
use Rattle.p416_syntax.specs.Scopes.{Layout, Scope}
use Rattle.p416_syntax.specs.Calls.{Place, value}
use Rattle.p416_syntax.specs.Declarations.{layouts_of}
use Rattle.p416_syntax.specs.Expressions.{kind_of}
use Rattle.p416_syntax.specs.Statements.{assigned_place}
use Rattle.p416_syntax.specs.Types.{takes}
use Rattle.p416_syntax.specs.Breaks.{BreaksNone, program_rules}
use Rattle.v1_core.specs.declared.parser_error.ParserError.TheVariants.{StackOutOfBounds}
use Rattle.v1_core.specs.Frames as sem
use Rattle.v1_core.specs.Frames.{Reference, put_at}
use Rattle.v1_core.specs.Slots.{variable_kinds}
use Rattle.v1_core.specs.Surroundings as meaning
use Rattle.v1_core.specs.Numbered.{InScope}
use Rattle.v1_core.specs.Expressions.{Valued, Referred, value_of, reference_of}
use Rattle.v1_core.specs.Statements.{assigned}
use Rattle.v1_core.specs.Cells.{Cells}
use Rattle.v1_core.specs.Seats.{Form, slot_form, header_form, stack_form, struct_form, no_form, form_of, Seat}
use Rattle.v1_core.specs.Scopes.{IsScope}
use Rattle.v1_core.specs.Ready.{given}
use Rattle.v1_ready_forms.specs.Named.{NamedSeat, seats_in}
use Rattle.v1_ready_forms.specs.Ways.{its_value}
use Rattle.v1_ready_laws.specs.Asked.{stopped_by}
use Rattle.v1_ready_laws.specs.Rules.{NamesSeated}
use Rattle.v1_ready_blocks.specs.declared.places.Range.{Range}
use Rattle.v1_ready_blocks.specs.declared.places.RangePlace.{RangePlace}
use Rattle.v1_ready_blocks.specs.Moments as blocks
use Rattle.v1_ready_blocks.specs.Moments.{Moment, with_cells, raised}
use Rattle.v1_ready_blocks.specs.Places.{range_at, copied}
use Rattle.v1_ready_blocks.specs.Tests.{World, Source, Reached, Sought as Seen, source_range, with_source, with_range}
use Rattle.v1_ready_blocks.specs.Statements as ready
use Rattle.v1_ready_blocks.specs.Statements.{assign_parts, does}
use Rattle.v1_parser_laws.specs.Ranges.{IsRangeOf}
use Rattle.v1_place_laws.specs.Places.{Meant, meant_by}
use Rattle.v1_place_laws.specs.Finding.{IsAt, FoundAt, seat_now}
use Rattle.v1_deed_laws.specs.Forms.{IsParted}
use Rattle.v1_deed_laws.proofs.Parts.{parts_put}
use Rattle.v1_ready_statements.specs.Around.{Around, table_found}
use Rattle.v1_ready_statements.specs.Targets.{parts_meant}
use Rattle.v1_ready_statements.specs.Tested.{ready_source}
use Rattle.v1_ready_statements.specs.Statements.{assigns_parts}
use Rattle.v1_value_laws.specs.Kinds.{Fine, FormIs}
use Rattle.v1_value_laws.proofs.Formed.{meant_kind}
use Rattle.v1_statement_laws.specs.Behind.{Shown}
use Rattle.v1_statement_laws.specs.Leaves.{RunsAlike}
use Rattle.v1_statement_laws.specs.Laws.{HasParts}
use Rattle.v1_statement_laws.proofs.Closing.{ticked_shown, running_is, stopped_is, raised_shown}
use Rattle.v1_statement_laws.proofs.Ranging.{RangeFound}
use Rattle.v1_statement_laws.proofs.Methods.{HeaderFound, found_by, seat_form, whole_of}
use Rattle.v1_statement_laws.proofs.Sources.{Composite}
use Rattle.v1_program_laws.specs.Reaching.{Seeks, found, beyond, erred, Still, ConditionsAsk}
use Rattle.v1_program_laws.proofs.Seeking.{one_kind, seeks}
use Rattle.v1_program_laws.specs.SourceLaws.{Headed, AllOne}

at_some : {A : Type 0} (B : A → Type 0) (o : Option A) (x : A) → o ≡ Some x → IfSome o B → B x
at_some {A = A} B o x is h = subst (λ (p : Option A). IfSome p B) is h

first_true : (a b : Bool) → (a || b) ≡ true → b ≡ false → a ≡ true
first_true true b e no_b = refl
first_true false b e no_b = absurd (cc (sym no_b ∙ e))

pub headed_parted : (f : Form) → Headed f → IsParted f
headed_parted (slot_form of) h = absurd h
headed_parted (header_form type) h = tt
headed_parted (stack_form type size) h = tt
headed_parted (struct_form type) h = tt
headed_parted no_form h = absurd h

pub headed : (k : Kind) → Composite k → Headed (form_of k)
headed (bits width) h = absurd h
headed unsized h = absurd h
headed boolean h = absurd h
headed error_code h = absurd h
headed (header type) h = tt
headed (stack type size) h = tt
headed (struct type) h = tt
headed packet_in h = absurd h
headed packet_out h = absurd h
headed errors h = absurd h
headed (enumeration enum) h = absurd h
headed (one_of enum) h = absurd h
headed table h = absurd h
headed applied h = absurd h
headed (object obj) h = absurd h
headed items h = absurd h
headed nothing h = absurd h
headed unknown h = absurd h

pub composite : (k : Kind) → HasParts k → Composite k
composite (bits width) h = absurd h
composite unsized h = absurd h
composite boolean h = absurd h
composite error_code h = absurd h
composite (header type) h = tt
composite (stack type size) h = tt
composite (struct type) h = tt
composite packet_in h = absurd h
composite packet_out h = absurd h
composite errors h = absurd h
composite (enumeration enum) h = absurd h
composite (one_of enum) h = absurd h
composite table h = absurd h
composite applied h = absurd h
composite (object obj) h = absurd h
composite items h = absurd h
composite nothing h = absurd h
composite unknown h = absurd h

pub composite_form : (types : List Layout) (k : Kind) (form : Form) → Composite k → FormIs types k form → form ≡ form_of k
composite_form types (bits width) form h g = absurd h
composite_form types unsized form h g = absurd h
composite_form types boolean form h g = absurd h
composite_form types error_code form h g = absurd h
composite_form types (header type) form h (inr g) = g.0
composite_form types (header type) form h (inl un) = absurd un
composite_form types (stack type size) form h (inr g) = g.0
composite_form types (stack type size) form h (inl un) = absurd un
composite_form types (struct type) form h (inr g) = g.0
composite_form types (struct type) form h (inl un) = absurd un
composite_form types packet_in form h g = absurd h
composite_form types packet_out form h g = absurd h
composite_form types errors form h g = absurd h
composite_form types (enumeration enum) form h g = absurd h
composite_form types (one_of enum) form h g = absurd h
composite_form types table form h g = absurd h
composite_form types applied form h g = absurd h
composite_form types (object obj) form h g = absurd h
composite_form types items form h g = absurd h
composite_form types nothing form h g = absurd h
composite_form types unknown form h g = absurd h

-- what is taken at the place of such a kind is of that kind
takes_same : (k j : Kind) → Composite k → (is_same_kind k j || (is_bits k && is_unsized j)) ≡ true → j ≡ k
takes_same (bits width) j h is = absurd h
takes_same unsized j h is = absurd h
takes_same boolean j h is = absurd h
takes_same error_code j h is = absurd h
takes_same (header type) j h is = one_kind (header type) j h (first_true (is_same_kind (header type) j) false is refl)
takes_same (stack type size) j h is = one_kind (stack type size) j h (first_true (is_same_kind (stack type size) j) false is refl)
takes_same (struct type) j h is = one_kind (struct type) j h (first_true (is_same_kind (struct type) j) false is refl)
takes_same packet_in j h is = absurd h
takes_same packet_out j h is = absurd h
takes_same errors j h is = absurd h
takes_same (enumeration enum) j h is = absurd h
takes_same (one_of enum) j h is = absurd h
takes_same table j h is = absurd h
takes_same applied j h is = absurd h
takes_same (object obj) j h is = absurd h
takes_same items j h is = absurd h
takes_same nothing j h is = absurd h
takes_same unknown j h is = absurd h

pub value_same : (k j : Kind) (e : Exp16) → Composite k → takes (value k) e j ≡ true → j ≡ k
value_same k j e h is = takes_same k j h is

pub assigned_same : (k j : Kind) (e : Exp16) → Composite k → takes (assigned_place k) e j ≡ true → j ≡ k
assigned_same (bits width) j e h is = absurd h
assigned_same unsized j e h is = absurd h
assigned_same boolean j e h is = absurd h
assigned_same error_code j e h is = absurd h
assigned_same (header type) j e h is = takes_same (header type) j h is
assigned_same (stack type size) j e h is = takes_same (stack type size) j h is
assigned_same (struct type) j e h is = takes_same (struct type) j h is
assigned_same packet_in j e h is = absurd h
assigned_same packet_out j e h is = absurd h
assigned_same errors j e h is = absurd h
assigned_same (enumeration enum) j e h is = absurd h
assigned_same (one_of enum) j e h is = absurd h
assigned_same table j e h is = absurd h
assigned_same applied j e h is = absurd h
assigned_same (object obj) j e h is = absurd h
assigned_same items j e h is = absurd h
assigned_same nothing j e h is = absurd h
assigned_same unknown j e h is = absurd h

module _ (P : Cells → Type 0) (b : Around) (w : meaning.World) (z : World) (s : Scope) (who : InScope) (accepted : BreaksNone b.syntax program_rules) (layouts : s.layouts ≡ layouts_of b.syntax.decls) (seated : NamesSeated s (seats_in b.syntax w.around.roots who)) (fine : Fine s) (all_one : AllOne b.syntax) where
  abbrev seats : List NamedSeat
  seats = seats_in b.syntax w.around.roots who

  -- a value that is reached goes to where an l-value is
  pub put_reached : (r : Reference) (t : Seat) (to : Range) (k : Kind) (x : Valued) (y : Reached) → IsScope (length (variable_kinds b.syntax)) who → IsAt b.syntax who r None t → IsRangeOf (layouts_of b.syntax.decls) t to → Composite k → t.form ≡ form_of k → Seeks P b.syntax who its_value k x y
      → Shown P b.syntax who (sem.going_on (put_at r x.value) x.moment) (with_source y (λ from n. with_cells (copied from to n.cells) n))
  put_reached r t to k x y scope at ranged composite_is form (found from u is runs asked part h) =
      let form_u : part.seat.form ≡ form_of k = composite_form (layouts_of b.syntax.decls) k part.seat.form composite_is part.form in
      let same : x.value ≡ u = let e : given x.value ≡ given u = asked in cc e in
      subst (λ (m : sem.Moment). Shown P b.syntax who m (with_source y (λ from n. with_cells (copied from to n.cells) n))) (sym (running_is x.moment.stopped x.moment (put_at r x.value x.moment) runs))
      (subst (λ (g : Seen). Shown P b.syntax who (put_at r x.value x.moment) (with_source (record { range = g; moment = y.moment }) (λ from n. with_cells (copied from to n.cells) n))) (sym is)
      (record {
        shows = parts_put b.syntax who r t part.part part.seat to from x.value x.moment y.moment accepted scope at part.at
            (subst IsParted (sym form) (headed_parted (form_of k) (headed k composite_is)))
            (all_one at.part part.part t part.seat at.seat part.at (subst Headed (sym form) (headed k composite_is)) (form_u ∙ sym form)) ranged part.ranged (same ∙ part.stands) h.shows;
        waits = h.waits;
      }))
  put_reached r t to k x y scope at ranged composite_is form (beyond is runs asked h) = absurd (cc asked)
  put_reached r t to k x y scope at ranged composite_is form (erred e is stops h) =
      subst (λ (m : sem.Moment). Shown P b.syntax who m (with_source y (λ from n. with_cells (copied from to n.cells) n))) (sym (stopped_is x.moment.stopped e x.moment (put_at r x.value x.moment) stops))
      (subst (λ (g : Seen). Shown P b.syntax who x.moment (with_source (record { range = g; moment = y.moment }) (λ from n. with_cells (copied from to n.cells) n))) (sym is) h)

  form_at : (f : Exp16) (x : Meant) → Composite (kind_of s f) → meant_by s seats f ≡ Some x → x.slice ≡ None → x.spot.seat.form ≡ form_of (kind_of s f)
  form_at f x h means whole = composite_form s.layouts (kind_of s f) x.spot.seat.form h (at_some (λ (y : Meant). y.slice ≡ None → FormIs s.layouts (kind_of s f) y.spot.seat.form) (meant_by s seats f) x means (meant_kind s seats f fine seated) whole)

  -- an assignment, of which the target is found first
  goes_to : (target e : Exp16) (x : Meant) (place : RangePlace) (source : Source) (m : sem.Moment) (k : Moment) → IsScope (length (variable_kinds b.syntax)) who → ((c : Cells) → seat_now c x.spot ≡ None → Still w s) → Composite (kind_of s target) → kind_of s e ≡ kind_of s target → meant_by s seats target ≡ Some x → parts_meant s.layouts x ≡ Some place
      → ((n : sem.Moment) (j : Moment) → Shown P b.syntax who n j → n.stopped ≡ None → Seeks P b.syntax who its_value (kind_of s e) (value_of w s (assigned_place (kind_of s target)) e n) (source_range z.apply source j))
      → Shown P b.syntax who m k → m.stopped ≡ None → Shown P b.syntax who (assigned w s target e m) (ready.done z.apply (assign_parts place source) k)
  goes_to target e x place source m k scope still composite_is same means parted sought_is h runs =
      let f : HeaderFound b w s who target m k place x = found_by P b w s who accepted layouts target x place m k means parted h runs in
      by (range_at k.cells place) (seat_now k.cells x.spot) refl f.found f.ranged where
        r : Referred
        r = reference_of w.around s target m

        p : Place
        p = assigned_place (kind_of s target)

        by : (o : Option Range) (q : Option Seat) → seat_now k.cells x.spot ≡ q → FoundAt b.syntax who None (reference_of w.around s target m) m q → RangeFound (layouts_of b.syntax.decls) o q
            → Shown P b.syntax who (sem.going_on (put_at (reference_of w.around s target m).reference (value_of w s (assigned_place (kind_of s target)) e (reference_of w.around s target m).moment).value) (value_of w s (assigned_place (kind_of s target)) e (reference_of w.around s target m).moment).moment) (with_range o k (λ to. with_source (source_range z.apply source k) (λ from n. with_cells (copied from to n.cells) n)))
        by None None is at ranged =
            let stays : (value_of w s (assigned_place (kind_of s target)) e (reference_of w.around s target m).moment).moment ≡ stopped_by StackOutOfBounds m =
            still k.cells is (assigned_place (kind_of s target)) e (reference_of w.around s target m).moment StackOutOfBounds (ap (λ (n : sem.Moment). n.stopped) at) ∙ at in
            subst (λ (y : sem.Moment). Shown P b.syntax who y (raised StackOutOfBounds k))
            (sym (stopped_is (value_of w s (assigned_place (kind_of s target)) e (reference_of w.around s target m).moment).moment.stopped StackOutOfBounds (value_of w s (assigned_place (kind_of s target)) e (reference_of w.around s target m).moment).moment (put_at (reference_of w.around s target m).reference (value_of w s (assigned_place (kind_of s target)) e (reference_of w.around s target m).moment).value (value_of w s (assigned_place (kind_of s target)) e (reference_of w.around s target m).moment).moment) (ap (λ (n : sem.Moment). n.stopped) stays) ∙ stays))
            (raised_shown P b.syntax who StackOutOfBounds m k h runs)
        by None (Some t) is at ranged = absurd ranged
        by (Some to) None is at ranged = absurd ranged
        by (Some to) (Some t) is at ranged =
            let form : t.form ≡ form_of (kind_of s e) =
            at_some (λ (u : Seat). u.form ≡ x.spot.seat.form) (seat_now k.cells x.spot) t is (seat_form P b w s who accepted layouts k.cells x.spot)
            ∙ (form_at target x composite_is means (whole_of P b w s who accepted layouts x place parted) ∙ ap form_of (sym same)) in
            subst (λ (n : sem.Moment). Shown P b.syntax who (sem.going_on (put_at (reference_of w.around s target m).reference (value_of w s (assigned_place (kind_of s target)) e n).value) (value_of w s (assigned_place (kind_of s target)) e n).moment) (with_source (source_range z.apply source k) (λ from j. with_cells (copied from to j.cells) j))) (sym at.0)
            (put_reached (reference_of w.around s target m).reference t to (kind_of s e) (value_of w s (assigned_place (kind_of s target)) e m) (source_range z.apply source k) scope at.1 ranged.0 (subst Composite (sym same) composite_is) form (sought_is m k h runs))

  runs_to : (target e : Exp16) (x : Meant) (place : RangePlace) (source : Source) → IsScope (length (variable_kinds b.syntax)) who → ((c : Cells) → seat_now c x.spot ≡ None → Still w s) → Composite (kind_of s target) → kind_of s e ≡ kind_of s target → meant_by s seats target ≡ Some x → parts_meant s.layouts x ≡ Some place
      → ((n : sem.Moment) (j : Moment) → Shown P b.syntax who n j → n.stopped ≡ None → Seeks P b.syntax who its_value (kind_of s e) (value_of w s (assigned_place (kind_of s target)) e n) (source_range z.apply source j))
      → RunsAlike P b w z s who [] (assign target e) (does (assign_parts place source))
  runs_to target e x place source scope still composite_is same means parted sought_is ran m k h runs = record {
    some = [];
    shown =
        subst (λ (u : sem.Moment). Shown P b.syntax who u (ready.run z ran (does (assign_parts place source)) k)) (sym (running_is m.stopped m (assigned w s target e (sem.ticked m)) runs))
        (subst (λ (u : Moment). Shown P b.syntax who (assigned w s target e (sem.ticked m)) u) (sym (running_is k.stopped k (ready.done z.apply (assign_parts place source) (blocks.ticked k)) (sym h.shows.stopped ∙ runs)))
        (goes_to target e x place source (sem.ticked m) (blocks.ticked k) scope still composite_is same means parted sought_is (ticked_shown P b.syntax who m k h) runs));
    all = λ none. refl;
  }

  -- what all moments give of a source
  sought_by : (e : Exp16) (p : Place) (source : Source) → ready_source s seats (table_found b) e ≡ Some source → ConditionsAsk P b w z s who e → Composite (kind_of s e) → (n : sem.Moment) (j : Moment) → Shown P b.syntax who n j → n.stopped ≡ None → Seeks P b.syntax who its_value (kind_of s e) (value_of w s p e n) (source_range z.apply source j)
  sought_by e p source is asks composite_is n j h runs =
      at_some (λ (g : Source). Seeks P b.syntax who its_value (kind_of s e) (value_of w s p e n) (source_range z.apply g j)) (ready_source s seats (table_found b) e) source is
      (seeks P b w z s who accepted layouts seated fine e its_value p n j asks composite_is h runs)

  pub parts_go : (target e : Exp16) (x : Meant) → IsScope (length (variable_kinds b.syntax)) who → ((c : Cells) → seat_now c x.spot ≡ None → Still w s) → Composite (kind_of s target) → takes (assigned_place (kind_of s target)) e (kind_of s e) ≡ true → ConditionsAsk P b w z s who e → meant_by s seats target ≡ Some x → IfSome (assigns_parts (parts_meant s.layouts x) (ready_source s seats (table_found b) e)) (λ d. RunsAlike P b w z s who [] (assign target e) (does d))
  parts_go target e x scope still composite_is taken asks means =
      let same : kind_of s e ≡ kind_of s target = assigned_same (kind_of s target) (kind_of s e) e composite_is taken in
      by same (parts_meant s.layouts x) (ready_source s seats (table_found b) e) refl refl where
        by : kind_of s e ≡ kind_of s target → (o : Option RangePlace) (q : Option Source) → parts_meant s.layouts x ≡ o → ready_source s seats (table_found b) e ≡ q → IfSome (assigns_parts o q) (λ d. RunsAlike P b w z s who [] (assign target e) (does d))
        by same None q parted is = tt
        by same (Some place) None parted is = tt
        by same (Some place) (Some source) parted is =
            runs_to target e x place source scope still composite_is same means parted (λ n j h runs. sought_by e (assigned_place (kind_of s target)) source is asks (subst Composite (sym same) composite_is) n j h runs)
