-- What calls of headers and of packets do: `setValid`, `setInvalid`, `extract`.
use Rattle.std.proofs.Common.{◌≡◌, inl, inr, Bool, true, false, cond, Option, Some, None, IfSome, List, length, refl, sym, ap, ◌∙◌, subst}
use Rattle.p416_syntax.specs.Tree.{Exp16}
use Rattle.p416_syntax.specs.Names.{Name}
use Rattle.p416_syntax.specs.Kinds.{Kind, header}
use Rattle.p416_syntax.specs.Scopes.{Layout, Scope}
use Rattle.p416_syntax.specs.Declarations.{layouts_of}
use Rattle.p416_syntax.specs.Expressions.{kind_of}
use Rattle.p416_syntax.specs.Breaks.{BreaksNone, program_rules}
use Rattle.v1_core.specs.declared.parser_error.ParserError.TheVariants.{StackOutOfBounds}
use Rattle.v1_core.specs.Values.{Slice as SliceOf}
use Rattle.v1_core.specs.Frames as sem
use Rattle.v1_core.specs.Frames.{Reference}
use Rattle.v1_core.specs.Slots.{variable_kinds}
use Rattle.v1_core.specs.Surroundings as meaning
use Rattle.v1_core.specs.Numbered.{InScope}
use Rattle.v1_core.specs.Expressions.{Referred, reference_of}
use Rattle.v1_core.specs.HeaderCalls.{set_valid, set_invalid}
use Rattle.v1_core.specs.Cells.{Cells, stack_place, stack_size}
use Rattle.v1_core.specs.Ready.{element_by, is_past}
use Rattle.v1_ready_forms.specs.Spots.{Told, Spot}
use Rattle.v1_core.specs.Seats.{header_form, Seat}
use Rattle.v1_core.specs.Scopes.{IsScope}
use Rattle.v1_ready_forms.specs.Named.{NamedSeat, seats_in}
use Rattle.v1_ready_laws.specs.Rules.{NamesSeated}
use Rattle.v1_ready_blocks.specs.declared.places.Range.{Range}
use Rattle.v1_ready_blocks.specs.declared.places.RangePlace.{RangePlace}
use Rattle.v1_ready_blocks.specs.Moments.{Moment, raised}
use Rattle.v1_ready_blocks.specs.Places.{range_at}
use Rattle.v1_ready_blocks.specs.Tests.{with_range}
use Rattle.v1_ready_blocks.specs.Statements.{header_made}
use Rattle.v1_parser_laws.specs.Shown.{Shows}
use Rattle.v1_parser_laws.specs.Ranges.{IsRangeOf}
use Rattle.v1_place_laws.specs.Places.{Meant, meant_by}
use Rattle.v1_place_laws.specs.Finding.{in_element, seat_now, IsAt, FoundAt}
use Rattle.v1_place_laws.proofs.Finding.{places_found}
use Rattle.v1_deed_laws.proofs.Headers.{headers_made}
use Rattle.v1_ready_statements.specs.Around.{Around}
use Rattle.v1_ready_statements.specs.Targets.{parts_meant}
use Rattle.v1_statement_laws.specs.Behind.{Shown}
use Rattle.v1_value_laws.specs.Kinds.{Fine, FormIs}
use Rattle.v1_statement_laws.proofs.Closing.{running_is, stopped_is, raised_shown}
use Rattle.v1_statement_laws.proofs.Ranging.{ToldFits, meant_fits, RangeFound, range_found}
use Rattle.v1_value_laws.proofs.Formed.{meant_kind}

at_some : {A : Type 0} (B : A → Type 0) (o : Option A) (x : A) → o ≡ Some x → IfSome o B → B x
at_some {A = A} B o x is h = subst (λ (p : Option A). IfSome p B) is h

-- The parts that an l-value is, which is a header: finding it gives its place, or the same error.
pub record HeaderFound (b : Around) (w : meaning.World) (s : Scope) (who : InScope) (e : Exp16) (m : sem.Moment) (k : Moment) (place : RangePlace) (x : Meant) : Type 0 where
  pub found : FoundAt b.syntax who None (reference_of w.around s e m) m (seat_now k.cells x.spot)
  pub ranged : RangeFound (layouts_of b.syntax.decls) (range_at k.cells place) (seat_now k.cells x.spot)

module _ (P : Cells → Type 0) (b : Around) (w : meaning.World) (s : Scope) (who : InScope) (accepted : BreaksNone b.syntax program_rules) (layouts : s.layouts ≡ layouts_of b.syntax.decls) where
  abbrev seats : List NamedSeat
  seats = seats_in b.syntax w.around.roots who

  pub found_by : (e : Exp16) (x : Meant) (place : RangePlace) (m : sem.Moment) (k : Moment) → meant_by s seats e ≡ Some x → parts_meant s.layouts x ≡ Some place → Shown P b.syntax who m k → m.stopped ≡ None → HeaderFound b w s who e m k place x
  found_by e x place m k means parts h runs = by x.slice refl parts where
    by : (cut : Option SliceOf) → x.slice ≡ cut → parts_meant s.layouts (record { spot = x.spot; slice = cut }) ≡ Some place → HeaderFound b w s who e m k place x
    by (Some cut) is parts = absurd (cc parts)
    by None is parts = record {
      found =
          subst (λ (cut : Option SliceOf). FoundAt b.syntax who cut (reference_of w.around s e m) m (seat_now k.cells x.spot)) is
          (at_some (λ (y : Meant). FoundAt b.syntax who y.slice (reference_of w.around s e m) m (seat_now k.cells y.spot)) (meant_by s seats e) x means
          (places_found b.syntax k.cells w.around s who m e accepted h.shows.whole layouts h.shows.frame runs));
      ranged =
          subst (λ (l : List Layout). RangeFound l (range_at k.cells place) (seat_now k.cells x.spot)) layouts
          (range_found s.layouts k.cells x.spot place (at_some (λ (y : Meant). ToldFits s.layouts y.spot.seat.form y.spot.told) (meant_by s seats e) x means (meant_fits s seats e)) parts);
    }

  pub seat_form : (c : Cells) (x : Spot) → IfSome (seat_now c x) (λ t. t.form ≡ x.seat.form)
  seat_form c x = by x.told where
    by : (o : Option Told) → IfSome (seat_now c (record { seat = x.seat; told = o })) (λ t. t.form ≡ x.seat.form)
    by None = refl
    by (Some t) = cut (is_past t.which (stack_place c t.stack) (stack_size c t.stack)) where
      cut : (past : Bool) → IfSome (cond past None (Some (in_element t.apart (element_by t.which (stack_place c t.stack)) x.seat))) (λ u. u.form ≡ x.seat.form)
      cut true = tt
      cut false = refl

  -- what is done with the header that is found, where there is one
  pub with_found : (e : Exp16) (x : Meant) (place : RangePlace) (m : sem.Moment) (k : Moment) (f : HeaderFound b w s who e m k place x) (F : Reference → sem.Moment → sem.Moment) (G : Range → Moment) → Shown P b.syntax who m k → m.stopped ≡ None
      → ((t : Seat) (to : Range) → seat_now k.cells x.spot ≡ Some t → IsAt b.syntax who (reference_of w.around s e m).reference None t → IsRangeOf (layouts_of b.syntax.decls) t to → Shown P b.syntax who (F (reference_of w.around s e m).reference m) (G to))
      → Shown P b.syntax who (sem.going_on (F (reference_of w.around s e m).reference) (reference_of w.around s e m).moment) (with_range (range_at k.cells place) k G)
  with_found e x place m k f F G h runs does = by (range_at k.cells place) (seat_now k.cells x.spot) refl f.found f.ranged where
    r : Referred
    r = reference_of w.around s e m

    by : (o : Option Range) (q : Option Seat) → seat_now k.cells x.spot ≡ q → FoundAt b.syntax who None (reference_of w.around s e m) m q → RangeFound (layouts_of b.syntax.decls) o q → Shown P b.syntax who (sem.going_on (F (reference_of w.around s e m).reference) (reference_of w.around s e m).moment) (with_range o k G)
    by None None is at ranged =
        subst (λ (y : sem.Moment). Shown P b.syntax who y (raised StackOutOfBounds k))
        (sym (stopped_is (reference_of w.around s e m).moment.stopped StackOutOfBounds (reference_of w.around s e m).moment (F (reference_of w.around s e m).reference (reference_of w.around s e m).moment) (ap (λ (n : sem.Moment). n.stopped) at) ∙ at))
        (raised_shown P b.syntax who StackOutOfBounds m k h runs)
    by None (Some t) is at ranged = absurd ranged
    by (Some to) None is at ranged = absurd ranged
    by (Some to) (Some t) is at ranged =
        subst (λ (y : sem.Moment). Shown P b.syntax who (sem.going_on (F (reference_of w.around s e m).reference) y) (G to)) (sym at.0)
        (subst (λ (y : sem.Moment). Shown P b.syntax who y (G to)) (sym (running_is m.stopped m (F (reference_of w.around s e m).reference m) runs))
        (does t to is at.1 ranged.0))

  -- the form of what is found, by the kind
  pub found_form : (e : Exp16) (x : Meant) (type : Name) (c : Cells) (t : Seat) → Fine s → NamesSeated s seats → kind_of s e ≡ header type → meant_by s seats e ≡ Some x → x.slice ≡ None → seat_now c x.spot ≡ Some t → t.form ≡ header_form type
  found_form e x type c t fine seated kind means whole now =
      at_some (λ (u : Seat). u.form ≡ x.spot.seat.form) (seat_now c x.spot) t now (seat_form c x.spot)
      ∙ header_is (subst (λ (j : Kind). FormIs s.layouts j x.spot.seat.form) kind (at_some (λ (y : Meant). y.slice ≡ None → FormIs s.layouts (kind_of s e) y.spot.seat.form) (meant_by s seats e) x means (meant_kind s seats e fine seated) whole)) where
        header_is : FormIs s.layouts (header type) x.spot.seat.form → x.spot.seat.form ≡ header_form type
        header_is (inl un) = absurd un
        header_is (inr h) = h.0

  pub whole_of : (x : Meant) (place : RangePlace) → parts_meant s.layouts x ≡ Some place → x.slice ≡ None
  whole_of x place is = by x.slice refl is where
    by : (cut : Option SliceOf) → x.slice ≡ cut → parts_meant s.layouts (record { spot = x.spot; slice = cut }) ≡ Some place → x.slice ≡ None
    by None e parts = e
    by (Some cut) e parts = absurd (cc parts)

  -- `setValid` and `setInvalid`
  pub header_marked : (e : Exp16) (x : Meant) (type : Name) (place : RangePlace) (m : sem.Moment) (k : Moment) → IsScope (length (variable_kinds b.syntax)) who → Fine s → NamesSeated s seats → kind_of s e ≡ header type → meant_by s seats e ≡ Some x → parts_meant s.layouts x ≡ Some place → Shown P b.syntax who m k → m.stopped ≡ None
      → Shown P b.syntax who (sem.going_on (set_valid (reference_of w.around s e m).reference) (reference_of w.around s e m).moment) (with_range (range_at k.cells place) k (λ r. header_made true r k))
      × Shown P b.syntax who (sem.going_on (set_invalid (reference_of w.around s e m).reference) (reference_of w.around s e m).moment) (with_range (range_at k.cells place) k (λ r. header_made false r k))
  header_marked e x type place m k scope fine seated kind means parts h runs =
      let f : HeaderFound b w s who e m k place x = found_by e x place m k means parts h runs in
      let marks : (t : Seat) (to : Range) → seat_now k.cells x.spot ≡ Some t → IsAt b.syntax who (reference_of w.around s e m).reference None t → IsRangeOf (layouts_of b.syntax.decls) t to → Shows b.syntax who (set_valid (reference_of w.around s e m).reference m) (header_made true to k) × Shows b.syntax who (set_invalid (reference_of w.around s e m).reference m) (header_made false to k) = λ t to now at ranged.
      headers_made b.syntax who (reference_of w.around s e m).reference t type to m k accepted scope at (found_form e x type k.cells t fine seated kind means (whole_of x place parts) now) ranged.header h.shows in (
        with_found e x place m k f set_valid (λ r. header_made true r k) h runs (λ t to now at ranged. record { shows = (marks t to now at ranged).0; waits = h.waits }),
        with_found e x place m k f set_invalid (λ r. header_made false r k) h runs (λ t to now at ranged. record { shows = (marks t to now at ranged).1; waits = h.waits }),
      )
