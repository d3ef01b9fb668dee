-- `p.emit(x)` of a header or a stack that no stack tells.
use Rattle.std.proofs.Common.{◌≡◌, inl, inr, Bool, true, false, cond, Option, Some, None, IfSome, List, [], ◌∷◌, length, refl, sym, ap, ◌∙◌, subst}
use Rattle.std.specs.Prelude.{option_map, codes}
use Rattle.std.specs.Str.{bytes_eq}
use Rattle.p416_syntax.specs.Tree.{Exp16, literal, truth, error, name, member, index, slice, call, lookahead, cast, unary, binary, choice, parenthesized, no_arguments, argument, listed, expression}
use Rattle.p416_syntax.specs.Names.{Name}
use Rattle.p416_syntax.specs.Kinds.{Kind, bits, unsized, boolean, error_code, header, stack, struct, packet_in, packet_out, errors, enumeration, one_of, table, applied, object, items, nothing, unknown}
use Rattle.p416_syntax.specs.Scopes.{Layout, Scope}
use Rattle.p416_syntax.specs.Calls.{emitted}
use Rattle.p416_syntax.specs.Expressions.{kind_of}
use Rattle.p416_syntax.specs.Uses.{arguments_of}
use Rattle.p416_syntax.specs.Breaks.{BreaksNone, program_rules}
use Rattle.p416_syntax.specs.Declarations.{layouts_of}
use Rattle.v1_core.specs.Externs.Packets as packets
use Rattle.v1_core.specs.Frames as sem
use Rattle.v1_core.specs.Frames.{Reference}
use Rattle.v1_core.specs.Slots.{variable_kinds}
use Rattle.v1_core.specs.Surroundings as meaning
use Rattle.v1_core.specs.Numbered.{InScope}
use Rattle.v1_core.specs.Expressions.{Valued, value_of}
use Rattle.v1_core.specs.Calls.{Given, argument_at, arguments_from, by_value, value_at, method_call}
use Rattle.v1_core.specs.Cells.{Cells}
use Rattle.v1_core.specs.Seats.{Form, slot_form, header_form, stack_form, struct_form, no_form, form_of}
use Rattle.v1_core.specs.PackedValues.{seat_value}
use Rattle.v1_core.specs.Scopes.{IsScope}
use Rattle.v1_ready_forms.specs.Named.{NamedSeat, seats_in}
use Rattle.v1_ready_forms.specs.Spots.{Told, Spot}
use Rattle.v1_ready_laws.specs.Rules.{NamesSeated}
use Rattle.v1_ready_blocks.specs.declared.places.RangePlace.{RangePlace}
use Rattle.v1_ready_blocks.specs.declared.places.RangePlace.TheVariants as range_place
use Rattle.v1_ready_blocks.specs.Moments.{Moment}
use Rattle.v1_ready_blocks.specs.Packets as ready_packets
use Rattle.v1_ready_blocks.specs.Tests.{World, Source, parts}
use Rattle.v1_ready_blocks.specs.Statements.{emit_headers, does}
use Rattle.v1_place_laws.specs.Places.{Meant, meant_by, range_of, range_place_of}
use Rattle.v1_deed_laws.specs.Forms.{IsEmitted}
use Rattle.v1_deed_laws.proofs.Emitting.{emit_shows}
use Rattle.v1_ready_statements.specs.Around.{Around, table_found}
use Rattle.v1_ready_statements.specs.Tested.{ready_source}
use Rattle.v1_ready_statements.specs.Given.{given_at}
use Rattle.v1_ready_statements.specs.Called.{only_called, method_deed, expression_ready}
use Rattle.v1_value_laws.specs.Kinds.{Fine, FormIs}
use Rattle.v1_value_laws.proofs.Formed.{meant_kind}
use Rattle.v1_statement_laws.specs.Behind.{Waits, Shown}
use Rattle.v1_statement_laws.specs.Leaves.{RunsAlike}
use Rattle.v1_statement_laws.specs.Laws.{HeadersEmitted}
use Rattle.v1_statement_laws.proofs.Starting.{range_is}
use Rattle.v1_statement_laws.proofs.Calls.{called_alike}
use Rattle.v1_statement_laws.proofs.Sources.{Composite, IsHere, is_here, untold_value, source_is}
use Rattle.v1_block_laws.proofs.Apart.{body_scope}

at_some : {A : Type 0} (B : A → Type 0) (o : Option A) (x : A) → o ≡ Some x → IfSome o B → B x
at_some {A = A} B o x is h = subst (λ (p : Option A). IfSome p B) is h

-- headers and stacks have parts, and a form
emitted_composite : (types : List Layout) (k : Kind) → IsEmitted types (form_of k) → Composite k
emitted_composite types (bits width) h = absurd h
emitted_composite types unsized h = absurd h
emitted_composite types boolean h = absurd h
emitted_composite types error_code h = absurd h
emitted_composite types (header type) h = tt
emitted_composite types (stack type size) h = tt
emitted_composite types (struct type) h = absurd h
emitted_composite types packet_in h = absurd h
emitted_composite types packet_out h = absurd h
emitted_composite types errors h = absurd h
emitted_composite types (enumeration enum) h = absurd h
emitted_composite types (one_of enum) h = absurd h
emitted_composite types table h = absurd h
emitted_composite types applied h = absurd h
emitted_composite types (object obj) h = absurd h
emitted_composite types items h = absurd h
emitted_composite types nothing h = absurd h
emitted_composite types unknown h = absurd h

emitted_form : (types : List Layout) (k : Kind) (form : Form) → IsEmitted types (form_of k) → FormIs types k form → form ≡ form_of k
emitted_form types (bits width) form h (inr g) = absurd h
emitted_form types (bits width) form h (inl un) = absurd h
emitted_form types unsized form h (inr g) = absurd h
emitted_form types unsized form h (inl un) = absurd h
emitted_form types boolean form h (inr g) = absurd h
emitted_form types boolean form h (inl un) = absurd h
emitted_form types error_code form h (inr g) = absurd h
emitted_form types error_code form h (inl un) = absurd h
emitted_form types (header type) form h (inr g) = g.0
emitted_form types (header type) form h (inl un) = absurd un
emitted_form types (stack type size) form h (inr g) = g.0
emitted_form types (stack type size) form h (inl un) = absurd un
emitted_form types (struct type) form h (inr g) = absurd h
emitted_form types (struct type) form h (inl un) = absurd h
emitted_form types packet_in form h (inr g) = absurd h
emitted_form types packet_in form h (inl un) = absurd h
emitted_form types packet_out form h (inr g) = absurd h
emitted_form types packet_out form h (inl un) = absurd h
emitted_form types errors form h (inr g) = absurd h
emitted_form types errors form h (inl un) = absurd h
emitted_form types (enumeration enum) form h (inr g) = absurd h
emitted_form types (enumeration enum) form h (inl un) = absurd h
emitted_form types (one_of enum) form h (inr g) = absurd h
emitted_form types (one_of enum) form h (inl un) = absurd h
emitted_form types table form h (inr g) = absurd h
emitted_form types table form h (inl un) = absurd h
emitted_form types applied form h (inr g) = absurd h
emitted_form types applied form h (inl un) = absurd h
emitted_form types (object obj) form h (inr g) = absurd h
emitted_form types (object obj) form h (inl un) = absurd h
emitted_form types items form h (inr g) = absurd h
emitted_form types items form h (inl un) = absurd h
emitted_form types nothing form h (inr g) = absurd h
emitted_form types nothing form h (inl un) = absurd h
emitted_form types unknown form h (inr g) = absurd h
emitted_form types unknown form h (inl un) = absurd h

-- the parts of what no stack tells
fixed_range : (types : List Layout) (form : Form) (x : Spot) → x.seat.form ≡ form → x.told ≡ None → IsEmitted types form → range_place_of types x ≡ Some (range_place.Fixed (range_of types x.seat))
fixed_range types form x is untold h = by x.told untold (subst (IsEmitted types) (sym is) h) where
  by_form : (f : Form) → IsEmitted types f → range_place_of types (record { seat = record { depth = x.seat.depth; form = f; start = x.seat.start; owner = x.seat.owner }; told = None }) ≡ Some (range_place.Fixed (range_of types (record { depth = x.seat.depth; form = f; start = x.seat.start; owner = x.seat.owner })))
  by_form (header_form type) g = refl
  by_form (stack_form type size) g = refl
  by_form (slot_form of) g = absurd g
  by_form (struct_form type) g = absurd g
  by_form no_form g = absurd g

  by : (o : Option Told) → o ≡ None → IsEmitted types x.seat.form → range_place_of types (record { seat = x.seat; told = o }) ≡ Some (range_place.Fixed (range_of types x.seat))
  by None e g = by_form x.seat.form g
  by (Some t) e g = absurd (cc e)

module _ (P : Cells → Type 0) (b : Around) (w : meaning.World) (z : World) (s : Scope) (who : InScope) (accepted : BreaksNone b.syntax program_rules) (layouts : s.layouts ≡ layouts_of b.syntax.decls) (seated : NamesSeated s (seats_in b.syntax w.around.roots who)) (fine : Fine s) (scope : IsScope (length (variable_kinds b.syntax)) who) where
  abbrev seats : List NamedSeat
  seats = seats_in b.syntax w.around.roots who

  -- the argument is evaluated
  argument_is : (f : Exp16) (x : Meant) (m : sem.Moment) → meant_by s seats f ≡ Some x → argument_at w s emitted f m ≡ by_value (value_of w s emitted f m)
  argument_is (name text) x m means = refl
  argument_is (member e word) x m means = refl
  argument_is (index e at) x m means = refl
  argument_is (slice e high low) x m means = refl
  argument_is (literal n) x m means = absurd (cc means)
  argument_is (truth holds) x m means = absurd (cc means)
  argument_is error x m means = absurd (cc means)
  argument_is (call g other) x m means = absurd (cc means)
  argument_is (lookahead e to other) x m means = absurd (cc means)
  argument_is (cast to e) x m means = absurd (cc means)
  argument_is (unary operator e) x m means = absurd (cc means)
  argument_is (binary operator a c) x m means = absurd (cc means)
  argument_is (choice c a d) x m means = absurd (cc means)
  argument_is (parenthesized e) x m means = absurd (cc means)
  argument_is no_arguments x m means = absurd (cc means)
  argument_is (argument before last) x m means = absurd (cc means)
  argument_is (listed es) x m means = absurd (cc means)

  emits : (f : Exp16) (x : Meant) (m : sem.Moment) (k : Moment) → meant_by s seats f ≡ Some x → x.slice ≡ None → x.spot.told ≡ None → IsEmitted (layouts_of b.syntax.decls) (form_of (kind_of s f)) → Shown P b.syntax who m k → m.stopped ≡ None
      → Shown P b.syntax who (packets.emit (value_of w s emitted f m).value (value_of w s emitted f m).moment) (ready_packets.emit (range_of s.layouts x.spot.seat) k)
  emits f x m k means whole untold even h runs =
      let types : List Layout = layouts_of b.syntax.decls in
      let here : IsHere P b w s who accepted layouts f x m = is_here P b w s who accepted layouts f x m k means whole untold h runs in
      let form : x.spot.seat.form ≡ form_of (kind_of s f) = emitted_form types (kind_of s f) x.spot.seat.form even (subst (λ (l : List Layout). FormIs l (kind_of s f) x.spot.seat.form) layouts (at_some (λ (y : Meant). y.slice ≡ None → FormIs s.layouts (kind_of s f) y.spot.seat.form) (meant_by s seats f) x means (meant_kind s seats f fine seated) whole)) in
      subst (λ (v : Valued). Shown P b.syntax who (packets.emit v.value v.moment) (ready_packets.emit (range_of s.layouts x.spot.seat) k)) (sym (untold_value P b w s who accepted layouts f x emitted m k means whole untold (emitted_composite types (kind_of s f) even) h runs))
      (subst (λ (l : List Layout). Shown P b.syntax who (packets.emit (seat_value types k.cells x.spot.seat) m) (ready_packets.emit (range_of l x.spot.seat) k)) (sym layouts)
      (record {
        shows = emit_shows b.syntax who here.at.part x.spot.seat (range_of types x.spot.seat) (seat_value types k.cells x.spot.seat) m k accepted here.at.seat (subst (IsEmitted types) (sym form) even) (range_is types x.spot.seat) refl h.shows;
        waits = h.waits;
      }))

  pub emit_does : (e handed f : Exp16) (word : Name) (x : Meant) → kind_of s e ≡ packet_out → arguments_of handed ≡ f ∷ [] → meant_by s seats f ≡ Some x → x.slice ≡ None → x.spot.told ≡ None → IsEmitted (layouts_of b.syntax.decls) (form_of (kind_of s f)) → IfSome (expression_ready b s seats (call (member e word) handed)) (RunsAlike P b w z s who [] (expression (call (member e word) handed)))
  emit_does e handed f word x kind one means whole untold even =
      let types : List Layout = layouts_of b.syntax.decls in
      let form : x.spot.seat.form ≡ form_of (kind_of s f) = emitted_form types (kind_of s f) x.spot.seat.form even (subst (λ (l : List Layout). FormIs l (kind_of s f) x.spot.seat.form) layouts (at_some (λ (y : Meant). y.slice ≡ None → FormIs s.layouts (kind_of s f) y.spot.seat.form) (meant_by s seats f) x means (meant_kind s seats f fine seated) whole)) in
      let source : ready_source s seats (table_found b) f ≡ Some (parts (range_place.Fixed (range_of s.layouts x.spot.seat))) =
      source_is s seats (table_found b) f x means whole ∙ ap (λ (o : Option RangePlace). option_map parts o) (fixed_range s.layouts (form_of (kind_of s f)) x.spot form untold (subst (λ (l : List Layout). IsEmitted l (form_of (kind_of s f))) (sym layouts) even)) in
      subst (λ (j : Kind). IfSome (option_map does (method_deed b s seats j e word (arguments_of handed))) (RunsAlike P b w z s who [] (expression (call (member e word) handed)))) (sym kind)
      (subst (λ (es : List Exp16). IfSome (option_map does (only_called (codes "emit") word (option_map emit_headers (ready_source s seats (table_found b) (given_at es 0))))) (RunsAlike P b w z s who [] (expression (call (member e word) handed)))) (sym one)
      (subst (λ (o : Option Source). IfSome (option_map does (only_called (codes "emit") word (option_map emit_headers o))) (RunsAlike P b w z s who [] (expression (call (member e word) handed)))) (sym source)
      (by_word (bytes_eq word (codes "emit"))))) where
        leaves : (m : sem.Moment) → method_call w s (kind_of s e) e word handed m ≡ packets.emit (value_of w s emitted f m).value (value_of w s emitted f m).moment
        leaves m =
            ap (λ (j : Kind). method_call w s j e word handed m) kind
            ∙ (ap (λ (es : List Exp16). let y = arguments_from w s (emitted ∷ []) es m in packets.emit (value_at y.given 0) y.moment) one
            ∙ ap (λ (g : Given × sem.Moment). packets.emit g.0.value g.1) (argument_is f x m means))

        by_word : (t : Bool) → IfSome (option_map does (cond t (Some (emit_headers (parts (range_place.Fixed (range_of s.layouts x.spot.seat))))) None)) (RunsAlike P b w z s who [] (expression (call (member e word) handed)))
        by_word true =
            called_alike P b w z s who accepted layouts seated fine scope (member e word) handed (emit_headers (parts (range_place.Fixed (range_of s.layouts x.spot.seat))))
            (λ m k h runs. subst (λ (y : sem.Moment). Shown P b.syntax who y (ready_packets.emit (range_of s.layouts x.spot.seat) k)) (sym (leaves m)) (emits f x m k means whole untold even h runs))
        by_word false = tt

pub headers_emitted : HeadersEmitted
headers_emitted calls b w z from to n s who e handed f word x accepted at kind one means whole untold even =
    emit_does (Waits calls b.syntax) b w z s who accepted at.layouts at.seated at.fine (body_scope (length (variable_kinds b.syntax)) from to n who at.body) e handed f word x kind one means whole untold even
