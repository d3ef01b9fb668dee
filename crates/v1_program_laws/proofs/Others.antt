-- Calls of what stacks and packets can do, and the application of tables, as statements of a control.
use Rattle.std.proofs.Common.{◌≡◌, ℕ, not, Bool, true, false, cond, Option, Some, None, IfSome, List, [], ◌∷◌, length, refl, sym, ap, ◌∙◌, subst}
use Rattle.std.specs.Prelude.{option_map, option_and_then, codes}
use Rattle.std.specs.Option.{option_map_or}
use Rattle.std.specs.Str.{bytes_eq}
use Rattle.p416_syntax.specs.Tree.{Exp16, member, call, expression}
use Rattle.p416_syntax.specs.Names.{Name}
use Rattle.p416_syntax.specs.Kinds.{Kind, bits, unsized, boolean, error_code, header, stack, struct, packet_in, packet_out, errors, enumeration, one_of, table, applied, object, items, nothing, unknown}
use Rattle.p416_syntax.specs.Scopes.{Scope}
use Rattle.p416_syntax.specs.Calls.{literal_of, emitted, written_header, statement, parser_position, deparser_position, Signature, method, extern_at, method_signature}
use Rattle.p416_syntax.specs.Expressions.{kind_of, signature_of}
use Rattle.p416_syntax.specs.Uses.{an_expression, wanted_by, arguments_of}
use Rattle.p416_syntax.specs.Types.{takes}
use Rattle.p416_syntax.specs.Literals.{overflows}
use Rattle.p416_syntax.specs.Externs.{stands_elsewhere, is_outside_block, are_allowed}
use Rattle.p416_syntax.specs.Breaks.{BreaksNone, program_rules}
use Rattle.p416_syntax.specs.Declarations.{layouts_of}
use Rattle.v1_core.specs.Frames as sem
use Rattle.v1_core.specs.Slots.{variable_kinds}
use Rattle.v1_core.specs.Surroundings as meaning
use Rattle.v1_core.specs.Numbered.{InScope}
use Rattle.v1_core.specs.Expressions.{name_in, value_of}
use Rattle.v1_core.specs.Externs.Packets as packets
use Rattle.v1_core.specs.Calls.{Given, value_at, arguments_from, method_call, call_statement}
use Rattle.v1_core.specs.Cells.{Cells}
use Rattle.v1_core.specs.Seats.{form_of}
use Rattle.v1_core.specs.Scopes.{IsScope}
use Rattle.v1_ready_forms.specs.Named.{NamedSeat, seats_in}
use Rattle.v1_ready_laws.specs.Rules.{NamesSeated}
use Rattle.v1_block_laws.specs.Keeping.{Each, ArgumentsKeep}
use Rattle.v1_block_laws.proofs.Calling.{call_kept}
use Rattle.v1_ready_blocks.specs.declared.places.Range.{Range}
use Rattle.v1_ready_blocks.specs.Moments.{Moment}
use Rattle.v1_ready_blocks.specs.Packets as ready_packets
use Rattle.v1_ready_blocks.specs.Tests.{World, Source, Reached, Sought, source_range, with_source}
use Rattle.v1_ready_blocks.specs.Statements as ready
use Rattle.v1_ready_blocks.specs.Statements.{does, apply, emit_headers}
use Rattle.v1_ready_statements.specs.Around.{Around, table_found}
use Rattle.v1_ready_statements.specs.Targets.{fixed_range, range_given}
use Rattle.v1_deed_laws.specs.Forms.{IsEmitted}
use Rattle.v1_deed_laws.proofs.Emitting.{emit_shows}
use Rattle.v1_ready_statements.specs.Tested.{ready_source}
use Rattle.v1_ready_statements.specs.Given.{given_at}
use Rattle.v1_ready_statements.specs.Called.{number_given, method_deed}
use Rattle.v1_value_laws.specs.Kinds.{Fine}
use Rattle.v1_value_laws.proofs.Taken.{taken}
use Rattle.v1_statement_laws.specs.Behind.{Shown}
use Rattle.v1_statement_laws.specs.Laws.{HasParts}
use Rattle.v1_statement_laws.specs.Leaves.{RunsAlike, AppliedShows}
use Rattle.v1_statement_laws.proofs.Sources.{Composite}
use Rattle.v1_program_laws.proofs.Pushing.{stack_called}
use Rattle.v1_program_laws.proofs.Arguments.{literal_kind, bits_literal, literal_fits}
use Rattle.v1_call_laws.specs.Telling.{ToldNone}
use Rattle.v1_call_laws.specs.Calling.{FitPlaces, CallFits}
use Rattle.v1_call_laws.specs.Sourcing.{PartTold, SourcesTell}
use Rattle.v1_call_laws.specs.Whole.{CallShows}
use Rattle.v1_call_laws.specs.Ruled.{OutsideParsers}
use Rattle.v1_call_laws.proofs.Functions.{take_one}
use Rattle.v1_program_laws.specs.ControlLaws.{IsHeaded, HeadersWhole}
use Rattle.v1_call_laws.proofs.Gone.{left_alike}
use Rattle.v1_call_laws.proofs.Incoming.{formed_as, source_argument}

-- what is emitted has parts
emitted_composite : (f : Exp16) (k : Kind) → takes emitted f k ≡ true → Composite k
emitted_composite f (bits width) is = absurd (cc is)
emitted_composite f unsized is = absurd (cc is)
emitted_composite f boolean is = absurd (cc is)
emitted_composite f error_code is = absurd (cc is)
emitted_composite f (header type) is = tt
emitted_composite f (stack type size) is = tt
emitted_composite f (struct type) is = absurd (cc is)
emitted_composite f packet_in is = absurd (cc is)
emitted_composite f packet_out is = absurd (cc is)
emitted_composite f errors is = absurd (cc is)
emitted_composite f (enumeration enum) is = absurd (cc is)
emitted_composite f (one_of enum) is = absurd (cc is)
emitted_composite f table is = absurd (cc is)
emitted_composite f applied is = absurd (cc is)
emitted_composite f (object obj) is = absurd (cc is)
emitted_composite f items is = absurd (cc is)
emitted_composite f nothing is = absurd (cc is)
emitted_composite f unknown is = absurd (cc is)

emitted_headed : (f : Exp16) (k : Kind) → takes emitted f k ≡ true → IsHeaded (form_of k)
emitted_headed f (bits width) is = absurd (cc is)
emitted_headed f unsized is = absurd (cc is)
emitted_headed f boolean is = absurd (cc is)
emitted_headed f error_code is = absurd (cc is)
emitted_headed f (header type) is = tt
emitted_headed f (stack type size) is = tt
emitted_headed f (struct type) is = absurd (cc is)
emitted_headed f packet_in is = absurd (cc is)
emitted_headed f packet_out is = absurd (cc is)
emitted_headed f errors is = absurd (cc is)
emitted_headed f (enumeration enum) is = absurd (cc is)
emitted_headed f (one_of enum) is = absurd (cc is)
emitted_headed f table is = absurd (cc is)
emitted_headed f applied is = absurd (cc is)
emitted_headed f (object obj) is = absurd (cc is)
emitted_headed f items is = absurd (cc is)
emitted_headed f nothing is = absurd (cc is)
emitted_headed f unknown is = absurd (cc is)

emitted_parts : (f : Exp16) (k : Kind) → takes emitted f k ≡ true → HasParts k
emitted_parts f (bits width) is = absurd (cc is)
emitted_parts f unsized is = absurd (cc is)
emitted_parts f boolean is = absurd (cc is)
emitted_parts f error_code is = absurd (cc is)
emitted_parts f (header type) is = tt
emitted_parts f (stack type size) is = tt
emitted_parts f (struct type) is = absurd (cc is)
emitted_parts f packet_in is = absurd (cc is)
emitted_parts f packet_out is = absurd (cc is)
emitted_parts f errors is = absurd (cc is)
emitted_parts f (enumeration enum) is = absurd (cc is)
emitted_parts f (one_of enum) is = absurd (cc is)
emitted_parts f table is = absurd (cc is)
emitted_parts f applied is = absurd (cc is)
emitted_parts f (object obj) is = absurd (cc is)
emitted_parts f items is = absurd (cc is)
emitted_parts f nothing is = absurd (cc is)
emitted_parts f unknown is = absurd (cc is)

module _ (P : Cells → Type 0) (b : Around) (w : meaning.World) (z : World) (s : Scope) (who : InScope) where
  abbrev seats : List NamedSeat
  seats = seats_in b.syntax w.around.roots who

  -- the application of a table
  pub table_applied : ((text : Name) → IfSome (table_found b text) (λ t. (m : sem.Moment) (k : Moment) → Shown P b.syntax who m k → m.stopped ≡ None → AppliedShows P b who (w.apply text m) (z.apply t k))) → (e handed : Exp16) (word : Name) → kind_of s e ≡ table → CallShows P b w z s who (call (member e word) handed)
  table_applied tables e handed word kind =
      subst (λ (j : Kind). IfSome (option_map does (method_deed b s seats j e word (arguments_of handed))) (RunsAlike P b w z s who [] (expression (call (member e word) handed)))) (sym kind)
      (by_word (bytes_eq word (codes "apply"))) where
        leaves : (m : sem.Moment) → call_statement w s (call (member e word) handed) m ≡ (w.apply (name_in e) m).moment
        leaves m = ap (λ (j : Kind). method_call w s j e word handed m) kind

        by_table : (o : Option ℕ) → IfSome o (λ t. (m : sem.Moment) (k : Moment) → Shown P b.syntax who m k → m.stopped ≡ None → AppliedShows P b who (w.apply (name_in e) m) (z.apply t k)) → IfSome (option_map does (option_map apply o)) (RunsAlike P b w z s who [] (expression (call (member e word) handed)))
        by_table None h = tt
        by_table (Some t) h = left_alike P b w z s who (call (member e word) handed) (apply t) (λ m k shown runs. subst (λ (y : sem.Moment). Shown P b.syntax who y (ready.done z.apply (apply t) k)) (sym (leaves m)) (h m k shown runs).moment)

        by_word : (t : Bool) → IfSome (option_map does (cond t (option_map apply (table_found b (name_in e))) None)) (RunsAlike P b w z s who [] (expression (call (member e word) handed)))
        by_word true = by_table (table_found b (name_in e)) (tables (name_in e))
        by_word false = tt

  -- a packet is read in parsers alone
  pub packet_unread : OutsideParsers s → (e handed : Exp16) (word : Name) → kind_of s e ≡ packet_in → is_outside_block (an_expression s statement (call (member e word) handed)) ≡ false → CallShows P b w z s who (call (member e word) handed)
  packet_unread out e handed word kind placed =
      subst (λ (j : Kind). IfSome (option_map does (method_deed b s seats j e word (arguments_of handed))) (RunsAlike P b w z s who [] (expression (call (member e word) handed)))) (sym kind)
      (by_word (bytes_eq word (codes "extract")) (ap (λ (j : Kind). option_map_or (stands_elsewhere s handed) (method_signature j word) false) (sym kind) ∙ placed)) where
        reads : Signature
        reads = extern_at (parser_position ∷ []) (written_header ∷ [])

        never : (t : Bool) → t ≡ false → not t ≡ false → ⊥
        never true x y = cc x
        never false x y = cc y

        by_word : (t : Bool) → option_map_or (stands_elsewhere s handed) (cond t (Some reads) None) false ≡ false → IfSome (option_map does (cond t (option_map ready.extract_header (range_given s seats (given_at (arguments_of handed) 0))) None)) (RunsAlike P b w z s who [] (expression (call (member e word) handed)))
        by_word true h = absurd (never (are_allowed (parser_position ∷ []) s.positions) out.positions h)
        by_word false h = tt

  module _ (accepted : BreaksNone b.syntax program_rules) (layouts : s.layouts ≡ layouts_of b.syntax.decls) (seated : NamesSeated s (seats_in b.syntax w.around.roots who)) (fine : Fine s) (scope : IsScope (length (variable_kinds b.syntax)) who) where
    -- pushing and popping
    pub stack_changed : (e handed : Exp16) (type word : Name) (size : ℕ) → kind_of s e ≡ stack type size → CallFits s (member e word) handed → CallShows P b w z s who (call (member e word) handed)
    stack_changed e handed type word size kind fits = by (bytes_eq word (codes "push_front")) (bytes_eq word (codes "pop_front")) refl refl where
      wants : Signature
      wants = method true (literal_of (bits 32) ∷ []) nothing

      one_literal : signature_of s (member e word) ≡ Some wants → CallShows P b w z s who (call (member e word) handed)
      one_literal signature =
          take_one (λ es. arguments_of handed ≡ es → FitPlaces s (literal_of (bits 32) ∷ []) es → ArgumentsKeep s (literal_of (bits 32) ∷ []) es → CallShows P b w z s who (call (member e word) handed))
          (λ f is fit keeps.
          let n = bits_literal f (kind_of s f) 32 (taken s (literal_of (bits 32)) f keeps.0.0) (literal_kind s f) in
          stack_called P b w z s who accepted layouts seated fine scope e handed type word size n.0 kind (is ∙ ap (λ (x : Exp16). x ∷ []) n.1) (literal_fits n.0 (subst (λ (x : Exp16). overflows (an_expression s (literal_of (bits 32)) x) ≡ false) n.1 fit.0)))
          (arguments_of handed) (subst (λ (o : Option Signature). IfSome o (λ g. length (arguments_of handed) ≡ length g.wanted)) signature fits.count) refl
          (subst (λ (o : Option Signature). FitPlaces s (wanted_by o) (arguments_of handed)) signature fits.places)
          (subst (λ (o : Option Signature). ArgumentsKeep s (wanted_by o) (arguments_of handed)) signature (call_kept s statement (member e word) handed fits.keeps))

      no_word : bytes_eq word (codes "push_front") ≡ false → bytes_eq word (codes "pop_front") ≡ false → (o : Option Range) → IfSome (option_map does (option_and_then (λ r. cond (bytes_eq word (codes "push_front")) (Some (ready.push_front r (number_given (given_at (arguments_of handed) 0)))) (cond (bytes_eq word (codes "pop_front")) (Some (ready.pop_front r (number_given (given_at (arguments_of handed) 0)))) None)) o)) (RunsAlike P b w z s who [] (expression (call (member e word) handed)))
      no_word x y None = tt
      no_word x y (Some r) =
          subst (λ (t : Bool). IfSome (option_map does (cond t (Some (ready.push_front r (number_given (given_at (arguments_of handed) 0)))) (cond (bytes_eq word (codes "pop_front")) (Some (ready.pop_front r (number_given (given_at (arguments_of handed) 0)))) None))) (RunsAlike P b w z s who [] (expression (call (member e word) handed)))) (sym x)
          (subst (λ (t : Bool). IfSome (option_map does (cond t (Some (ready.pop_front r (number_given (given_at (arguments_of handed) 0)))) None)) (RunsAlike P b w z s who [] (expression (call (member e word) handed)))) (sym y) tt)

      is_called : (t u : Bool) → bytes_eq word (codes "push_front") ≡ t → bytes_eq word (codes "pop_front") ≡ u → signature_of s (member e word) ≡ cond t (Some wants) (cond u (Some wants) None)
      is_called t u x y =
          ap (λ (j : Kind). method_signature j word) kind
          ∙ (ap (λ (p : Bool). cond p (Some wants) (cond (bytes_eq word (codes "pop_front")) (Some wants) None)) x ∙ ap (λ (p : Bool). cond t (Some wants) (cond p (Some wants) None)) y)

      by : (t u : Bool) → bytes_eq word (codes "push_front") ≡ t → bytes_eq word (codes "pop_front") ≡ u → CallShows P b w z s who (call (member e word) handed)
      by true u x y = one_literal (is_called true u x y)
      by false true x y = one_literal (is_called false true x y)
      by false false x y =
          subst (λ (j : Kind). IfSome (option_map does (method_deed b s seats j e word (arguments_of handed))) (RunsAlike P b w z s who [] (expression (call (member e word) handed)))) (sym kind)
          (no_word x y (option_and_then fixed_range (range_given s seats e)))

    -- a header or a stack is emitted
    pub packet_emits : SourcesTell P b w z s who → HeadersWhole b.syntax → (e handed : Exp16) (word : Name) → kind_of s e ≡ packet_out → CallFits s (member e word) handed → CallShows P b w z s who (call (member e word) handed)
    packet_emits sources whole e handed word kind fits = by (bytes_eq word (codes "emit")) refl where
      wants : Signature
      wants = extern_at (deparser_position ∷ []) (emitted ∷ [])

      leaves : (f : Exp16) (x : Source) (m : sem.Moment) → arguments_of handed ≡ f ∷ [] → ready_source s seats (table_found b) f ≡ Some x → call_statement w s (call (member e word) handed) m ≡ packets.emit (value_of w s emitted f m).value (value_of w s emitted f m).moment
      leaves f x m one source =
          ap (λ (j : Kind). method_call w s j e word handed m) kind
          ∙ (ap (λ (es : List Exp16). let y = arguments_from w s (emitted ∷ []) es m in packets.emit (value_at y.given 0) y.moment) one
          ∙ ap (λ (g : Given × sem.Moment). packets.emit g.0.value g.1) (source_argument P b w z s who accepted layouts seated fine emitted f x m refl source))

      out : (f : Exp16) (x : Source) → takes emitted f (kind_of s f) ≡ true → (m : sem.Moment) (k : Moment) → PartTold P b who (kind_of s f) (value_of w s emitted f m) (source_range z.apply x k) → Shown P b.syntax who (packets.emit (value_of w s emitted f m).value (value_of w s emitted f m).moment) (ready.done z.apply (emit_headers x) k)
      out f x taking m k told =
          let y : Reached = source_range z.apply x k in
          let even : IsEmitted (layouts_of b.syntax.decls) told.seat.form = whole told.part told.seat told.at (subst IsHeaded (sym (formed_as (layouts_of b.syntax.decls) (kind_of s f) told.seat.form (emitted_composite f (kind_of s f) taking) told.form)) (emitted_headed f (kind_of s f) taking)) in
          subst (λ (r : Sought). Shown P b.syntax who (packets.emit (value_of w s emitted f m).value (value_of w s emitted f m).moment) (with_source (record { range = r; moment = y.moment }) ready_packets.emit)) (sym told.reaches)
          (record {
            shows = emit_shows b.syntax who told.part told.seat told.range (value_of w s emitted f m).value (value_of w s emitted f m).moment y.moment accepted told.at even told.ranged told.stands told.shown.shows;
            waits = told.shown.waits;
          })

      by_source : (f : Exp16) → arguments_of handed ≡ f ∷ [] → takes emitted f (kind_of s f) ≡ true → (o : Option Source) → ready_source s seats (table_found b) f ≡ o → IfSome o (λ x. (m : sem.Moment) (k : Moment) → Shown P b.syntax who m k → m.stopped ≡ None → PartTold P b who (kind_of s f) (value_of w s emitted f m) (source_range z.apply x k)) → IfSome (option_map does (option_map emit_headers o)) (RunsAlike P b w z s who [] (expression (call (member e word) handed)))
      by_source f one taking None source h = tt
      by_source f one taking (Some x) source h = left_alike P b w z s who (call (member e word) handed) (emit_headers x) (λ m k shown runs. subst (λ (y : sem.Moment). Shown P b.syntax who y (ready.done z.apply (emit_headers x) k)) (sym (leaves f x m one source)) (out f x taking m k (h m k shown runs)))

      one_emitted : signature_of s (member e word) ≡ Some wants → CallFits s (member e word) handed → IfSome (option_map does (option_map emit_headers (ready_source s seats (table_found b) (given_at (arguments_of handed) 0)))) (RunsAlike P b w z s who [] (expression (call (member e word) handed)))
      one_emitted signature fit =
          take_one (λ es. arguments_of handed ≡ es → ArgumentsKeep s (emitted ∷ []) es → Each (ToldNone s) es → IfSome (option_map does (option_map emit_headers (ready_source s seats (table_found b) (given_at es 0)))) (RunsAlike P b w z s who [] (expression (call (member e word) handed))))
          (λ f is keeps told.
          let taking : takes emitted f (kind_of s f) ≡ true = taken s emitted f keeps.0.0 in
          by_source f is taking (ready_source s seats (table_found b) f) refl (sources emitted emitted f (emitted_parts f (kind_of s f) taking) keeps.0 told.0))
          (arguments_of handed) (subst (λ (o : Option Signature). IfSome o (λ g. length (arguments_of handed) ≡ length g.wanted)) signature fit.count) refl
          (subst (λ (o : Option Signature). ArgumentsKeep s (wanted_by o) (arguments_of handed)) signature (call_kept s statement (member e word) handed fit.keeps))
          fit.told

      by : (t : Bool) → bytes_eq word (codes "emit") ≡ t → CallShows P b w z s who (call (member e word) handed)
      by t is =
          subst (λ (j : Kind). IfSome (option_map does (method_deed b s seats j e word (arguments_of handed))) (RunsAlike P b w z s who [] (expression (call (member e word) handed)))) (sym kind)
          (subst (λ (u : Bool). IfSome (option_map does (cond u (option_map emit_headers (ready_source s seats (table_found b) (given_at (arguments_of handed) 0))) None)) (RunsAlike P b w z s who [] (expression (call (member e word) handed)))) (sym is) (then_so t is)) where
            then_so : (u : Bool) → bytes_eq word (codes "emit") ≡ u → IfSome (option_map does (cond u (option_map emit_headers (ready_source s seats (table_found b) (given_at (arguments_of handed) 0))) None)) (RunsAlike P b w z s who [] (expression (call (member e word) handed)))
            then_so true same = one_emitted (ap (λ (j : Kind). method_signature j word) kind ∙ ap (λ (p : Bool). cond p (Some wants) None) same) fits
            then_so false same = tt
