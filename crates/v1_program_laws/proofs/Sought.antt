-- So sources reach what headers, stacks and structs are, where ready tests tell values and no stack tells anything.
use Rattle.std.proofs.Common.{◌≡◌, inl, Option, Some, None, IfSome, List, [], ◌∷◌, refl, sym, ◌∙◌, subst}
use Rattle.p416_syntax.specs.declared.program.Syntax16.{Syntax16}
use Rattle.p416_syntax.specs.Tree.{Exp16, literal, truth, error, name, member, index, slice, call, lookahead, cast, unary, binary, choice, parenthesized, no_arguments, argument, listed}
use Rattle.p416_syntax.specs.Kinds.{Kind, bits, unsized, boolean, error_code, header, stack, struct, packet_in, packet_out, errors, enumeration, one_of, table, applied, object, items, nothing, unknown}
use Rattle.p416_syntax.specs.Scopes.{Layout, Scope}
use Rattle.p416_syntax.specs.Calls.{Place, value, a_stack, method_signature}
use Rattle.p416_syntax.specs.Expressions.{kind_of}
use Rattle.p416_syntax.specs.Uses.{an_expression, a_number, owner_place, chosen_place, uses}
use Rattle.p416_syntax.specs.Breaks.{BreaksNone, program_rules}
use Rattle.p416_syntax.specs.Declarations.{layouts_of}
use Rattle.v1_core.specs.Frames as sem
use Rattle.v1_core.specs.Surroundings as meaning
use Rattle.v1_core.specs.Numbered.{InScope}
use Rattle.v1_core.specs.Expressions as sem_expressions
use Rattle.v1_core.specs.Expressions.{value_of}
use Rattle.v1_core.specs.Cells.{Cells}
use Rattle.v1_core.specs.Seats.{Form, slot_form, header_form, stack_form, struct_form, no_form}
use Rattle.v1_ready_forms.specs.Named.{NamedSeat, seats_in}
use Rattle.v1_ready_forms.specs.Ways.{its_value}
use Rattle.v1_ready_laws.specs.Rules.{Keeps, NamesSeated}
use Rattle.v1_ready_blocks.specs.Moments.{Moment}
use Rattle.v1_ready_blocks.specs.Tests.{World, Test, Source, Reached, source_range}
use Rattle.v1_ready_statements.specs.Around.{Around, table_found}
use Rattle.v1_ready_statements.specs.Tested.{ready_test, ready_source}
use Rattle.v1_value_laws.specs.Kinds.{Fine}
use Rattle.v1_deed_laws.specs.Forms.{IsParted}
use Rattle.v1_statement_laws.specs.Behind.{Shown}
use Rattle.v1_statement_laws.specs.Laws.{HasParts}
use Rattle.v1_statement_laws.proofs.Sources.{Composite}
use Rattle.v1_program_laws.specs.Reaching.{Seeks, found, beyond, erred, Asks, ConditionsAsk}
use Rattle.v1_program_laws.proofs.Seeking.{seeks}
use Rattle.v1_program_laws.proofs.Shapes.{all_one}
use Rattle.v1_program_laws.specs.SourceLaws.{Headed}
use Rattle.v1_call_laws.specs.Telling.{ToldNone, IsValueOf, Tells, TestsTell}
use Rattle.v1_call_laws.specs.Sourcing.{PartTold, SourcesTell, FormsAgree}
use Rattle.v1_call_laws.proofs.Incoming.{form_parted, formed_as}
use Rattle.v1_call_laws.proofs.Reached.{rest_kept, ChoiceKeeps, choice_keeps, owner_keeps, source_runs}

headed_of : (f : Form) → IsParted f → Headed f
headed_of (slot_form of) h = absurd h
headed_of (header_form type) h = tt
headed_of (stack_form type size) h = tt
headed_of (struct_form type) h = tt
headed_of no_form h = absurd h

pub forms_agree : (syntax : Syntax16) → BreaksNone syntax program_rules → FormsAgree syntax
forms_agree syntax accepted p q t u at there is parted = all_one syntax accepted p q t u at there (headed_of t.form parted) is

composite_of : (k : Kind) → HasParts k → Composite k
composite_of (bits width) h = absurd h
composite_of unsized h = absurd h
composite_of boolean h = absurd h
composite_of error_code h = absurd h
composite_of (header type) h = tt
composite_of (stack type size) h = tt
composite_of (struct type) h = tt
composite_of packet_in h = absurd h
composite_of packet_out h = absurd h
composite_of errors h = absurd h
composite_of (enumeration enum) h = absurd h
composite_of (one_of enum) h = absurd h
composite_of table h = absurd h
composite_of applied h = absurd h
composite_of (object obj) h = absurd h
composite_of items h = absurd h
composite_of nothing h = absurd h
composite_of unknown h = absurd h

module _ (P : Cells → Type 0) (b : Around) (w : meaning.World) (z : World) (s : Scope) (who : InScope) (accepted : BreaksNone b.syntax program_rules) (layouts : s.layouts ≡ layouts_of b.syntax.decls) (seated : NamesSeated s (seats_in b.syntax w.around.roots who)) (fine : Fine s) (tell : TestsTell P b w z s who) where
  abbrev seats : List NamedSeat
  seats = seats_in b.syntax w.around.roots who

  abbrev types : List Layout
  types = layouts_of b.syntax.decls

  asks : (c : Exp16) (o : Option Test) → IfSome o (Tells P b w z s who (value boolean) c (IsValueOf (value boolean) (kind_of s c))) → IfSome o (Asks P b w z s who c)
  asks c None h = tt
  asks c (Some t) h = record {
    gives = λ m k shown runs. let y = h m k shown runs in inl (y.value, y.runs, y.shown);
    ends = λ m k e shown runs stops. let y = h m k shown runs in absurd (cc (sym y.runs ∙ stops));
  }

  -- the conditions of choices
  conditions : (e : Exp16) (q : Place) → Keeps s q e → ToldNone s e → ConditionsAsk P b w z s who e
  conditions (member e word) q keeps told = conditions e (owner_place q (method_signature (kind_of s e) word)) (owner_keeps s q e word keeps) told.1
  conditions (index e at) q keeps told = conditions e a_stack (rest_kept (an_expression s q (index e at) ∷ a_number at ∷ []) (uses s a_stack e) keeps) told
  conditions (choice c a d) q keeps told =
      let kept : ChoiceKeeps s q c a d = choice_keeps s q c a d keeps in
      let r : Place = chosen_place q (kind_of s a) (kind_of s d) in
      (asks c (ready_test s seats (table_found b) (value boolean) c) (tell (value boolean) (value boolean) c kept.condition told.0), conditions a r kept.positive told.1, conditions d r kept.negative told.2)
  conditions (literal n) q keeps told = tt
  conditions (truth holds) q keeps told = tt
  conditions error q keeps told = tt
  conditions (name text) q keeps told = tt
  conditions (slice e high low) q keeps told = tt
  conditions (call g more) q keeps told = tt
  conditions (lookahead e to more) q keeps told = tt
  conditions (cast to e) q keeps told = tt
  conditions (unary operator e) q keeps told = tt
  conditions (binary operator a d) q keeps told = tt
  conditions (parenthesized e) q keeps told = tt
  conditions no_arguments q keeps told = tt
  conditions (argument before last) q keeps told = tt
  conditions (listed es) q keeps told = tt

  reached : (k : Kind) (x : sem_expressions.Valued) (y : Reached) → HasParts k → x.moment.stopped ≡ None → Seeks P b.syntax who its_value k x y → PartTold P b who k x y
  reached k x y has runs (found r u reaches free asked stands shown) =
      let same : x.value ≡ u = cc asked in
      let composite : Composite k = composite_of k has in
      record {
        range = r;
        reaches = reaches;
        runs = runs;
        shown = shown;
        part = stands.part;
        seat = stands.seat;
        at = stands.at;
        form = stands.form;
        parted = subst IsParted (sym (formed_as types k stands.seat.form composite stands.form)) (form_parted k composite);
        ranged = stands.ranged;
        stands = same ∙ stands.stands;
      }
  reached k x y has runs (beyond reaches free asked shown) = absurd (cc asked)
  reached k x y has runs (erred e reaches stops shown) = absurd (cc (sym runs ∙ stops))

  pub sources_told : SourcesTell P b w z s who
  sources_told p q e has keeps told = by (ready_source s seats (table_found b) e) refl (λ m k h runs. seeks P b w z s who accepted layouts seated fine e its_value p m k (conditions e q keeps told) (composite_of (kind_of s e) has) h runs) where
    by : (o : Option Source) → ready_source s seats (table_found b) e ≡ o → ((m : sem.Moment) (k : Moment) → Shown P b.syntax who m k → m.stopped ≡ None → IfSome o (λ source. Seeks P b.syntax who its_value (kind_of s e) (value_of w s p e m) (source_range z.apply source k))) → IfSome o (λ source. (m : sem.Moment) (k : Moment) → Shown P b.syntax who m k → m.stopped ≡ None → PartTold P b who (kind_of s e) (value_of w s p e m) (source_range z.apply source k))
    by None is f = tt
    by (Some x) is f = λ m k h runs. reached (kind_of s e) (value_of w s p e m) (source_range z.apply x k) has (source_runs P b w z s who tell its_value e p q x is keeps told m k h runs) (f m k h runs)
