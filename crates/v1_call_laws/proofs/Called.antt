-- A call of an action: its arguments enter, its body runs, and parameters go back.
use Rattle.std.proofs.Common.{◌≡◌, ℕ, ◌+◌, Bool, false, Option, Some, None, List, [], length, map, refl, sym, ap, ◌∙◌, subst}
use Rattle.p416_syntax.specs.declared.controls.Action16.{Action16}
use Rattle.p416_syntax.specs.declared.parts.Param.{Param}
use Rattle.p416_syntax.specs.Tree.{Exp16, name, call, expression}
use Rattle.p416_syntax.specs.Names.{Name}
use Rattle.p416_syntax.specs.Scopes.{Scope, Handed, Sort, an_action, sort_of}
use Rattle.p416_syntax.specs.Calls.{place_of}
use Rattle.p416_syntax.specs.Uses.{arguments_of}
use Rattle.p416_syntax.specs.Breaks.{BreaksNone, program_rules}
use Rattle.p416_syntax.specs.Declarations.{layouts_of}
use Rattle.v1_core.specs.Values.{Value}
use Rattle.v1_core.specs.Frames as sem
use Rattle.v1_core.specs.Frames.{Frame, with_inner}
use Rattle.v1_core.specs.Slots.{variable_kinds}
use Rattle.v1_core.specs.Surroundings as meaning
use Rattle.v1_core.specs.Surroundings.{action_named}
use Rattle.v1_core.specs.Numbered.{InScope, named_values, frame_in}
use Rattle.v1_core.specs.Calls as calls
use Rattle.v1_core.specs.Calls.{arguments_from, bound_arguments, acted, call_action, named_call, call_statement}
use Rattle.v1_core.specs.Cells.{Cells}
use Rattle.v1_core.specs.Programs.{numbered16}
use Rattle.v1_core.specs.Scopes.{IsScope}
use Rattle.v1_ready_forms.specs.Named.{NamedSeat, seats_in}
use Rattle.v1_ready_laws.specs.Rules.{NamesSeated}
use Rattle.v1_block_laws.specs.Keeping.{Each, ArgumentsKeep}
use Rattle.v1_ready_blocks.specs.Moments as blocks
use Rattle.v1_ready_blocks.specs.Moments.{Moment, with_cells}
use Rattle.v1_ready_blocks.specs.Tests.{World}
use Rattle.v1_ready_blocks.specs.Arguments.{Incoming, Outgoing, brought_in, given_back}
use Rattle.v1_ready_blocks.specs.Statements as ready
use Rattle.v1_ready_blocks.specs.Statements.{called}
use Rattle.v1_ready_statements.specs.Around.{Around, Found}
use Rattle.v1_ready_statements.specs.Given.{any_applies, all_incoming, all_outgoing}
use Rattle.v1_value_laws.specs.Kinds.{Fine}
use Rattle.v1_statement_laws.specs.Behind.{Shown}
use Rattle.v1_statement_laws.specs.Leaves.{RunsAlike, called_names, ActionDoes}
use Rattle.v1_statement_laws.proofs.Closing.{ticked_shown, running_is}
use Rattle.v1_statement_laws.proofs.Starting.{outside_away}
use Rattle.v1_call_laws.specs.Telling.{ToldNone, TestsTell}
use Rattle.v1_call_laws.specs.Sourcing.{SourcesTell, FormsAgree}
use Rattle.v1_call_laws.specs.Handing.{AreHanded, NamesDiffer}
use Rattle.v1_call_laws.proofs.Parameters.{Held, Bound, Aims}
use Rattle.v1_call_laws.proofs.Lists.{AllEntered, all_enter, all_return, bound_named, named_held}

module _ (P : Cells → Type 0) (b : Around) (w : meaning.World) (z : World) (s : Scope) (who : InScope) (accepted : BreaksNone b.syntax program_rules) (layouts : s.layouts ≡ layouts_of b.syntax.decls) (seated : NamesSeated s (seats_in b.syntax w.around.roots who)) (fine : Fine s) (scope : IsScope (length (variable_kinds b.syntax)) who) where
  abbrev seats : List NamedSeat
  seats = seats_in b.syntax w.around.roots who

  abbrev parameters : Found → List Param
  parameters f = f.place.of.parameters

  -- behind the arguments the body runs, and what it leaves goes back
  pub acts : FormsAgree b.syntax → w.around.scope.layouts ≡ layouts_of b.syntax.decls → (f : Found) → ActionDoes P b w z who f → NamesDiffer (parameters f) → (es : List Exp16) (x : calls.Arguments) (outs : List Outgoing) (k : Moment) → all_outgoing b s seats f.place.first (parameters f) es ≡ Some outs → Bound b w f.place.first (parameters f) x.given k.cells → Aims b w s who f.place.first (parameters f) es x.given → Shown P b.syntax who x.moment k → x.moment.stopped ≡ None
      → Shown P b.syntax who (acted w f.place.of x) (blocks.going_on (λ n. blocks.going_on (given_back outs) (z.act f.number n)) k)
  acts agree same_types f does differ es x outs k backs bound aims h runs =
      subst (λ (j : Moment). Shown P b.syntax who (acted w f.place.of x) j) (sym (running_is k.stopped k (blocks.going_on (given_back outs) (z.act f.number k)) (sym h.shows.stopped ∙ runs)))
      (subst (λ (j : Moment). Shown P b.syntax who (acted w f.place.of x) j) (sym (running_is left.stopped left (given_back outs left) (sym after.shows.stopped ∙ does.runs begun k entered runs)))
      (all_return P b w z s who accepted layouts seated fine scope agree n ps es x.given outs done.frame.inner backs does.kinds aims (λ j le lt. (outside_away n (n + length ps) j who.variables le lt does.outside, outside_away n (n + length ps) j who.inner le lt does.apart))
      (with_inner x.moment.frame.inner done) left held out)) where
        n : ℕ
        n = f.place.first

        ps : List Param
        ps = parameters f

        begun : sem.Moment
        begun = with_inner (bound_arguments w.around.scope ps x.given) x.moment

        done : sem.Moment
        done = w.act f.place.of begun

        left : Moment
        left = z.act f.number k

        entered : Shown P b.syntax (called_names who f) begun k
        entered = record {
          shows = record {
            frame =
                ap (λ (g : Frame). record g { inner = bound_arguments w.around.scope ps x.given }) h.shows.frame
                ∙ ap (λ (v : Value). record (frame_in who (numbered16 b.syntax k.cells)) { inner = v }) (bound_named P b w z s who accepted layouts seated fine scope same_types n ps x.given k.cells bound);
            whole = h.shows.whole;
            store = h.shows.store;
            unparsed = h.shows.unparsed;
            emitted = h.shows.emitted;
            work = h.shows.work;
            stopped = h.shows.stopped;
            hit = h.shows.hit;
          };
          waits = h.waits;
        }

        after : Shown P b.syntax (called_names who f) done left
        after = does.shown begun k entered runs

        inner_is : x.moment.frame.inner ≡ named_values (numbered16 b.syntax left.cells).variables who.inner
        inner_is = ap (λ (g : Frame). g.inner) h.shows.frame ∙ sym (does.stays begun k entered runs)

        out : Shown P b.syntax who (with_inner x.moment.frame.inner done) left
        out = record {
          shows = record {
            frame =
                ap (λ (g : Frame). record g { inner = x.moment.frame.inner }) after.shows.frame
                ∙ ap (λ (v : Value). record (frame_in (called_names who f) (numbered16 b.syntax left.cells)) { inner = v }) inner_is;
            whole = after.shows.whole;
            store = after.shows.store;
            unparsed = after.shows.unparsed;
            emitted = after.shows.emitted;
            work = after.shows.work;
            stopped = after.shows.stopped;
            hit = after.shows.hit;
          };
          waits = after.waits;
        }

        held : Held b n ps done.frame.inner left.cells
        held = subst (λ (v : Value). Held b n ps v left.cells) (sym (ap (λ (g : Frame). g.inner) after.shows.frame)) (named_held P b w z s who accepted layouts seated fine scope n ps left.cells differ)

  -- a call of an action leaves this
  leaves : (text plane : Name) (handed : Exp16) (hs : List Handed) (a : Action16) (m : sem.Moment) → sort_of s text ≡ an_action plane hs → action_named w.around text ≡ Some a → call_statement w s (call (name text) handed) m ≡ acted w a (arguments_from w s (map place_of hs) (arguments_of handed) m)
  leaves text plane handed hs a m sort is =
      ap (λ (x : Sort). named_call w s x text handed m) sort
      ∙ ap (λ (o : Option Action16). call_action w s hs o handed m) is

  -- a call whose arguments come to this when they are brought in
  pub called_so : FormsAgree b.syntax → w.around.scope.layouts ≡ layouts_of b.syntax.decls → (text plane : Name) (handed : Exp16) (hs : List Handed) (f : Found) (incs : List Incoming) (outs : List Outgoing) (apart : Bool) → ActionDoes P b w z who f → NamesDiffer (parameters f) → sort_of s text ≡ an_action plane hs → action_named w.around text ≡ Some f.place.of → all_outgoing b s seats f.place.first (parameters f) (arguments_of handed) ≡ Some outs
      → ((m : sem.Moment) (k : Moment) → Shown P b.syntax who m k → m.stopped ≡ None → (j : Moment) × ((brought_in z.apply apart incs k ≡ j) × (Shown P b.syntax who (arguments_from w s (map place_of hs) (arguments_of handed) m).moment j) × ((arguments_from w s (map place_of hs) (arguments_of handed) m).moment.stopped ≡ None) × (Bound b w f.place.first (parameters f) (arguments_from w s (map place_of hs) (arguments_of handed) m).given j.cells) × (Aims b w s who f.place.first (parameters f) (arguments_of handed) (arguments_from w s (map place_of hs) (arguments_of handed) m).given)))
      → RunsAlike P b w z s who [] (expression (call (name text) handed)) (ready.call f.number apart incs outs)
  called_so agree same_types text plane handed hs f incs outs apart does differ sort is backs brings ran m k h runs =
      let next : Shown P b.syntax who (sem.ticked m) (blocks.ticked k) = ticked_shown P b.syntax who m k h in
      let x : calls.Arguments = arguments_from w s (map place_of hs) (arguments_of handed) (sem.ticked m) in
      let come = brings (sem.ticked m) (blocks.ticked k) next runs in
      record {
        some = [];
        shown =
            subst (λ (y : sem.Moment). Shown P b.syntax who y (ready.run z ran (ready.call f.number apart incs outs) k)) (sym (running_is m.stopped m (call_statement w s (call (name text) handed) (sem.ticked m)) runs))
            (subst (λ (y : Moment). Shown P b.syntax who (call_statement w s (call (name text) handed) (sem.ticked m)) y) (sym (running_is k.stopped k (called z f.number apart incs outs (blocks.ticked k)) (sym h.shows.stopped ∙ runs)))
            (subst (λ (y : sem.Moment). Shown P b.syntax who y (called z f.number apart incs outs (blocks.ticked k))) (sym (leaves text plane handed hs f.place.of (sem.ticked m) sort is))
            (subst (λ (j : Moment). Shown P b.syntax who (acted w f.place.of x) (blocks.going_on (λ n. blocks.going_on (given_back outs) (z.act f.number n)) j)) (sym come.1.0)
            (acts agree same_types f does differ (arguments_of handed) x outs come.0 backs come.1.3 come.1.4 come.1.1 come.1.2))));
        all = λ none. refl;
      }

  -- at once, where no argument applies a table
  pub called_at_once : TestsTell P b w z s who → SourcesTell P b w z s who → FormsAgree b.syntax → w.around.scope.layouts ≡ layouts_of b.syntax.decls → (text plane : Name) (handed : Exp16) (hs : List Handed) (f : Found) (incs : List Incoming) (outs : List Outgoing) → ActionDoes P b w z who f → NamesDiffer (parameters f) → sort_of s text ≡ an_action plane hs → action_named w.around text ≡ Some f.place.of → AreHanded s w.around.scope hs (parameters f) → ArgumentsKeep s (map place_of hs) (arguments_of handed) → Each (ToldNone s) (arguments_of handed) → any_applies s (arguments_of handed) ≡ false
      → all_incoming b s seats f.place.first (parameters f) (arguments_of handed) ≡ Some incs → all_outgoing b s seats f.place.first (parameters f) (arguments_of handed) ≡ Some outs → RunsAlike P b w z s who [] (expression (call (name text) handed)) (ready.call f.number false incs outs)
  called_at_once tell sources agree same_types text plane handed hs f incs outs does differ sort is are keeps told none enters backs =
      called_so agree same_types text plane handed hs f incs outs false does differ sort is backs (λ m k h runs.
      let n : ℕ = f.place.first in
      let many : ℕ = length (parameters f) in
      let all : AllEntered P b w z s who accepted layouts seated fine scope n (parameters f) (arguments_of handed) (arguments_from w s (map place_of hs) (arguments_of handed) m) incs k =
      all_enter P b w z s who accepted layouts seated fine scope tell sources agree same_types n (parameters f) (arguments_of handed) hs incs outs are enters backs does.kinds keeps told none (λ j le lt. (outside_away n (n + many) j who.variables le lt does.outside, outside_away n (n + many) j who.inner le lt does.apart)) m k h runs in
      (with_cells all.cells k, (all.placed, all.shown, all.runs, all.bound, all.aims)))
