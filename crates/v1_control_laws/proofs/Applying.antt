-- The application of a table that is ready does what that of the table does.
use Rattle.std.proofs.Common.{◌≡◌, ◌⊎◌, inl, inr, ℕ, ◌+◌, ◌<◌, ◌≤◌, is_some, Option, Some, None, IfSome, option_map, List, [], ◌∷◌, length, map, get_or, refl, sym, ap, ◌∙◌, subst}
use Rattle.std.specs.Option.{option_map_or}
use Rattle.fabric.specs.declared.items.Event.{Event}
use Rattle.match_core.specs.Best.{Filled, best}
use Rattle.match_core.specs.Tables.{filled_of}
use Rattle.p416_syntax.specs.declared.controls.Action16.{Action16}
use Rattle.p416_syntax.specs.declared.controls.TableKey.{TableKey}
use Rattle.p416_syntax.specs.declared.controls.Table16.{Table16}
use Rattle.p416_syntax.specs.Properties.{keys_of}
use Rattle.p416_syntax.specs.Names.{Name}
use Rattle.p416_syntax.specs.Calls.{table_key}
use Rattle.p416_syntax.specs.Declarations.{is_exact, layouts_of}
use Rattle.p416_syntax.specs.Breaks.{BreaksNone, program_rules}
use Rattle.v1_core.specs.Values.{Value, no_value, no_members, a_member, as_number}
use Rattle.v1_core.specs.Frames as sem
use Rattle.v1_core.specs.Frames.{Frame, Hit, with_inner}
use Rattle.v1_core.specs.Slots.{variable_kinds, parameter_kind}
use Rattle.v1_core.specs.Signatures.{key_scope, table_sig, table_number}
use Rattle.v1_core.specs.Surroundings as meaning
use Rattle.v1_core.specs.Surroundings.{action_called, action_named, table_named, quiet_world}
use Rattle.v1_core.specs.Numbered.{Variable, InScope, nobody, named_values, frame_in}
use Rattle.v1_core.specs.Expressions.{value_of}
use Rattle.v1_core.specs.Tables as meaning_tables
use Rattle.v1_core.specs.Tables.{key_value, key_values, found, fill_of, run_action, run_chosen, with_application, applied_by, applied_in, applied}
use Rattle.v1_core.specs.Cells.{Cells, with_event}
use Rattle.v1_core.specs.Programs.{numbered16}
use Rattle.v1_core.specs.PackedFrames.{IsFrameOf}
use Rattle.v1_core.proofs.Laws.{event_put}
use Rattle.v1_core.specs.Ready.{Ready, ready_value}
use Rattle.v1_ready_forms.specs.Named.{NamedSeat, seats_in}
use Rattle.v1_ready_forms.specs.Ways.{its_value}
use Rattle.v1_ready_forms.specs.Expressions.{ready_of_exp}
use Rattle.v1_ready_laws.specs.Asked.{Gives}
use Rattle.v1_ready_laws.specs.Rules.{AppliesNone, NamesSeated}
use Rattle.v1_ready_laws.proofs.Judged.{applies_none, judged_gives}
use Rattle.v1_ready_blocks.specs.Moments.{Moment, with_cells, with_hit}
use Rattle.v1_ready_blocks.specs.Tests.{World}
use Rattle.v1_ready_blocks.specs.Tables as ready
use Rattle.v1_ready_blocks.specs.Tables.{key_number}
use Rattle.v1_block_laws.specs.Standing.{AreOfKinds}
use Rattle.v1_block_laws.specs.Apart.{AreOutside}
use Rattle.v1_block_laws.specs.Variables.{own_names}
use Rattle.v1_block_laws.specs.Keeping.{Each}
use Rattle.v1_ready_statements.specs.Around.{ActionPlace, Around, Found, action_found}
use Rattle.v1_ready_statements.specs.Given.{cons_option}
use Rattle.v1_ready_statements.specs.Blocks.{all_of, parameter_slots, slots_from, key_ready, table_ready}
use Rattle.v1_statement_laws.specs.Behind.{Shown}
use Rattle.v1_statement_laws.specs.Leaves.{AppliedShows, called_names, ActionDoes}
use Rattle.v1_call_laws.proofs.Telling.{never_stops}
use Rattle.v1_control_laws.specs.Tables.{around_of, AreDeclared, Takes, KeyFits, TableFits, IsFilled}
use Rattle.v1_control_laws.proofs.Binding.{Bound, AllBound, all_bound}
use Rattle.v1_control_laws.proofs.Choosing.{found_called, at_its_number, best_within, ChosenAlike, none_chosen, one_chosen, TableParts, parts_are, chosen_alike}

at_some : {A : Type 0} (B : A → Type 0) (o : Option A) (x : A) → o ≡ Some x → IfSome o B → B x
at_some {A = A} B o x is h = subst (λ (p : Option A). IfSome p B) is h

one_hit : (direct entry : Option ℕ) → meaning_tables.hit_of direct entry ≡ ready.hit_of direct entry
one_hit None None = refl
one_hit None (Some entry) = refl
one_hit (Some counter) None = refl
one_hit (Some counter) (Some entry) = refl

module _ (P : Cells → Type 0) (S : meaning.Surroundings) (actions : List ActionPlace) (vars : List Variable) (accepted : BreaksNone S.setting.syntax program_rules) (layouts : S.scope.layouts ≡ layouts_of S.setting.syntax.decls) (seated : NamesSeated S.scope (seats_in S.setting.syntax S.roots (own_names vars))) (declared : AreDeclared S actions) where
  abbrev b : Around
  b = around_of S actions

  abbrev seats : List NamedSeat
  seats = seats_in S.setting.syntax S.roots (own_names vars)

  -- keys

  module _ (who : InScope) (variables : who.variables ≡ vars) (m : sem.Moment) (n : Moment) (h : Shown P b.syntax who m n) (runs : m.stopped ≡ None) where
    abbrev before : sem.Moment
    before = with_inner no_members m

    own_frame : before.frame ≡ frame_in (own_names vars) (numbered16 b.syntax n.cells)
    own_frame =
        ap (λ (f : Frame). record f { inner = no_members }) h.shows.frame
        ∙ ap (λ (vs : List Variable). frame_in (own_names vs) (numbered16 b.syntax n.cells)) variables

    key_alike : (k : TableKey) (r : Ready) → KeyFits S.scope k → key_ready S.scope seats k ≡ Some r → key_value S m k ≡ ready.key_value n r
    key_alike k r fits is = by gives where
      none : AppliesNone (key_scope S.scope) k.exp
      none = at_some (λ (e : Ready). AppliesNone (key_scope S.scope) k.exp) (ready_of_exp (key_scope S.scope) seats (table_key (is_exact k)) k.exp) r is (applies_none (key_scope S.scope) seats (table_key (is_exact k)) its_value k.exp)

      gives : Gives (ready_value n.cells m.unparsed r) its_value (value_of (quiet_world S) (key_scope S.scope) (table_key (is_exact k)) k.exp before) before
      gives =
          at_some (λ (e : Ready). Gives (ready_value n.cells m.unparsed e) its_value (value_of (quiet_world S) (key_scope S.scope) (table_key (is_exact k)) k.exp before) before) (ready_of_exp (key_scope S.scope) seats (table_key (is_exact k)) k.exp) r is
          (judged_gives b.syntax n.cells (quiet_world S) (key_scope S.scope) (own_names vars) before (table_key (is_exact k)) (table_key (is_exact k)) its_value k.exp accepted h.shows.whole layouts own_frame runs seated fits.0)

      ends : (value_of (quiet_world S) (key_scope S.scope) (table_key (is_exact k)) k.exp before).moment.stopped ≡ None
      ends = never_stops (quiet_world S) (key_scope S.scope) (table_key (is_exact k)) k.exp before fits.1 none runs

      by : Gives (ready_value n.cells m.unparsed r) its_value (value_of (quiet_world S) (key_scope S.scope) (table_key (is_exact k)) k.exp before) before → as_number (value_of (quiet_world S) (key_scope S.scope) (table_key (is_exact k)) k.exp before).value ≡ key_number (ready_value n.cells n.unparsed r)
      by (inl g) = ap key_number (sym g.1) ∙ ap (λ (left : List ℕ). key_number (ready_value n.cells left r)) h.shows.unparsed
      by (inr g) = absurd (cc (sym ends ∙ ap (λ (y : sem.Moment). y.stopped) g.1))

    keys_alike : (ks : List TableKey) (rs : List Ready) → Each (KeyFits S.scope) ks → all_of (key_ready S.scope seats) ks ≡ Some rs → map (key_value S m) ks ≡ map (ready.key_value n) rs
    keys_alike [] rs fits is = let same : [] ≡ rs = cc is in ap (λ (l : List Ready). map (ready.key_value n) l) same
    keys_alike (k ∷ ks) rs fits is = by (key_ready S.scope seats k) refl (all_of (key_ready S.scope seats) ks) refl (λ qs at. keys_alike ks qs fits.1 at) is where
      by : (o : Option Ready) → key_ready S.scope seats k ≡ o → (q : Option (List Ready)) → all_of (key_ready S.scope seats) ks ≡ q → ((qs : List Ready) → all_of (key_ready S.scope seats) ks ≡ Some qs → map (key_value S m) ks ≡ map (ready.key_value n) qs) → cons_option o q ≡ Some rs → map (key_value S m) (k ∷ ks) ≡ map (ready.key_value n) rs
      by None x None y rest e = absurd (cc e)
      by None x (Some qs) y rest e = absurd (cc e)
      by (Some r) x None y rest e = absurd (cc e)
      by (Some r) x (Some qs) y rest e =
          let same : r ∷ qs ≡ rs = cc e in
          ap (λ (l : List ℕ). key_value S m k ∷ l) (rest qs y) ∙ (ap (λ (v : ℕ). v ∷ map (ready.key_value n) qs) (key_alike k r fits.0 x) ∙ ap (λ (l : List Ready). map (ready.key_value n) l) same)

  -- actions

  abbrev values : Cells → List Value
  values c = (numbered16 b.syntax c).variables

  named_outside : (from to : ℕ) (c d : Cells) → ((j : ℕ) → (j < from) ⊎ (to ≤ j) → get_or (values d) j no_value ≡ get_or (values c) j no_value) → (vs : List Variable) → AreOutside from to vs → named_values (values d) vs ≡ named_values (values c) vs
  named_outside from to c d others [] h = refl
  named_outside from to c d others (v ∷ vs) h =
      ap (λ (x : Value). a_member v.called x (named_values (values d) vs)) (others v.number h.0)
      ∙ ap (λ (x : Value). a_member v.called (get_or (values c) v.number no_value) x) (named_outside from to c d others vs h.1)

  module _ (w : meaning.World) (z : World) (A : Action16 → sem.Moment → sem.Moment) (around : w.around ≡ S) (acts : w.act ≡ A) (parameters : List (List ℕ)) (slots_are : parameters ≡ map (parameter_slots b) actions) where
    -- an action that a table calls
    record Ran (who : InScope) (x : sem.Moment) (y : Moment) : Type 0 where
      shown : Shown P b.syntax who x y
      runs : x.stopped ≡ None

    module _ (who : InScope) (f : Found) (text : Name) (numbers : List ℕ) (at : action_found b text ≡ Some f) (takes : Takes S.scope f (length numbers)) (does : ActionDoes P b w z who f) (kinds : AllBound b S.scope accepted layouts f.place.first f.place.of.parameters (get_or parameters f.number [])) (hit : Option Hit) (m : sem.Moment) (n : Moment) (h : Shown P b.syntax who m n) (runs : m.stopped ≡ None) where
      abbrev slots : List ℕ
      slots = get_or parameters f.number []

      abbrev cells : Cells
      cells = ready.bound_numbers slots numbers n.cells

      abbrev entered : sem.Moment
      entered = record (with_inner (meaning_tables.bound_numbers S.scope f.place.of.parameters numbers) m) { hit = hit }

      abbrev begun : Moment
      begun = with_hit hit (with_cells cells n)

      bound : Bound b S.scope accepted layouts f.place.first (length f.place.of.parameters) n.cells cells
      bound = kinds.bound numbers n.cells takes.many h.shows.whole

      begins : Shown P b.syntax (called_names who f) entered begun
      begins = record {
        shows = record {
          frame =
              ap (λ (g : Frame). record g { inner = meaning_tables.bound_numbers S.scope f.place.of.parameters numbers }) h.shows.frame
              ∙ (ap (λ (g : Frame). record g { variables = named_values (values n.cells) who.variables; inner = meaning_tables.bound_numbers S.scope f.place.of.parameters numbers }) (sym bound.same)
              ∙ (ap (λ (v : Value). record (frame_in nobody (numbered16 b.syntax cells)) { variables = v; inner = meaning_tables.bound_numbers S.scope f.place.of.parameters numbers }) (sym (named_outside f.place.first (f.place.first + length f.place.of.parameters) n.cells cells bound.others who.variables does.outside))
              ∙ ap (λ (v : Value). record (frame_in nobody (numbered16 b.syntax cells)) { variables = named_values (values cells) who.variables; inner = v }) (sym (kinds.named numbers n.cells takes.many h.shows.whole))));
          whole = bound.whole;
          store = h.shows.store;
          unparsed = h.shows.unparsed;
          emitted = h.shows.emitted;
          work = h.shows.work;
          stopped = h.shows.stopped;
          hit = refl;
        };
        waits = h.waits;
      }

      abbrev behind : sem.Moment
      behind = w.act f.place.of entered

      abbrev left : Moment
      left = z.act f.number begun

      body : Shown P b.syntax (called_names who f) behind left
      body = does.shown entered begun begins runs

      inner_is : m.frame.inner ≡ named_values (values left.cells) who.inner
      inner_is =
          ap (λ (g : Frame). g.inner) h.shows.frame
          ∙ (sym (named_outside f.place.first (f.place.first + length f.place.of.parameters) n.cells cells bound.others who.inner does.apart) ∙ sym (does.stays entered begun begins runs))

      ended : Shown P b.syntax who (record (with_inner m.frame.inner behind) { hit = m.hit }) (with_hit n.hit left)
      ended = record {
        shows = record {
          frame =
              ap (λ (g : Frame). record g { inner = m.frame.inner }) body.shows.frame
              ∙ ap (λ (v : Value). record (frame_in (called_names who f) (numbered16 b.syntax left.cells)) { inner = v }) inner_is;
          whole = body.shows.whole;
          store = body.shows.store;
          unparsed = body.shows.unparsed;
          emitted = body.shows.emitted;
          work = body.shows.work;
          stopped = body.shows.stopped;
          hit = h.shows.hit;
        };
        waits = body.waits;
      }

      named_is : action_named S text ≡ Some f.place.of
      named_is = ap (λ (l : List Action16). action_called l text) (sym declared) ∙ found_called actions 0 text f at

      action_ran : Ran who (run_action S A hit numbers (action_named S text) m) (with_hit n.hit left)
      action_ran =
          subst (λ (o : Option Action16). Ran who (run_action S A hit numbers o m) (with_hit n.hit left)) (sym named_is)
          (subst (λ (act : Action16 → sem.Moment → sem.Moment). Ran who (run_action S act hit numbers (Some f.place.of) m) (with_hit n.hit left)) acts
          (record { shown = ended; runs = does.runs entered begun begins runs }))

    -- the application is noted

    event_whole : (c : Cells) (e : Event) → IsFrameOf b.syntax c → IsFrameOf b.syntax (with_event e c)
    event_whole c e h = record {
      layout = h.layout;
      whole = record { numbers = h.whole.numbers; valids = h.whole.valids; places = h.whole.places; fits = h.whole.fits; within = h.whole.within };
    }

    noted_shown : (who : InScope) (e : Event) (m : sem.Moment) (n : Moment) → Shown P b.syntax who m n → Shown P b.syntax who (sem.with_frame m (sem.with_event e m.frame)) (with_cells (with_event e n.cells) n)
    noted_shown who e m n h = record {
      shows = record {
        frame = ap (λ (g : Frame). sem.with_event e g) h.shows.frame ∙ sym (event_put b.syntax who n.cells e);
        whole = event_whole n.cells e h.shows.whole;
        store = h.shows.store;
        unparsed = h.shows.unparsed;
        emitted = h.shows.emitted;
        work = h.shows.work;
        stopped = h.shows.stopped;
        hit = h.shows.hit;
      };
      waits = h.waits;
    }

    -- the slots of the parameters of an action
    slots_bound : (who : InScope) (f : Found) (text : Name) → action_found b text ≡ Some f → (count : ℕ) → Takes S.scope f count → ActionDoes P b w z who f → AllBound b S.scope accepted layouts f.place.first f.place.of.parameters (get_or parameters f.number [])
    slots_bound who f text at count takes does =
        let own = all_bound b S.scope accepted layouts f.place.first f.place.of.parameters takes.bits (subst (λ (a : meaning.Surroundings). AreKinds a) around does.kinds) in
        subst (AllBound b S.scope accepted layouts f.place.first f.place.of.parameters) (sym (slots_at own.0 own.1.slots_are)) own.1 where
          AreKinds : meaning.Surroundings → Type 0
          AreKinds a = AreOfKinds (variable_kinds b.syntax) f.place.first (map (parameter_kind a.scope) f.place.of.parameters)

          slots_at : (found : List ℕ) → slots_from b f.place.first f.place.of.parameters ≡ Some found → get_or parameters f.number [] ≡ found
          slots_at found is =
              ap (λ (l : List (List ℕ)). get_or l f.number []) slots_are
              ∙ (at_its_number (parameter_slots b) actions text f [] at ∙ ap (λ (o : Option (List ℕ)). option_map_or (λ x. x) o []) is)

    -- what is chosen runs

    abbrev AllDo : InScope → Type 0
    AllDo who = (f : Found) (text : Name) → action_found b text ≡ Some f → ActionDoes P b w z who f

    abbrev Leaves : InScope → ℕ → Option ℕ → Option ℕ → sem.Moment → Moment → Option meaning_tables.Chosen → Option ready.Chosen → Type 0
    Leaves who number direct entry m n x y =
        AppliedShows P b who
        (record { hit = is_some entry; action = option_map meaning_tables.called_in x; moment = run_chosen S A (meaning_tables.hit_of direct entry) x (with_application number entry x m) })
        (record { hit = is_some entry; action = option_map ready.action_in y; moment = ready.run_chosen parameters z.act (ready.hit_of direct entry) y (ready.noted number entry y n) })

    chosen_ran : (who : InScope) (all : AllDo who) (number : ℕ) (direct entry : Option ℕ) (m : sem.Moment) (n : Moment) → Shown P b.syntax who m n → m.stopped ≡ None → (x : Option meaning_tables.Chosen) (y : Option ready.Chosen) → ChosenAlike b S.scope x y → Leaves who number direct entry m n x y
    chosen_ran who all number direct entry m n h runs _ _ none_chosen = record {
      hit = refl;
      action = tt;
      moment = noted_shown who (record { table = number; entry = entry; action = None }) m n h;
      runs = runs;
    }
    chosen_ran who all number direct entry m n h runs _ _ (one_chosen f text chosen arguments at takes) =
        let e : Event = record { table = number; entry = entry; action = Some chosen } in
        let does : ActionDoes P b w z who f = all f text at in
        let noted : Shown P b.syntax who (sem.with_frame m (sem.with_event e m.frame)) (with_cells (with_event e n.cells) n) = noted_shown who e m n h in
        let ran = action_ran who f text arguments at takes does (slots_bound who f text at (length arguments) takes does) (meaning_tables.hit_of direct entry) (sem.with_frame m (sem.with_event e m.frame)) (with_cells (with_event e n.cells) n) noted runs in
        let k : meaning_tables.Chosen = record { called = text; number = chosen; arguments = arguments } in
        let j : ready.Chosen = record { action = f.number; number = chosen; arguments = arguments } in
        subst (λ (hit : Option Hit). AppliedShows P b who
        (record { hit = is_some entry; action = Some text; moment = run_chosen S A (meaning_tables.hit_of direct entry) (Some k) (with_application number entry (Some k) m) })
        (record { hit = is_some entry; action = Some f.number; moment = ready.run_chosen parameters z.act hit (Some j) (ready.noted number entry (Some j) n) })) (one_hit direct entry)
        (record { hit = refl; action = (f, at, refl); moment = ran.shown; runs = ran.runs })

    -- an application

    pub table_shows : (who : InScope) → who.variables ≡ vars → AllDo who → (text : Name) (t : Table16) (r : ready.Table) (fill : ready.Fill) → table_named S text ≡ Some t → table_ready b S.scope seats t ≡ Some r → TableFits S actions t → IsFilled S t fill r
        → (m : sem.Moment) (n : Moment) → Shown P b.syntax who m n → m.stopped ≡ None → AppliedShows P b who (applied S A text m) (ready.applied fill parameters z.act r n)
    table_shows who variables all text t r fill named is fits filled m n h runs =
        subst (λ (o : Option Table16). AppliedShows P b who (applied_in S A o m) (ready.applied fill parameters z.act r n)) (sym named)
        (subst (λ (entry : Option ℕ). AppliedShows P b who (applied_by S A t (found S m t) m) (ready.applied_by fill parameters z.act r entry n)) entries by_entry) where
          parts : TableParts b S.scope seats t r
          parts = parts_are b S.scope seats t r is

          entries : found S m t ≡ ready.found fill n r
          entries =
              ap (λ (keys : List ℕ). best (filled_of (table_sig S.setting.syntax S.locals S.scope t) (fill_of S t)) keys) (keys_alike who variables m n h runs (keys_of t.properties) r.keys fits.keys parts.keys)
              ∙ ap (λ (x : Filled). best x (ready.key_values n r)) (sym filled.table)

          alike : ChosenAlike b S.scope (meaning_tables.chosen S t (found S m t)) (ready.chosen fill r (found S m t))
          alike = chosen_alike S actions t fits seats r parts fill filled (found S m t) (best_within (filled_of (table_sig S.setting.syntax S.locals S.scope t) (fill_of S t)) (key_values S m t))

          by_entry : AppliedShows P b who (applied_by S A t (found S m t) m) (ready.applied_by fill parameters z.act r (found S m t) n)
          by_entry =
              let sig = table_sig S.setting.syntax S.locals S.scope t in
              subst (λ (number : ℕ). AppliedShows P b who (applied_by S A t (found S m t) m)
              (record { hit = is_some (found S m t); action = option_map ready.action_in (ready.chosen fill r (found S m t)); moment = ready.run_chosen parameters z.act (ready.hit_of r.direct (found S m t)) (ready.chosen fill r (found S m t)) (ready.noted number (found S m t) (ready.chosen fill r (found S m t)) n) })) (sym parts.number)
              (subst (λ (direct : Option ℕ). AppliedShows P b who (applied_by S A t (found S m t) m)
              (record { hit = is_some (found S m t); action = option_map ready.action_in (ready.chosen fill r (found S m t)); moment = ready.run_chosen parameters z.act (ready.hit_of direct (found S m t)) (ready.chosen fill r (found S m t)) (ready.noted (table_number b.syntax t) (found S m t) (ready.chosen fill r (found S m t)) n) })) (sym parts.direct)
              (chosen_ran who all (table_number S.setting.syntax t) sig.direct (found S m t) m n h runs (meaning_tables.chosen S t (found S m t)) (ready.chosen fill r (found S m t)) alike))
