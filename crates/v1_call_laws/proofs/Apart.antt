-- Where an argument of an action applies a table, all wait in a frame apart, from where they enter the frame together.
use Rattle.std.proofs.Common.{◌≡◌, ◌≢◌, ◌⊎◌, inl, inr, ℕ, suc, ◌+◌, ◌<◌, ◌≤◌, Bool, true, false, Option, Some, None, IfSome, List, [], ◌∷◌, length, map, refl, sym, ap, ◌∙◌, subst, arith}
use Rattle.std.specs.Prelude.{option_map}
use Rattle.p416_syntax.specs.declared.parts.Param.{Param}
use Rattle.p416_syntax.specs.Tree.{Exp16, name, call, expression}
use Rattle.p416_syntax.specs.Names.{Name}
use Rattle.p416_syntax.specs.Kinds.{Kind}
use Rattle.p416_syntax.specs.Scopes.{Layout as TypeLayout, Scope, Handed, an_action, sort_of, kind_of_type}
use Rattle.p416_syntax.specs.Calls.{Place, value, place_of}
use Rattle.p416_syntax.specs.Expressions.{kind_of}
use Rattle.p416_syntax.specs.Types.{takes, takes_kind}
use Rattle.p416_syntax.specs.Uses.{arguments_of}
use Rattle.p416_syntax.specs.Breaks.{BreaksNone, program_rules}
use Rattle.p416_syntax.specs.Declarations.{layouts_of}
use Rattle.v1_core.specs.Values.{Value, fitted, zero_value}
use Rattle.v1_core.specs.Frames as sem
use Rattle.v1_core.specs.Slots.{the_variable, variable_kinds, parameter_kind}
use Rattle.v1_core.specs.Surroundings as meaning
use Rattle.v1_core.specs.Surroundings.{action_named}
use Rattle.v1_core.specs.Numbered.{InScope}
use Rattle.v1_core.specs.Expressions as sem_expressions
use Rattle.v1_core.specs.Expressions.{value_of}
use Rattle.v1_core.specs.Calls as calls
use Rattle.v1_core.specs.Calls.{argument_at, arguments_from}
use Rattle.v1_core.specs.Cells.{Cells, slot_value}
use Rattle.v1_core.specs.Seats.{Content, Form, slot_form, header_form, stack_form, struct_form, no_form, form_of, Seat}
use Rattle.v1_core.specs.PackedValues.{seat_value}
use Rattle.v1_core.specs.Programs.{part_seat}
use Rattle.v1_core.specs.PackedFrames.{IsFrameOf}
use Rattle.v1_core.specs.Scopes.{AreAway, IsScope}
use Rattle.v1_core.specs.Ready.{Ended}
use Rattle.v1_ready_forms.specs.Named.{NamedSeat, seats_in}
use Rattle.v1_ready_laws.specs.Rules.{Keeps, NamesSeated}
use Rattle.v1_block_laws.specs.Keeping.{Each, ArgumentsKeep}
use Rattle.v1_block_laws.specs.Standing.{AreOfKinds}
use Rattle.v1_ready_blocks.specs.declared.places.Range.{Range}
use Rattle.v1_ready_blocks.specs.Moments as blocks
use Rattle.v1_ready_blocks.specs.Moments.{Moment, with_cells, with_waiting}
use Rattle.v1_ready_blocks.specs.Places.{put_value, taken, emptied, number_taken}
use Rattle.v1_ready_blocks.specs.Tests.{World, Test, test_value, with_test, Source, Sought, source_range, with_source}
use Rattle.v1_ready_blocks.specs.Arguments.{Incoming, value_in, parts_in, zero_in, Outgoing, all_in, waits, entered, all_entered}
use Rattle.v1_ready_blocks.specs.Arguments as incoming
use Rattle.v1_ready_blocks.specs.Statements.{call as ready_call}
use Rattle.v1_parser_laws.specs.Ranges.{all_of}
use Rattle.v1_parser_laws.specs.Shown.{Shows}
use Rattle.v1_place_laws.specs.Laws.{FitsSlot}
use Rattle.v1_place_laws.specs.Places.{range_of}
use Rattle.v1_deed_laws.specs.Forms.{IsParted}
use Rattle.v1_ready_statements.specs.Around.{Around, Found, table_found}
use Rattle.v1_ready_statements.specs.Tested.{ready_test, ready_source}
use Rattle.v1_ready_statements.specs.Given.{is_out, incoming_at, incoming_of, outgoing_of, all_incoming, all_outgoing}
use Rattle.v1_value_laws.specs.Kinds.{Fine, FormIs}
use Rattle.v1_statement_laws.specs.Behind.{Shown}
use Rattle.v1_statement_laws.specs.Laws.{HasParts}
use Rattle.v1_statement_laws.specs.Leaves.{RunsAlike, ActionDoes}
use Rattle.v1_statement_laws.proofs.Closing.{running_is}
use Rattle.v1_statement_laws.proofs.Fitting.{whole_fits}
use Rattle.v1_statement_laws.proofs.Sources.{Composite}
use Rattle.v1_statement_laws.proofs.Starting.{outside_away}
use Rattle.v1_call_laws.specs.Telling.{ToldNone, IsValueOf, ValueTold, Tells, TestsTell}
use Rattle.v1_call_laws.specs.Calling.{IsSame}
use Rattle.v1_call_laws.specs.Sourcing.{PartTold, SourcesTell, FormsAgree}
use Rattle.v1_call_laws.specs.Handing.{AreHanded, NamesDiffer}
use Rattle.v1_call_laws.proofs.Setting.{IsSet, value_at, cells_shown, set_away, slot_set, emptied_set, stands_as, seated as variable_seated}
use Rattle.v1_call_laws.proofs.Waiting.{parts_taken, same_taken, number_set}
use Rattle.v1_call_laws.proofs.Parameters.{Stands, Bound, Aims}
use Rattle.v1_call_laws.proofs.Incoming.{has_parts, ranged, single_fits, composite_fits, form_parted, formed_as, same_composite, Stepped, step}
use Rattle.v1_call_laws.proofs.Lists.{Consed, consed, Joined, joined, SeatAt, seat_at, way_back, stands}
use Rattle.v1_call_laws.proofs.Called.{called_so}

at_some : {A : Type 0} (B : A → Type 0) (o : Option A) (x : A) → o ≡ Some x → IfSome o B → B x
at_some {A = A} B o x is h = subst (λ (p : Option A). IfSome p B) is h

-- another frame waits
waiting_shows : (b : Around) (who : InScope) (m : sem.Moment) (k : Moment) (c : Cells) → Shows b.syntax who m k → Shows b.syntax who m (with_waiting c k)
waiting_shows b who m k c h = record {
  frame = h.frame;
  whole = h.whole;
  store = h.store;
  unparsed = h.unparsed;
  emitted = h.emitted;
  work = h.work;
  stopped = h.stopped;
  hit = h.hit;
}

-- whatever holds of the frame in which arguments wait goes on, where it stays
module _ (P : Cells → Type 0) (b : Around) (w : meaning.World) (z : World) (s : Scope) (who : InScope) where
  waiting_same : (m : sem.Moment) (k : Moment) → Shown P b.syntax who m k → Shown (IsSame k.waiting) b.syntax who m k
  waiting_same m k h = record { shows = h.shows; waits = refl }

  waiting_kept : (m j : sem.Moment) (k i : Moment) → Shown P b.syntax who m k → Shown (IsSame k.waiting) b.syntax who j i → Shown P b.syntax who j i
  waiting_kept m j k i h g = record { shows = g.shows; waits = subst P (sym g.waits) h.waits }

  pub tests_tell : ((c : Cells) → TestsTell (IsSame c) b w z s who) → TestsTell P b w z s who
  tests_tell tell p q e keeps told = by (ready_test s (seats_in b.syntax w.around.roots who) (table_found b) p e) (λ c. tell c p q e keeps told) where
    by : (o : Option Test) → ((c : Cells) → IfSome o (Tells (IsSame c) b w z s who p e (IsValueOf p (kind_of s e)))) → IfSome o (Tells P b w z s who p e (IsValueOf p (kind_of s e)))
    by None h = tt
    by (Some t) h = λ m k shown runs.
        let tells : ValueTold (IsSame k.waiting) b who (IsValueOf p (kind_of s e)) (value_of w s p e m) (test_value z.apply t k) = h k.waiting m k (waiting_same m k shown) runs in
        record { value = tells.value; runs = tells.runs; shown = waiting_kept m (value_of w s p e m).moment k (test_value z.apply t k).moment shown tells.shown; holds = tells.holds }

  pub sources_tell : ((c : Cells) → SourcesTell (IsSame c) b w z s who) → SourcesTell P b w z s who
  sources_tell tell p q e has keeps told = by (ready_source s (seats_in b.syntax w.around.roots who) (table_found b) e) (λ c. tell c p q e has keeps told) where
    by : (o : Option Source) → ((c : Cells) → IfSome o (λ source. (m : sem.Moment) (k : Moment) → Shown (IsSame c) b.syntax who m k → m.stopped ≡ None → PartTold (IsSame c) b who (kind_of s e) (value_of w s p e m) (source_range z.apply source k))) → IfSome o (λ source. (m : sem.Moment) (k : Moment) → Shown P b.syntax who m k → m.stopped ≡ None → PartTold P b who (kind_of s e) (value_of w s p e m) (source_range z.apply source k))
    by None h = tt
    by (Some t) h = λ m k shown runs.
        let tells : PartTold (IsSame k.waiting) b who (kind_of s e) (value_of w s p e m) (source_range z.apply t k) = h k.waiting m k (waiting_same m k shown) runs in
        record {
          range = tells.range;
          reaches = tells.reaches;
          runs = tells.runs;
          shown = waiting_kept m (value_of w s p e m).moment k (source_range z.apply t k).moment shown tells.shown;
          part = tells.part;
          seat = tells.seat;
          at = tells.at;
          form = tells.form;
          parted = tells.parted;
          ranged = tells.ranged;
          stands = tells.stands;
        }

module _ (P : Cells → Type 0) (b : Around) (w : meaning.World) (z : World) (s : Scope) (who : InScope) (accepted : BreaksNone b.syntax program_rules) (layouts : s.layouts ≡ layouts_of b.syntax.decls) (seated : NamesSeated s (seats_in b.syntax w.around.roots who)) (fine : Fine s) (scope : IsScope (length (variable_kinds b.syntax)) who)
    (framed : (c : Cells) → P c → IsFrameOf b.syntax c) (waiting_framed : (c : Cells) → IsFrameOf b.syntax c → P c) where
  abbrev seats : List NamedSeat
  seats = seats_in b.syntax w.around.roots who

  abbrev types : List TypeLayout
  types = layouts_of b.syntax.decls

  abbrev kind_in : Param → Kind
  kind_in p = parameter_kind w.around.scope p

  -- a value that waits
  record Waited (n : ℕ) (inc : Incoming) (v : Value) (m : sem.Moment) (k : Moment) : Type 0 where
    after : Moment
    is : waits z.apply inc k ≡ after
    shows : Shows b.syntax who m after
    runs : m.stopped ≡ None
    set : IsSet b.syntax k.waiting after.waiting n v

  module _ (tell : (c : Cells) → TestsTell (IsSame c) b w z s who) (sources : (c : Cells) → SourcesTell (IsSame c) b w z s who) (agree : FormsAgree b.syntax) (same_types : w.around.scope.layouts ≡ types) where
    slot_waits : (e : Exp16) (q : Place) (k0 : Kind) (of : Content) (n : ℕ) (t : Seat) (x : Test) (m : sem.Moment) (k : Moment) → Stands b n t k0 → ready_test s seats (table_found b) (value k0) e ≡ Some x → Keeps s q e → takes (value k0) e (kind_of s e) ≡ true → form_of k0 ≡ slot_form of → ToldNone s e → Unit {0} → Shown P b.syntax who m k → m.stopped ≡ None
        → Waited n (value_in t.start.slot x) (fitted (zero_value types k0) (value_of w s (value k0) e m).value) (value_of w s (value k0) e m).moment k
    slot_waits e q k0 of n t x m k at ready keeps fit form told any h runs =
        let y : sem_expressions.Valued = value_of w s (value k0) e m in
        let tells : ValueTold (IsSame k.waiting) b who (IsValueOf (value k0) (kind_of s e)) y (test_value z.apply x k) = at_some (Tells (IsSame k.waiting) b w z s who (value k0) e (IsValueOf (value k0) (kind_of s e))) (ready_test s seats (table_found b) (value k0) e) x ready (tell k.waiting (value k0) q e keeps told) m k (waiting_same P b w z s who m k h) runs in
        let mid : Moment = (test_value z.apply x k).moment in
        let whole : IsFrameOf b.syntax k.waiting = framed k.waiting h.waits in
        let here : t.form ≡ slot_form of = at.form ∙ form in
        let fits : FitsSlot of None y.value = whole_fits k0 of e (kind_of s e) y.value (sym form) fit tells.holds.class in
        let set : IsSet b.syntax k.waiting (put_value t.start.slot None y.value k.waiting) n (fitted (value_at b.syntax k.waiting n) y.value) = slot_set b.syntax accepted k.waiting whole n t at.at at.within of y.value here fits in
        record {
          after = with_waiting (put_value t.start.slot None y.value k.waiting) mid;
          is =
              ap (λ (end : Ended). with_test (record { value = end; moment = mid }) (incoming.value_waits t.start.slot)) tells.value
              ∙ ap (λ (c : Cells). with_waiting (put_value t.start.slot None y.value c) mid) tells.shown.waits;
          shows = waiting_shows b who y.moment mid (put_value t.start.slot None y.value k.waiting) tells.shown.shows;
          runs = tells.runs;
          set = subst (λ (v : Value). IsSet b.syntax k.waiting (put_value t.start.slot None y.value k.waiting) n v) (old_fits y.value here whole) set;
        } where
          old_fits : (v : Value) → t.form ≡ slot_form of → IsFrameOf b.syntax k.waiting → fitted (value_at b.syntax k.waiting n) v ≡ fitted (zero_value types k0) v
          old_fits v here whole =
              ap (λ (old : Value). fitted old v) (stands_as b.syntax accepted k.waiting whole n t at.at at.within ∙ ap (λ (f : Form). seat_value types k.waiting (record { depth = t.depth; form = f; start = t.start; owner = t.owner })) here)
              ∙ single_fits types k0 of (slot_value k.waiting t.start.slot) v form

    parts_wait : (e : Exp16) (p q : Place) (k0 : Kind) (n : ℕ) (t : Seat) (x : Source) (m : sem.Moment) (k : Moment) → Stands b n t k0 → ready_source s seats (table_found b) e ≡ Some x → Keeps s q e → takes_kind k0 (kind_of s e) ≡ true → Composite k0 → ToldNone s e → Unit {0} → Shown P b.syntax who m k → m.stopped ≡ None
        → Waited n (parts_in (range_of s.layouts t) x) (fitted (zero_value types k0) (value_of w s p e m).value) (value_of w s p e m).moment k
    parts_wait e p q k0 n t x m k at ready keeps fit composite told any h runs =
        let y : sem_expressions.Valued = value_of w s p e m in
        let tells : PartTold (IsSame k.waiting) b who (kind_of s e) y (source_range z.apply x k) = at_some (λ (u : Source). (j : sem.Moment) (i : Moment) → Shown (IsSame k.waiting) b.syntax who j i → j.stopped ≡ None → PartTold (IsSame k.waiting) b who (kind_of s e) (value_of w s p e j) (source_range z.apply u i)) (ready_source s seats (table_found b) e) x ready (sources k.waiting p q e (subst HasParts (sym (same_composite k0 (kind_of s e) composite fit)) (has_parts k0 composite)) keeps told) m k (waiting_same P b w z s who m k h) runs in
        let mid : Moment = (source_range z.apply x k).moment in
        let whole : IsFrameOf b.syntax k.waiting = framed k.waiting h.waits in
        let to : Range = range_of s.layouts t in
        let parted : IsParted t.form = subst IsParted (sym at.form) (form_parted k0 composite) in
        let same_form : tells.seat.form ≡ t.form = formed_as types k0 tells.seat.form composite (subst (λ (j : Kind). FormIs types j tells.seat.form) (same_composite k0 (kind_of s e) composite fit) tells.form) ∙ sym at.form in
        let there : part_seat b.syntax (all_of (the_variable n)) ≡ Some t = variable_seated b.syntax accepted k.waiting whole n t at.at at.within in
        let set : IsSet b.syntax k.waiting (taken tells.range to mid.cells k.waiting) n (seat_value types mid.cells tells.seat) = parts_taken b.syntax accepted mid.cells k.waiting tells.shown.shows.whole whole n t at.at at.within tells.part tells.seat to tells.range tells.at parted (agree (all_of (the_variable n)) tells.part t tells.seat there tells.at same_form parted) (ranged P b w z s who accepted layouts seated fine t) tells.ranged in
        record {
          after = with_waiting (taken tells.range to mid.cells k.waiting) mid;
          is =
              ap (λ (r : Sought). with_source (record { range = r; moment = mid }) (λ r n. incoming.parts_wait r to n)) tells.reaches
              ∙ ap (λ (c : Cells). with_waiting (taken tells.range to mid.cells c) mid) tells.shown.waits;
          shows = waiting_shows b who y.moment mid (taken tells.range to mid.cells k.waiting) tells.shown.shows;
          runs = tells.runs;
          set = subst (λ (v : Value). IsSet b.syntax k.waiting (taken tells.range to mid.cells k.waiting) n v) (sym tells.stands ∙ sym (composite_fits types k0 y.value composite)) set;
        }

    zero_waits : (n : ℕ) (t : Seat) (k0 : Kind) (m : sem.Moment) (k : Moment) → Stands b n t k0 → Shown P b.syntax who m k → m.stopped ≡ None → Waited n (zero_in (range_of s.layouts t)) (zero_value types k0) m k
    zero_waits n t k0 m k at h runs = record {
      after = with_waiting (emptied (range_of s.layouts t) k.waiting) k;
      is = refl;
      shows = waiting_shows b who m k (emptied (range_of s.layouts t) k.waiting) h.shows;
      runs = runs;
      set = subst (λ (v : Value). IsSet b.syntax k.waiting (emptied (range_of s.layouts t) k.waiting) n v) at.zero_is (emptied_set b.syntax accepted k.waiting (framed k.waiting h.waits) n t at.at at.within (range_of s.layouts t) (ranged P b w z s who accepted layouts seated fine t));
    }

    -- all of them wait
    record AllWaited (n : ℕ) (ps : List Param) (es : List Exp16) (x : calls.Arguments) (incs : List Incoming) (k : Moment) : Type 0 where
      after : Moment
      is : all_in (waits z.apply) incs k ≡ after
      shown : Shown P b.syntax who x.moment after
      runs : x.moment.stopped ≡ None
      bound : Bound b w n ps x.given after.waiting
      kept : (j : ℕ) → (j < n) ⊎ (n + length ps ≤ j) → value_at b.syntax after.waiting j ≡ value_at b.syntax k.waiting j
      aims : Aims b w s who n ps es x.given

    all_wait : (n : ℕ) (ps : List Param) (es : List Exp16) (hs : List Handed) (incs : List Incoming) (outs : List Outgoing) → AreHanded s w.around.scope hs ps → all_incoming b s seats n ps es ≡ Some incs → all_outgoing b s seats n ps es ≡ Some outs → AreOfKinds (variable_kinds b.syntax) n (map (parameter_kind w.around.scope) ps) → ArgumentsKeep s (map place_of hs) es → Each (ToldNone s) es
        → (m : sem.Moment) (k : Moment) → Shown P b.syntax who m k → m.stopped ≡ None → AllWaited n ps es (arguments_from w s (map place_of hs) es m) incs k
    all_wait n [] [] [] incs outs handed is backs are keeps told m k h runs = let same : [] ≡ incs = cc is in subst (λ (l : List Incoming). AllWaited n [] [] (record { given = []; moment = m }) l k) same (record { after = k; is = refl; shown = h; runs = runs; bound = tt; kept = λ j out. refl; aims = tt })
    all_wait n [] [] (hd ∷ hs) incs outs handed is backs are keeps told m k h runs = absurd handed
    all_wait n [] (e ∷ es) hs incs outs handed is backs are keeps told m k h runs = absurd (cc is)
    all_wait n (p ∷ ps) [] hs incs outs handed is backs are keeps told m k h runs = absurd (cc is)
    all_wait n (p ∷ ps) (e ∷ es) [] incs outs handed is backs are keeps told m k h runs = absurd handed
    all_wait n (p ∷ ps) (e ∷ es) (hd ∷ hs) incs outs handed is backs are keeps told m k h runs =
        let rest : AllWaited (suc n) ps es (arguments_from w s (map place_of hs) es (argument_at w s (place_of hd) e m).1) two.tail one.entered.after = all_wait (suc n) ps es hs two.tail two_back.back handed.1 two.rest two_back.rest are.1 keeps.1 told.1 (argument_at w s (place_of hd) e m).1 one.entered.after next one.entered.runs in
        subst (λ (l : List Incoming). AllWaited n (p ∷ ps) (e ∷ es) (arguments_from w s (map place_of (hd ∷ hs)) (e ∷ es) m) l k) (sym two.is)
        (record {
          after = rest.after;
          is =
              ap (all_in (waits z.apply) two.tail) (running_is k.stopped k (waits z.apply two.head k) (sym h.shows.stopped ∙ runs) ∙ one.entered.is)
              ∙ rest.is;
          shown = rest.shown;
          runs = rest.runs;
          bound = (rest.kept n (inl (below n)) ∙ one.entered.set.value, rest.bound);
          kept = λ j out. rest.kept j (narrower n (length ps) j out) ∙ one.entered.set.others j (differs n (length ps) j out);
          aims = (λ back. (one.target back, one.kind back), rest.aims);
        }) where
          two : Consed (incoming_of b s seats n p e) (all_incoming b s seats (suc n) ps es) incs
          two = consed (incoming_of b s seats n p e) (all_incoming b s seats (suc n) ps es) incs is

          two_back : Joined (outgoing_of b s seats n p e) (all_outgoing b s seats (suc n) ps es) outs
          two_back = joined (outgoing_of b s seats n p e) (all_outgoing b s seats (suc n) ps es) outs backs

          there : SeatAt P b w z s who accepted layouts seated fine scope n p e two.head two_back.front
          there = seat_at P b w z s who accepted layouts seated fine scope n p e two.head two_back.front two.first two_back.first

          at_parameter : Stands b n there.seat (kind_in p)
          at_parameter = stands P b w z s who accepted layouts seated fine scope n (kind_in p) there.seat there.at are.0

          one : Stepped P b w z s who accepted layouts seated fine Waited n p e (argument_at w s (place_of hd) e m) two.head k
          one = step P b w z s who accepted layouts seated fine Waited (λ f. Unit {0}) slot_waits parts_wait zero_waits same_types n p e hd there.seat two.head two_back.front m k at_parameter handed.0 keeps.0 told.0 tt there.enters (way_back P b w z s who accepted layouts seated fine scope p e there.seat two_back.front there.returns) h runs

          next : Shown P b.syntax who (argument_at w s (place_of hd) e m).1 one.entered.after
          next = record { shows = one.entered.shows; waits = waiting_framed one.entered.after.waiting one.entered.set.whole }

          below : (i : ℕ) → i < suc i
          below i = omega arith

          narrower : (i many j : ℕ) → (j < i) ⊎ (i + suc many ≤ j) → (j < suc i) ⊎ (suc i + many ≤ j)
          narrower i many j (inl lt) = inl (omega (arith, lt))
          narrower i many j (inr le) = inr (omega (arith, le))

          differs : (i many j : ℕ) → (j < i) ⊎ (i + suc many ≤ j) → j ≢ i
          differs i many j (inl lt) same = omega (arith, lt, same)
          differs i many j (inr le) same = omega (arith, le, same)

    -- then they enter

    record Moved (n : ℕ) (inc : Incoming) (k : Moment) : Type 0 where
      cells : Cells
      is : entered inc k ≡ with_cells cells k
      set : IsSet b.syntax k.cells cells n (value_at b.syntax k.waiting n)

    moved : (ks : Kind) (o : Bool) (n : ℕ) (t : Seat) (k0 : Kind) (e : Exp16) (inc : Incoming) (k : Moment) → Stands b n t k0 → incoming_at b s seats ks o t e ≡ Some inc → IsFrameOf b.syntax k.cells → IsFrameOf b.syntax k.waiting → Moved n inc k
    moved ks true n t k0 e inc k at got whole waiting_whole =
        let same : zero_in (range_of s.layouts t) ≡ inc = cc got in
        subst (λ (i : Incoming). Moved n i k) same (record {
          cells = taken (range_of s.layouts t) (range_of s.layouts t) k.waiting k.cells;
          is = refl;
          set = same_taken b.syntax accepted k.waiting k.cells waiting_whole whole n t at.at at.within (range_of s.layouts t) (ranged P b w z s who accepted layouts seated fine t);
        })
    moved ks false n t k0 e inc k at got whole waiting_whole = by t.form refl got where
      with_form : Form → Seat
      with_form f = record { depth = t.depth; form = f; start = t.start; owner = t.owner }

      single : (of : Content) → t.form ≡ slot_form of → (q : Option Test) → option_map (value_in t.start.slot) q ≡ Some inc → Moved n inc k
      single of form None is = absurd (cc is)
      single of form (Some x) is =
          let same : value_in t.start.slot x ≡ inc = cc is in
          subst (λ (i : Incoming). Moved n i k) same (record {
            cells = number_taken t.start.slot t.start.slot k.waiting k.cells;
            is = refl;
            set = number_set b.syntax accepted k.waiting k.cells waiting_whole whole n t at.at at.within of form;
          })

      parted : (u : Seat) → u ≡ t → (q : Option Source) → option_map (parts_in (range_of s.layouts u)) q ≡ Some inc → Moved n inc k
      parted u is None g = absurd (cc g)
      parted u is (Some x) g =
          let same : parts_in (range_of s.layouts u) x ≡ inc = cc g in
          let here : parts_in (range_of s.layouts t) x ≡ inc = ap (λ (v : Seat). parts_in (range_of s.layouts v) x) (sym is) ∙ same in
          subst (λ (i : Incoming). Moved n i k) here (record {
            cells = taken (range_of s.layouts t) (range_of s.layouts t) k.waiting k.cells;
            is = refl;
            set = same_taken b.syntax accepted k.waiting k.cells waiting_whole whole n t at.at at.within (range_of s.layouts t) (ranged P b w z s who accepted layouts seated fine t);
          })

      by : (f : Form) → t.form ≡ f → incoming_at b s seats ks false (with_form f) e ≡ Some inc → Moved n inc k
      by (slot_form of) form g = single of form (ready_test s seats (table_found b) (value ks) e) g
      by (header_form type) form g = parted (with_form (header_form type)) (ap with_form (sym form)) (ready_source s seats (table_found b) e) g
      by (stack_form type size) form g = parted (with_form (stack_form type size)) (ap with_form (sym form)) (ready_source s seats (table_found b) e) g
      by (struct_form type) form g = parted (with_form (struct_form type)) (ap with_form (sym form)) (ready_source s seats (table_found b) e) g
      by no_form form g = absurd (cc g)

    record AllMoved (n : ℕ) (ps : List Param) (gs : List calls.Given) (incs : List Incoming) (m : sem.Moment) (k : Moment) : Type 0 where
      cells : Cells
      is : all_entered incs k ≡ with_cells cells k
      shown : Shown P b.syntax who m (with_cells cells k)
      bound : Bound b w n ps gs cells
      kept : (j : ℕ) → (j < n) ⊎ (n + length ps ≤ j) → value_at b.syntax cells j ≡ value_at b.syntax k.cells j

    abbrev Away : ℕ → ℕ → Type 0
    Away from to = (j : ℕ) → from ≤ j → j < to → AreAway j who.variables × AreAway j who.inner

    all_move : (n : ℕ) (ps : List Param) (es : List Exp16) (gs : List calls.Given) (incs : List Incoming) (outs : List Outgoing) → all_incoming b s seats n ps es ≡ Some incs → all_outgoing b s seats n ps es ≡ Some outs → AreOfKinds (variable_kinds b.syntax) n (map (parameter_kind w.around.scope) ps) → Away n (n + length ps)
        → (m : sem.Moment) (k : Moment) → Shown P b.syntax who m k → Bound b w n ps gs k.waiting → AllMoved n ps gs incs m k
    all_move n [] [] [] incs outs is backs are away m k h bound = let same : [] ≡ incs = cc is in subst (λ (l : List Incoming). AllMoved n [] [] l m k) same (record { cells = k.cells; is = refl; shown = h; bound = tt; kept = λ j out. refl })
    all_move n [] [] (g ∷ gs) incs outs is backs are away m k h bound = absurd bound
    all_move n [] (e ∷ es) gs incs outs is backs are away m k h bound = absurd (cc is)
    all_move n (p ∷ ps) [] gs incs outs is backs are away m k h bound = absurd (cc is)
    all_move n (p ∷ ps) (e ∷ es) [] incs outs is backs are away m k h bound = absurd bound
    all_move n (p ∷ ps) (e ∷ es) (g ∷ gs) incs outs is backs are away m k h bound =
        let rest : AllMoved (suc n) ps gs two.tail m (with_cells one.cells k) = all_move (suc n) ps es gs two.tail two_back.back two.rest two_back.rest are.1 (λ j le lt. away j (omega (arith, le)) (omega (arith, lt))) m (with_cells one.cells k) next bound.1 in
        subst (λ (l : List Incoming). AllMoved n (p ∷ ps) (g ∷ gs) l m k) (sym two.is)
        (record {
          cells = rest.cells;
          is = ap (all_entered two.tail) one.is ∙ rest.is;
          shown = rest.shown;
          bound = (rest.kept n (inl (below n)) ∙ (one.set.value ∙ bound.0), rest.bound);
          kept = λ j out. rest.kept j (narrower n (length ps) j out) ∙ one.set.others j (differs n (length ps) j out);
        }) where
          two : Consed (incoming_of b s seats n p e) (all_incoming b s seats (suc n) ps es) incs
          two = consed (incoming_of b s seats n p e) (all_incoming b s seats (suc n) ps es) incs is

          two_back : Joined (outgoing_of b s seats n p e) (all_outgoing b s seats (suc n) ps es) outs
          two_back = joined (outgoing_of b s seats n p e) (all_outgoing b s seats (suc n) ps es) outs backs

          there : SeatAt P b w z s who accepted layouts seated fine scope n p e two.head two_back.front
          there = seat_at P b w z s who accepted layouts seated fine scope n p e two.head two_back.front two.first two_back.first

          at_parameter : Stands b n there.seat (kind_in p)
          at_parameter = stands P b w z s who accepted layouts seated fine scope n (kind_in p) there.seat there.at are.0

          one : Moved n two.head k
          one = moved (kind_of_type s.names p.of) (is_out p.direction) n there.seat (kind_in p) e two.head k at_parameter there.enters h.shows.whole (framed k.waiting h.waits)

          here_away : AreAway n who.variables × AreAway n who.inner
          here_away = away n (omega arith) (omega arith)

          next : Shown P b.syntax who m (with_cells one.cells k)
          next = cells_shown P b.syntax who m k one.cells (set_away b.syntax who k.cells one.cells n (value_at b.syntax k.waiting n) one.set here_away.0 here_away.1) one.set.whole h

          below : (i : ℕ) → i < suc i
          below i = omega arith

          narrower : (i many j : ℕ) → (j < i) ⊎ (i + suc many ≤ j) → (j < suc i) ⊎ (suc i + many ≤ j)
          narrower i many j (inl lt) = inl (omega (arith, lt))
          narrower i many j (inr le) = inr (omega (arith, le))

          differs : (i many j : ℕ) → (j < i) ⊎ (i + suc many ≤ j) → j ≢ i
          differs i many j (inl lt) same = omega (arith, lt, same)
          differs i many j (inr le) same = omega (arith, le, same)

    -- so the call
    pub called_apart : (text plane : Name) (handed : Exp16) (hs : List Handed) (f : Found) (incs : List Incoming) (outs : List Outgoing) → ActionDoes P b w z who f → NamesDiffer f.place.of.parameters → sort_of s text ≡ an_action plane hs → action_named w.around text ≡ Some f.place.of → AreHanded s w.around.scope hs f.place.of.parameters → ArgumentsKeep s (map place_of hs) (arguments_of handed) → Each (ToldNone s) (arguments_of handed)
        → all_incoming b s seats f.place.first f.place.of.parameters (arguments_of handed) ≡ Some incs → all_outgoing b s seats f.place.first f.place.of.parameters (arguments_of handed) ≡ Some outs → RunsAlike P b w z s who [] (expression (call (name text) handed)) (ready_call f.number true incs outs)
    called_apart text plane handed hs f incs outs does differ sort is are keeps told enters backs =
        called_so P b w z s who accepted layouts seated fine scope agree same_types text plane handed hs f incs outs true does differ sort is backs (λ m k h runs.
        let n : ℕ = f.place.first in
        let many : ℕ = length f.place.of.parameters in
        let x : calls.Arguments = arguments_from w s (map place_of hs) (arguments_of handed) m in
        let all : AllWaited n f.place.of.parameters (arguments_of handed) x incs k =
        all_wait n f.place.of.parameters (arguments_of handed) hs incs outs are enters backs does.kinds keeps told m k h runs in
        let move : AllMoved n f.place.of.parameters x.given incs x.moment all.after =
        all_move n f.place.of.parameters (arguments_of handed) x.given incs outs enters backs does.kinds (λ j le lt. (outside_away n (n + many) j who.variables le lt does.outside, outside_away n (n + many) j who.inner le lt does.apart)) x.moment all.after all.shown all.bound in (
          with_cells move.cells all.after,
          (
            ap (λ (j : Moment). blocks.going_on (all_entered incs) j) all.is ∙ (running_is all.after.stopped all.after (all_entered incs all.after) (sym all.shown.shows.stopped ∙ all.runs) ∙ move.is),
            move.shown,
            all.runs,
            move.bound,
            all.aims,
          ),
        ))
