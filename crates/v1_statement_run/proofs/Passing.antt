-- Arguments, one after another.
use Rattle.std.proofs.Common.{◌≡◌, ℕ, ◌<◌, ◌≤◌, ◌++◌, List, [], ◌∷◌, length, map, slice_index, Bool, true, false, cond, is_some, Option, Some, None, Ok, Err, refl, sym, ap, subst, ◌∙◌, arith}
use Rattle.std.proofs.lemmas.List.{append-nil, map-append}
use Rattle.state_store.specs.State.{Contents}
use Rattle.p4x_bits.specs.BitLists.{bits}
use Rattle.v1_core.specs.declared.parser_error.ParserError.{ParserError}
use Rattle.v1_core.specs.Values.{Value, number_in, width_in}
use Rattle.v1_core.specs.Layouts.{Layout}
use Rattle.v1_core.specs.Cells.{Cells, slot_value}
use Rattle.v1_core.specs.declared.node.Content.TheVariants as content
use Rattle.v1_core.specs.Ready as ready
use Rattle.v1_core.specs.declared.scalar.Scalar.{Scalar}
use Rattle.v1_core.specs.Scalars.{seen_scalar}
use Rattle.v1_ready_blocks.specs.Moments.{Moment, is_stopped, raised}
use Rattle.v1_ready_blocks.specs.Tests.{Applied, Test, plain, Valued, test_value}
use Rattle.v1_ready_blocks.specs.Externs.{Given}
use Rattle.v1_ready_blocks.specs.Arguments.{Argument, a_value, an_item, Gathered, with_argument, with_given, gathered, test_of, arguments}
use Rattle.v1_ready_blocks.specs.declared.nodes.ArgumentNode.TheVariants as argument_node
use Rattle.v1_ready_blocks.specs.Nodes.{Tree, Ground, IsArgument, test_at, arguments_at}
use Rattle.v1_statement_run.specs.declared.run.Run.{Run}
use Rattle.v1_core.specs.Frames.{Hit}
use Rattle.v1_statement_run.specs.Seen.{given_of, moment, seen_hit, with_list}
use Rattle.v1_statement_run.specs.Steps.{IsOver, Gives, Gathers, Goes, first_error, stopped_by, with_values}

-- an error stops the moment

stopped_is : (f : Cells) (w : Cells) (s : Contents) (u : List ℕ) (emitted : List Bool) (work : ℕ) (stopped : Option ParserError) (hit : Option Hit) (e : ParserError) →
    let m : Option ParserError → Moment = λ x. record { cells = f; waiting = w; store = s; unparsed = u; emitted = emitted; work = work; stopped = x; hit = hit } in
    m (Some (first_error stopped e)) ≡ raised e (m stopped)
stopped_is f w s u emitted work None hit e = refl
stopped_is f w s u emitted work (Some earlier) hit e = refl

pub stop_raises : (f : Cells) (s : Contents) (u : List ℕ) (r : Run) (e : ParserError) → moment f s u (stopped_by e r) ≡ raised e (moment f s u r)
stop_raises f s u r e = stopped_is f r.waiting s u r.emitted r.work r.stopped (seen_hit r.hit) e

-- one argument

values_given : (r : Run) (v : Scalar) (t : Test) → given_of (with_values (r.values ++ v ∷ []) r) ≡ with_given (a_value t) (seen_scalar v) (given_of r)
values_given r v t = ap (λ (vs : List Value). record { values = vs; list = r.list }) (map-append seen_scalar r.values (v ∷ []))

module _ (g : Ground) (f : Cells) (s : Contents) (u : List ℕ) (r next after : Run) (t : Test) where
  over_next : after ≡ next → IsOver g (moment f s u next) → IsOver g (moment f s u after)
  over_next e over = subst (λ (n : Run). IsOver g (moment f s u n)) (sym e) over

  pub value_given : (due : Valued) (v : Scalar) → Gives g due (moment f s u next) (Ok v) → given_of next ≡ given_of r → after ≡ with_values (next.values ++ v ∷ []) next → Gathers g (with_argument (a_value t) (given_of r) due) (given_of after) (moment f s u after)
  value_given due v gives kept is = record {
    over = subst (λ (n : Run). IsOver g (moment f s u n)) (sym is) (record { cells = gives.over.cells; waiting = gives.over.waiting; shapes = gives.over.shapes });
    gathers =
        ap (with_argument (a_value t) (given_of r)) gives.gives
        ∙ ap (λ (x : Given). let y : Gathered = record { given = with_given (a_value t) (seen_scalar v) x; moment = moment f s u next } in y) (sym kept)
        ∙ ap (λ (x : Given). let y : Gathered = record { given = x; moment = moment f s u next } in y) (sym (values_given next v t))
        ∙ ap (λ (n : Run). let y : Gathered = record { given = given_of n; moment = moment f s u n } in y) (sym is);
  }

  pub item_given : (due : Valued) (v : Scalar) → Gives g due (moment f s u next) (Ok v) → given_of next ≡ given_of r → after ≡ with_list (next.list ++ bits (width_in (seen_scalar v)) (number_in (seen_scalar v))) next → Gathers g (with_argument (an_item t) (given_of r) due) (given_of after) (moment f s u after)
  item_given due v gives kept is = record {
    over = subst (λ (n : Run). IsOver g (moment f s u n)) (sym is) (record { cells = gives.over.cells; waiting = gives.over.waiting; shapes = gives.over.shapes });
    gathers =
        ap (with_argument (an_item t) (given_of r)) gives.gives
        ∙ ap (λ (x : Given). let y : Gathered = record { given = with_given (an_item t) (seen_scalar v) x; moment = moment f s u next } in y) (sym kept)
        ∙ ap (λ (n : Run). let y : Gathered = record { given = given_of n; moment = moment f s u n } in y) (sym is);
  }

  failed_given : (a : Argument) (due : Valued) (e : ParserError) → Gives g due (moment f s u next) (Err e) → given_of next ≡ given_of r → after ≡ stopped_by e next → Gathers g (with_argument a (given_of r) due) (given_of after) (moment f s u after)
  failed_given a due e gives kept is = record {
    over = subst (λ (n : Run). IsOver g (moment f s u n)) (sym is) (record { cells = gives.over.cells; waiting = gives.over.waiting; shapes = gives.over.shapes });
    gathers =
        ap (with_argument a (given_of r)) gives.gives
        ∙ ap (λ (x : Given). let y : Gathered = record { given = x; moment = raised e (moment f s u next) } in y) (sym kept)
        ∙ ap (λ (m : Moment). let y : Gathered = record { given = given_of next; moment = m } in y) (sym (stop_raises f s u next e))
        ∙ ap (λ (n : Run). let y : Gathered = record { given = given_of n; moment = moment f s u n } in y) (sym is);
  }

  pub value_failed : (due : Valued) (e : ParserError) → Gives g due (moment f s u next) (Err e) → given_of next ≡ given_of r → after ≡ stopped_by e next → Gathers g (with_argument (a_value t) (given_of r) due) (given_of after) (moment f s u after)
  value_failed due e gives kept is = failed_given (a_value t) due e gives kept is

  pub item_failed : (due : Valued) (e : ParserError) → Gives g due (moment f s u next) (Err e) → given_of next ≡ given_of r → after ≡ stopped_by e next → Gathers g (with_argument (an_item t) (given_of r) due) (given_of after) (moment f s u after)
  item_failed due e gives kept is = failed_given (an_item t) due e gives kept is

-- items that are slots with bits

pub item_of_slot : (ts : List Tree) (place rest slot : ℕ) (t : Test) → arguments_at ts place ≡ an_item t ∷ arguments_at ts rest → t ≡ plain (ready.slot content.Bits slot) → arguments_at ts place ≡ an_item (plain (ready.slot content.Bits slot)) ∷ arguments_at ts rest
item_of_slot ts place rest slot t tree is = tree ∙ ap (λ (x : Test). an_item x ∷ arguments_at ts rest) is

pub behind_item : (a rest place : ℕ) → IsArgument place (argument_node.Item a rest) → rest < place
behind_item a rest place fits = fits.1

pub slot_over : (g : Ground) (f : Cells) (s : Contents) (u : List ℕ) (r : Run) (slot : ℕ) → IsOver g (moment f s u r) → slot < length g.layout.widths → slot < length f.layout.widths
slot_over g f s u r slot over there = subst (λ (l : Layout). slot < length l.widths) (sym over.cells) there

-- what is given where these bits stand behind the list
abbrev pub given_with : Run → List Bool → Given
given_with r list = record { values = map seen_scalar r.values; list = list }

pub record Slotting (runs : ℕ → Moment → Applied) (ts : List Tree) (place at : ℕ) (m : Moment) (old now : Run) (list : List Bool) : Type 0 where
  pub order : at ≤ place
  pub run : now ≡ with_list now.list old
  pub same : gathered runs (arguments_at ts place) (record { given = given_of old; moment = m }) ≡ gathered runs (arguments_at ts at) (record { given = given_with old list; moment = m })

module _ (runs : ℕ → Moment → Applied) (ts : List Tree) (place : ℕ) (f : Cells) (s : Contents) (u : List ℕ) (old : Run) where
  pub slots_begin : (buffer : List Bool) → buffer ≡ [] → Slotting runs ts place place (moment f s u old) old old (old.list ++ buffer)
  slots_begin buffer none = record {
    order = omega arith;
    run = refl;
    same = ap (λ (l : List Bool). gathered runs (arguments_at ts place) (record { given = given_with old l; moment = moment f s u old })) (sym (ap (λ (l : List Bool). old.list ++ l) none ∙ append-nil old.list));
  }

  one_slot : (slot behind width number : ℕ) (l : List Argument) (list : List Bool) → is_some old.stopped ≡ false → width ≡ slice_index f.layout.widths slot → number ≡ slot_value f slot →
      gathered runs (an_item (plain (ready.slot content.Bits slot)) ∷ l) (record { given = given_with old list; moment = moment f s u old })
      ≡ gathered runs l (record { given = given_with old (list ++ bits width number); moment = moment f s u old })
  one_slot slot behind width number l list running wide is =
      ap (λ (b : Bool). gathered runs l (cond b (record { given = given_with old list; moment = moment f s u old }) (record { given = given_with old (list ++ bits (slice_index f.layout.widths slot) (slot_value f slot)); moment = moment f s u old }))) running
      ∙ ap (λ (w : ℕ). gathered runs l (record { given = given_with old (list ++ bits w (slot_value f slot)); moment = moment f s u old })) (sym wide)
      ∙ ap (λ (n : ℕ). gathered runs l (record { given = given_with old (list ++ bits width n); moment = moment f s u old })) (sym is)

  pub slots_go : (slot at behind width number : ℕ) (now next : Run) (buffer more : List Bool) → is_some old.stopped ≡ false → arguments_at ts at ≡ an_item (plain (ready.slot content.Bits slot)) ∷ arguments_at ts behind → behind < at → width ≡ slice_index f.layout.widths slot → number ≡ slot_value f slot → next ≡ with_list next.list now → next.list ++ more ≡ (now.list ++ buffer) ++ bits width number → Slotting runs ts place at (moment f s u old) old now (now.list ++ buffer) → Slotting runs ts place behind (moment f s u old) old next (next.list ++ more)
  slots_go slot at behind width number now next buffer more running tree before wide is kept gives so = record {
    order = omega (arith, before, so.order);
    run = kept ∙ ap (λ (n : Run). with_list next.list n) so.run;
    same =
        so.same
        ∙ ap (λ (l : List Argument). gathered runs l (record { given = given_with old (now.list ++ buffer); moment = moment f s u old })) tree
        ∙ one_slot slot behind width number (arguments_at ts behind) (now.list ++ buffer) running wide is
        ∙ ap (λ (l : List Bool). gathered runs (arguments_at ts behind) (record { given = given_with old l; moment = moment f s u old })) (sym gives);
  }

  pub slots_end : (at : ℕ) (now last : Run) (list : List Bool) → last ≡ with_list list now → Slotting runs ts place at (moment f s u old) old now list → Goes runs ts place (moment f s u old) old last at
  slots_end at now last list is so =
      let kept : last ≡ with_list list old = is ∙ ap (λ (n : Run). with_list list n) so.run in
      record {
        order = so.order;
        run = kept ∙ ap (λ (n : Run). with_list n.list old) (sym kept);
        same = so.same ∙ ap (λ (n : Run). gathered runs (arguments_at ts at) (record { given = given_of n; moment = moment f s u old })) (sym kept);
      }

-- the loop over arguments

pub record Gathering (g : Ground) (runs : ℕ → Moment → Applied) (ts : List Tree) (count at : ℕ) (due : Gathered) (given : Given) (now : Moment) : Type 0 where
  pub there : at < count
  pub over : IsOver g now
  pub same : gathered runs (arguments_at ts at) (record { given = given; moment = now }) ≡ due

module _ (g : Ground) (runs : ℕ → Moment → Applied) (ts : List Tree) (count : ℕ) where
  pub gather_begins : (place : ℕ) (f : Cells) (s : Contents) (u : List ℕ) (r cleared empty : Run) → place < count → cleared ≡ with_values [] r → empty ≡ with_list [] cleared → IsOver g (moment f s u r) → Gathering g runs ts count place (arguments runs (arguments_at ts place) (moment f s u r)) (given_of empty) (moment f s u empty)
  gather_begins place f s u r cleared empty there a b over =
      let is : empty ≡ with_list [] (with_values [] r) = b ∙ ap (with_list []) a in
      record {
        there = there;
        over = subst (λ (n : Run). IsOver g (moment f s u n)) (sym is) (record { cells = over.cells; waiting = over.waiting; shapes = over.shapes });
        same = ap (λ (n : Run). gathered runs (arguments_at ts place) (record { given = given_of n; moment = moment f s u n })) is;
      }

  -- behind items that are slots
  pub gather_goes : (at behind : ℕ) (due : Gathered) (f : Cells) (s : Contents) (u : List ℕ) (r next : Run) → Goes runs ts at (moment f s u r) r next behind → Gathering g runs ts count at due (given_of r) (moment f s u r) → Gathering g runs ts count behind due (given_of next) (moment f s u next)
  gather_goes at behind due f s u r next slots so = record {
    there = omega (arith, slots.order, so.there);
    over = subst (λ (n : Run). IsOver g (moment f s u n)) (sym slots.run) (record { cells = so.over.cells; waiting = so.over.waiting; shapes = so.over.shapes });
    same =
        ap (λ (n : Run). gathered runs (arguments_at ts behind) (record { given = given_of next; moment = moment f s u n })) slots.run
        ∙ sym slots.same ∙ so.same;
  }

  goes : (a : Argument) (rest at : ℕ) (due : Gathered) (given after : Given) (now next : Moment) → rest < at → is_stopped now ≡ false → arguments_at ts at ≡ a ∷ arguments_at ts rest → Gathers g (with_argument a given (test_value runs (test_of a) now)) after next → Gathering g runs ts count at due given now → Gathering g runs ts count rest due after next
  goes a rest at due given after now next before running tree one so = record {
    there = omega (arith, before, so.there);
    over = one.over;
    same =
        ap (gathered runs (arguments_at ts rest)) (sym one.gathers)
        ∙ ap (λ (b : Bool). gathered runs (arguments_at ts rest) (cond b (record { given = given; moment = now }) (with_argument a given (test_value runs (test_of a) now)))) (sym running)
        ∙ ap (λ (l : List Argument). gathered runs l (record { given = given; moment = now })) (sym tree)
        ∙ so.same;
  }

  pub gather_value_goes : (a rest at : ℕ) (due : Gathered) (given after : Given) (now next : Moment) (b : Bool) → b ≡ is_stopped now → b ≡ false → IsArgument at (argument_node.Value a rest) → arguments_at ts at ≡ a_value (test_at ts a) ∷ arguments_at ts rest → Gathers g (with_argument (a_value (test_at ts a)) given (test_value runs (test_at ts a) now)) after next → Gathering g runs ts count at due given now → Gathering g runs ts count rest due after next
  gather_value_goes a rest at due given after now next b is running fits tree one so = goes (a_value (test_at ts a)) rest at due given after now next fits.1 (sym is ∙ running) tree one so

  pub gather_item_goes : (a rest at : ℕ) (due : Gathered) (given after : Given) (now next : Moment) (b : Bool) → b ≡ is_stopped now → b ≡ false → IsArgument at (argument_node.Item a rest) → arguments_at ts at ≡ an_item (test_at ts a) ∷ arguments_at ts rest → Gathers g (with_argument (an_item (test_at ts a)) given (test_value runs (test_at ts a) now)) after next → Gathering g runs ts count at due given now → Gathering g runs ts count rest due after next
  gather_item_goes a rest at due given after now next b is running fits tree one so = goes (an_item (test_at ts a)) rest at due given after now next fits.1 (sym is ∙ running) tree one so

  pub gather_none : (at : ℕ) (due : Gathered) (given : Given) (now : Moment) → arguments_at ts at ≡ [] → Gathering g runs ts count at due given now → Gathers g due given now
  gather_none at due given now tree so = record {
    over = so.over;
    gathers = sym so.same ∙ ap (λ (l : List Argument). gathered runs l (record { given = given; moment = now })) tree;
  }

  -- the same behind items that are slots

  pub goes_there : (at behind : ℕ) (due : Gathered) (given : Given) (m now : Moment) (r next : Run) → Goes runs ts at m r next behind → Gathering g runs ts count at due given now → behind < count
  goes_there at behind due given m now r next slots so = omega (arith, slots.order, so.there)

  pub goes_over : (at behind : ℕ) (m : Moment) (f : Cells) (s : Contents) (u : List ℕ) (r next : Run) → Goes runs ts at m r next behind → IsOver g (moment f s u r) → IsOver g (moment f s u next)
  goes_over at behind m f s u r next slots over =
      subst (λ (n : Run). IsOver g (moment f s u n)) (sym slots.run) (record { cells = over.cells; waiting = over.waiting; shapes = over.shapes })

  pub value_there : (a rest at behind : ℕ) (due : Gathered) (given : Given) (m now : Moment) (r next : Run) → IsArgument behind (argument_node.Value a rest) → Goes runs ts at m r next behind → Gathering g runs ts count at due given now → a < count
  value_there a rest at behind due given m now r next fits slots so = omega (arith, fits.0, slots.order, so.there)

  pub item_there : (a rest at behind : ℕ) (due : Gathered) (given : Given) (m now : Moment) (r next : Run) → IsArgument behind (argument_node.Item a rest) → Goes runs ts at m r next behind → Gathering g runs ts count at due given now → a < count
  item_there a rest at behind due given m now r next fits slots so = omega (arith, fits.0, slots.order, so.there)

  pub value_less : (a rest at behind : ℕ) (m : Moment) (r next : Run) → IsArgument behind (argument_node.Value a rest) → Goes runs ts at m r next behind → rest < at
  value_less a rest at behind m r next fits slots = omega (arith, fits.1, slots.order)

  pub item_less : (a rest at behind : ℕ) (m : Moment) (r next : Run) → IsArgument behind (argument_node.Item a rest) → Goes runs ts at m r next behind → rest < at
  item_less a rest at behind m r next fits slots = omega (arith, fits.1, slots.order)

  pub value_behind : (a rest at behind : ℕ) (due : Gathered) (f : Cells) (s : Contents) (u : List ℕ) (r middle : Run) (after : Given) (now : Moment) (b : Bool) → b ≡ is_some r.stopped → b ≡ false → Goes runs ts at (moment f s u r) r middle behind → IsArgument behind (argument_node.Value a rest) → arguments_at ts behind ≡ a_value (test_at ts a) ∷ arguments_at ts rest → Gathers g (with_argument (a_value (test_at ts a)) (given_of middle) (test_value runs (test_at ts a) (moment f s u middle))) after now → Gathering g runs ts count at due (given_of r) (moment f s u r) → Gathering g runs ts count rest due after now
  value_behind a rest at behind due f s u r middle after now b is running slots fits tree one so =
      gather_value_goes a rest behind due (given_of middle) after (moment f s u middle) now (is_some middle.stopped) refl
      (ap (λ (n : Run). is_some n.stopped) slots.run ∙ sym is ∙ running) fits tree one (gather_goes at behind due f s u r middle slots so)

  pub item_behind : (a rest at behind : ℕ) (due : Gathered) (f : Cells) (s : Contents) (u : List ℕ) (r middle : Run) (after : Given) (now : Moment) (b : Bool) → b ≡ is_some r.stopped → b ≡ false → Goes runs ts at (moment f s u r) r middle behind → IsArgument behind (argument_node.Item a rest) → arguments_at ts behind ≡ an_item (test_at ts a) ∷ arguments_at ts rest → Gathers g (with_argument (an_item (test_at ts a)) (given_of middle) (test_value runs (test_at ts a) (moment f s u middle))) after now → Gathering g runs ts count at due (given_of r) (moment f s u r) → Gathering g runs ts count rest due after now
  item_behind a rest at behind due f s u r middle after now b is running slots fits tree one so =
      gather_item_goes a rest behind due (given_of middle) after (moment f s u middle) now (is_some middle.stopped) refl
      (ap (λ (n : Run). is_some n.stopped) slots.run ∙ sym is ∙ running) fits tree one (gather_goes at behind due f s u r middle slots so)

  pub none_behind : (at behind : ℕ) (due : Gathered) (f : Cells) (s : Contents) (u : List ℕ) (r middle : Run) → arguments_at ts behind ≡ [] → Goes runs ts at (moment f s u r) r middle behind → Gathering g runs ts count at due (given_of r) (moment f s u r) → Gathers g due (given_of middle) (moment f s u middle)
  none_behind at behind due f s u r middle tree slots so = gather_none behind due (given_of middle) (moment f s u middle) tree (gather_goes at behind due f s u r middle slots so)

  stays : (list : List Argument) (given : Given) (now : Moment) → is_stopped now ≡ true → gathered runs list (record { given = given; moment = now }) ≡ record { given = given; moment = now }
  stays [] given now stopped = refl
  stays (a ∷ list) given now stopped =
      ap (λ (b : Bool). gathered runs list (cond b (record { given = given; moment = now }) (with_argument a given (test_value runs (test_of a) now)))) stopped
      ∙ stays list given now stopped

  pub gather_stopped : (at : ℕ) (due : Gathered) (given : Given) (now : Moment) (b : Bool) → b ≡ is_stopped now → b ≡ true → Gathering g runs ts count at due given now → Gathers g due given now
  gather_stopped at due given now b is stopped so = record { over = so.over; gathers = sym so.same ∙ stays (arguments_at ts at) given now (sym is ∙ stopped) }
