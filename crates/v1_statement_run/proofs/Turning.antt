-- Parameters that are brought in, one after another, and that enter the frame.
use Rattle.std.proofs.Common.{◌≡◌, ℕ, ◌<◌, List, [], ◌∷◌, Bool, true, false, cond, None, refl, sym, ap, ◌∙◌, arith}
use Rattle.state_store.specs.State.{Contents}
use Rattle.v1_core.specs.Cells.{Cells, slot_value}
use Rattle.v1_ready_blocks.specs.declared.places.Range.{Range}
use Rattle.v1_ready_blocks.specs.Moments.{Moment, is_stopped, going_on}
use Rattle.v1_ready_blocks.specs.Places.{put, taken}
use Rattle.v1_ready_blocks.specs.Tests.{Applied}
use Rattle.v1_ready_blocks.specs.Arguments.{Incoming, value_in, parts_in, zero_in, all_in, all_entered, brought_in}
use Rattle.v1_ready_blocks.specs.declared.nodes.IncomingNode.TheVariants as incoming_node
use Rattle.v1_ready_blocks.specs.Nodes.{Tree, Ground, IsIncoming, test_at, source_at, incoming_at}
use Rattle.v1_statement_run.specs.declared.run.Run.{Run}
use Rattle.v1_statement_run.specs.Seen.{moment}
use Rattle.v1_statement_run.specs.Steps.{IsOver, Comes}
use Rattle.v1_statement_run.specs.Bringing.{brought}

pub record Going (g : Ground) (step : Incoming → Moment → Moment) (ts : List Tree) (count at : ℕ) (due now : Moment) : Type 0 where
  pub there : at < count
  pub over : IsOver g now
  pub same : all_in step (incoming_at ts at) now ≡ due

module _ (g : Ground) (step : Incoming → Moment → Moment) (ts : List Tree) (count : ℕ) where
  pub bring_begins : (place : ℕ) (m : Moment) → place < count → IsOver g m → Going g step ts count place (all_in step (incoming_at ts place) m) m
  bring_begins place m there over = record { there = there; over = over; same = refl }

  goes : (a : Incoming) (rest at : ℕ) (due now next : Moment) → rest < at → is_stopped now ≡ false → incoming_at ts at ≡ a ∷ incoming_at ts rest → Comes g (step a now) next → Going g step ts count at due now → Going g step ts count rest due next
  goes a rest at due now next before running tree one so = record {
    there = omega (arith, before, so.there);
    over = one.over;
    same =
        ap (all_in step (incoming_at ts rest)) (sym one.comes)
        ∙ ap (λ (b : Bool). all_in step (incoming_at ts rest) (cond b now (step a now))) (sym running)
        ∙ ap (λ (l : List Incoming). all_in step l now) (sym tree)
        ∙ so.same;
  }

  pub bring_value_goes : (to a rest at : ℕ) (due now next : Moment) (b : Bool) → b ≡ is_stopped now → b ≡ false → IsIncoming g.layout at (incoming_node.Value to a rest) → incoming_at ts at ≡ value_in to (test_at ts a) ∷ incoming_at ts rest → Comes g (step (value_in to (test_at ts a)) now) next → Going g step ts count at due now → Going g step ts count rest due next
  bring_value_goes to a rest at due now next b is running fits tree one so = goes (value_in to (test_at ts a)) rest at due now next fits.2 (sym is ∙ running) tree one so

  pub bring_parts_goes : (to : Range) (a rest at : ℕ) (due now next : Moment) (b : Bool) → b ≡ is_stopped now → b ≡ false → IsIncoming g.layout at (incoming_node.Parts to a rest) → incoming_at ts at ≡ parts_in to (source_at ts a) ∷ incoming_at ts rest → Comes g (step (parts_in to (source_at ts a)) now) next → Going g step ts count at due now → Going g step ts count rest due next
  bring_parts_goes to a rest at due now next b is running fits tree one so = goes (parts_in to (source_at ts a)) rest at due now next fits.2 (sym is ∙ running) tree one so

  pub bring_zero_goes : (to : Range) (rest at : ℕ) (due now next : Moment) (b : Bool) → b ≡ is_stopped now → b ≡ false → IsIncoming g.layout at (incoming_node.Zero to rest) → incoming_at ts at ≡ zero_in to ∷ incoming_at ts rest → Comes g (step (zero_in to) now) next → Going g step ts count at due now → Going g step ts count rest due next
  bring_zero_goes to rest at due now next b is running fits tree one so = goes (zero_in to) rest at due now next fits.1 (sym is ∙ running) tree one so

  pub bring_none : (at : ℕ) (due now : Moment) → incoming_at ts at ≡ [] → Going g step ts count at due now → Comes g due now
  bring_none at due now tree so = record { over = so.over; comes = sym so.same ∙ ap (λ (l : List Incoming). all_in step l now) tree }

  stays : (list : List Incoming) (now : Moment) → is_stopped now ≡ true → all_in step list now ≡ now
  stays [] now stopped = refl
  stays (a ∷ list) now stopped = ap (λ (b : Bool). all_in step list (cond b now (step a now))) stopped ∙ stays list now stopped

  pub bring_stopped : (at : ℕ) (due now : Moment) (b : Bool) → b ≡ is_stopped now → b ≡ true → Going g step ts count at due now → Comes g due now
  bring_stopped at due now b is stopped so = record { over = so.over; comes = sym so.same ∙ stays (incoming_at ts at) now (sym is ∙ stopped) }

-- those that wait enter

pub record Entering (g : Ground) (ts : List Tree) (count at : ℕ) (due now : Moment) : Type 0 where
  pub there : at < count
  pub over : IsOver g now
  pub same : all_entered (incoming_at ts at) now ≡ due

module _ (g : Ground) (ts : List Tree) (count : ℕ) (s : Contents) (u : List ℕ) (r : Run) where
  pub enter_begins : (place : ℕ) (f : Cells) → place < count → IsOver g (moment f s u r) → Entering g ts count place (all_entered (incoming_at ts place) (moment f s u r)) (moment f s u r)
  enter_begins place f there over = record { there = there; over = over; same = refl }

  pub enter_value : (to a rest at number : ℕ) (due : Moment) (f new : Cells) → IsIncoming g.layout at (incoming_node.Value to a rest) → incoming_at ts at ≡ value_in to (test_at ts a) ∷ incoming_at ts rest → number ≡ slot_value r.waiting to → new ≡ put to None number f → Entering g ts count at due (moment f s u r) → Entering g ts count rest due (moment new s u r)
  enter_value to a rest at number due f new fits tree reads puts so = record {
    there = omega (arith, fits.2, so.there);
    over = record { cells = ap (λ (c : Cells). c.layout) puts ∙ so.over.cells; waiting = so.over.waiting; shapes = so.over.shapes };
    same =
        ap (λ (c : Cells). all_entered (incoming_at ts rest) (moment c s u r)) puts
        ∙ ap (λ (k : ℕ). all_entered (incoming_at ts rest) (moment (put to None k f) s u r)) reads
        ∙ ap (λ (l : List Incoming). all_entered l (moment f s u r)) (sym tree)
        ∙ so.same;
  }

  pub enter_parts : (to : Range) (a rest at : ℕ) (due : Moment) (f new : Cells) → IsIncoming g.layout at (incoming_node.Parts to a rest) → incoming_at ts at ≡ parts_in to (source_at ts a) ∷ incoming_at ts rest → new ≡ taken to to r.waiting f → new.layout ≡ f.layout → Entering g ts count at due (moment f s u r) → Entering g ts count rest due (moment new s u r)
  enter_parts to a rest at due f new fits tree takes layout so = record {
    there = omega (arith, fits.2, so.there);
    over = record { cells = layout ∙ so.over.cells; waiting = so.over.waiting; shapes = so.over.shapes };
    same =
        ap (λ (c : Cells). all_entered (incoming_at ts rest) (moment c s u r)) takes
        ∙ ap (λ (l : List Incoming). all_entered l (moment f s u r)) (sym tree)
        ∙ so.same;
  }

  pub enter_zero : (to : Range) (rest at : ℕ) (due : Moment) (f new : Cells) → IsIncoming g.layout at (incoming_node.Zero to rest) → incoming_at ts at ≡ zero_in to ∷ incoming_at ts rest → new ≡ taken to to r.waiting f → new.layout ≡ f.layout → Entering g ts count at due (moment f s u r) → Entering g ts count rest due (moment new s u r)
  enter_zero to rest at due f new fits tree takes layout so = record {
    there = omega (arith, fits.1, so.there);
    over = record { cells = layout ∙ so.over.cells; waiting = so.over.waiting; shapes = so.over.shapes };
    same =
        ap (λ (c : Cells). all_entered (incoming_at ts rest) (moment c s u r)) takes
        ∙ ap (λ (l : List Incoming). all_entered l (moment f s u r)) (sym tree)
        ∙ so.same;
  }

  pub enter_ends : (at : ℕ) (due : Moment) (f : Cells) → incoming_at ts at ≡ [] → Entering g ts count at due (moment f s u r) → Comes g due (moment f s u r)
  enter_ends at due f tree so = record { over = so.over; comes = sym so.same ∙ ap (λ (l : List Incoming). all_entered l (moment f s u r)) tree }

-- both

module _ (g : Ground) (runs : ℕ → Moment → Applied) (apart : Bool) (list : List Incoming) (old now : Moment) where
  at_once : apart ≡ false → brought_in runs apart list old ≡ all_in (brought runs apart) list old
  at_once off = ap (λ (b : Bool). brought_in runs b list old) off ∙ ap (λ (b : Bool). all_in (brought runs b) list old) (sym off)

  apart_too : apart ≡ true → brought_in runs apart list old ≡ going_on (all_entered list) (all_in (brought runs apart) list old)
  apart_too on =
      ap (λ (b : Bool). brought_in runs b list old) on ∙ ap (λ (b : Bool). going_on (all_entered list) (all_in (brought runs b) list old)) (sym on)

  pub brought_at_once : apart ≡ false → Comes g (all_in (brought runs apart) list old) now → Comes g (brought_in runs apart list old) now
  brought_at_once off all = record { over = all.over; comes = at_once off ∙ all.comes }

  pub brought_stopped : (b : Bool) → apart ≡ true → b ≡ is_stopped now → b ≡ true → Comes g (all_in (brought runs apart) list old) now → Comes g (brought_in runs apart list old) now
  brought_stopped b on is stopped all = record {
    over = all.over;
    comes = apart_too on ∙ ap (going_on (all_entered list)) all.comes ∙ ap (λ (t : Bool). cond t now (all_entered list now)) (sym is ∙ stopped);
  }

  pub brought_apart : (end : Moment) (b : Bool) → apart ≡ true → b ≡ is_stopped now → b ≡ false → Comes g (all_in (brought runs apart) list old) now → Comes g (all_entered list now) end → Comes g (brought_in runs apart list old) end
  brought_apart end b on is running all enters = record {
    over = enters.over;
    comes =
        apart_too on ∙ ap (going_on (all_entered list)) all.comes
        ∙ ap (λ (t : Bool). cond t now (all_entered list now)) (sym is ∙ running) ∙ enters.comes;
  }
