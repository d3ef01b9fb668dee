-- What calls of actions come to.
use Rattle.std.proofs.Common.{◌≡◌, ℕ, zero, suc, ◌+◌, ◌-◌, ◌<◌, Bool, true, false, cond, List, [], ◌∷◌, length, map, All, slice_get, slice_index_or, Option, Some, None, refl, sym, ap, subst, ◌∙◌, arith}
use Rattle.std.proofs.lemmas.List.{length-map}
use Rattle.state_store.specs.State.{Contents}
use Rattle.v1_core.specs.Cells.{Cells}
use Rattle.v1_ready_blocks.specs.Arguments.{Incoming, Outgoing, brought_in, given_back, all_back}
use Rattle.v1_ready_blocks.specs.Blocks.{acted, body_of}
use Rattle.v1_ready_blocks.specs.Moments.{Moment, going_on, is_stopped}
use Rattle.v1_ready_blocks.specs.Nodes.{Ground, outgoing_at, statement_at}
use Rattle.v1_ready_blocks.specs.Statements.{Statement, called, nothing, run}
use Rattle.v1_ready_blocks.specs.Tests.{Applied, no_table_applies}
use Rattle.v1_statement_run.specs.declared.run.Run.{Run}
use Rattle.v1_statement_run.specs.Seen.{moment}
use Rattle.v1_statement_run.specs.Steps.{IsOver, Comes, ground_of, trees_of}
use Rattle.v1_block_run.specs.declared.tasks.Level.{Level}
use Rattle.v1_block_run.specs.declared.tasks.Level.TheVariants as level
use Rattle.v1_block_run.specs.declared.tasks.Task.{Task}
use Rattle.v1_block_run.specs.declared.tasks.Task.TheVariants as task
use Rattle.v1_block_run.specs.declared.block.ReadyAction.{ReadyAction}
use Rattle.v1_block_run.specs.declared.block.ReadyBlock.{ReadyBlock}
use Rattle.v1_block_run.specs.Blocks.{HasBody, IsRunnable, count_of, seen_block, seen_body}
use Rattle.v1_block_run.specs.Tasks.{AreThere, body_steps, calls_at, finish, load, steps, world_at}
use Rattle.v1_block_run.specs.Steps.{Acts, Enters, Leads, done_by}

pub as_many_bodies : (b : ReadyBlock) → length b.actions ≡ length (seen_block b).bodies
as_many_bodies b = sym (length-map b.actions (seen_body b))

-- the action with a number

index_none : {X : Type 0} (f : X → Statement) (xs : List X) (n : ℕ) → None ≡ slice_get xs n → slice_index_or (map f xs) n nothing ≡ nothing
index_none f [] n none = refl
index_none f (x ∷ xs) zero none = absurd (cc none)
index_none f (x ∷ xs) (suc n) none = index_none f xs n none

index_some : {X : Type 0} (f : X → Statement) (xs : List X) (n : ℕ) (x : X) → Some x ≡ slice_get xs n → slice_index_or (map f xs) n nothing ≡ f x
index_some f [] n x some = absurd (cc some)
index_some f (y ∷ xs) zero x some = let same : x ≡ y = cc some in ap f (sym same)
index_some f (y ∷ xs) (suc n) x some = index_some f xs n x some

all_there : {X : Type 0} (P : X → Type 0) (xs : List X) (n : ℕ) (x : X) → Some x ≡ slice_get xs n → All P xs → P x
all_there P [] n x some all = absurd (cc some)
all_there P (y ∷ xs) zero x some all = let same : x ≡ y = cc some in subst P (sym same) (all 0 y (omega arith))
all_there P (y ∷ xs) (suc n) x some all = all_there P xs n x some (λ k d lt. all (suc k) d (omega (arith, lt)))

module _ (b : ReadyBlock) (action : ℕ) where
  -- by how deep calls nest

  abbrev does_by : ℕ → Option Task → Type 0
  does_by calls t = (runs : ℕ → Moment → Applied) (m : Moment) → done_by runs b t m ≡ acted (seen_block b) calls action m

  none_acts : (calls : ℕ) → body_of (seen_block b) action ≡ nothing → does_by calls None
  none_acts zero none runs m = refl
  none_acts (suc calls) none runs m =
      ap (λ (s : Statement). run (record { act = acted (seen_block b) calls; apply = no_table_applies }) None s m) (sym none)

  body_acts : (calls place : ℕ) → 0 < calls → body_of (seen_block b) action ≡ statement_at (trees_of b.code) place → does_by calls (Some (task.Run (level.Action (calls - 1)) place None))
  body_acts zero place some is runs m = absurd (omega (arith, some))
  body_acts (suc calls) place some is runs m =
      let one : suc calls - 1 ≡ calls = omega arith in
      ap (λ (k : ℕ). run (world_at runs (seen_block b) (level.Action k)) None (statement_at (trees_of b.code) place) m) one
      ∙ ap (λ (s : Statement). run (record { act = acted (seen_block b) calls; apply = no_table_applies }) None s m) (sym is)

  body_takes : (calls place : ℕ) → 0 < calls → body_of (seen_block b) action ≡ statement_at (trees_of b.code) place → steps (body_steps (seen_block b) (calls - 1)) (statement_at (trees_of b.code) place) < 1 + body_steps (seen_block b) calls action
  body_takes zero place some is = absurd (omega (arith, some))
  body_takes (suc calls) place some is =
      let one : suc calls - 1 ≡ calls = omega arith in
      let same : steps (body_steps (seen_block b) (suc calls - 1)) (statement_at (trees_of b.code) place) ≡ body_steps (seen_block b) (suc calls) action =
      ap (λ (k : ℕ). steps (body_steps (seen_block b) k) (statement_at (trees_of b.code) place)) one ∙ ap (steps (body_steps (seen_block b) calls)) (sym is) in
      omega (arith, same)

  pub acts_no_more : (at : Level) (calls : ℕ) → calls ≡ calls_at (seen_block b) at → calls ≡ 0 → Acts b at action None
  acts_no_more at calls is none = record {
    same = λ runs m. ap (λ (k : ℕ). acted (seen_block b) k action m) (sym none ∙ is);
    there = tt;
    few = omega arith;
  }

  pub acts_none : (at : Level) → None ≡ slice_get b.actions action → Acts b at action None
  acts_none at none = record {
    same = none_acts (calls_at (seen_block b) at) (index_none (seen_body b) b.actions action none);
    there = tt;
    few = omega arith;
  }

  pub acts_body : (at : Level) (calls : ℕ) (a : ReadyAction) → IsRunnable b → calls ≡ calls_at (seen_block b) at → (calls ≡ 0 → ⊥) → Some a ≡ slice_get b.actions action → Acts b at action (Some (task.Run (level.Action (calls - 1)) a.body None))
  acts_body at calls a runnable is some found =
      let more : 0 < calls = omega (arith, some) in
      let body : body_of (seen_block b) action ≡ seen_body b a = index_some (seen_body b) b.actions action a found in
      record {
        same = λ runs m. body_acts calls a.body more body runs m ∙ ap (λ (k : ℕ). acted (seen_block b) k action m) is;
        there = (all_there (HasBody (count_of b)) b.actions action a found runnable.bodies).body;
        few = subst (λ (k : ℕ). steps (body_steps (seen_block b) (calls - 1)) (statement_at (trees_of b.code) a.body) < 1 + body_steps (seen_block b) k action) is (body_takes calls a.body more body);
      }

-- a call

module _ (b : ReadyBlock) (at : Level) (action outgoing : ℕ) (before after : List Task) (is_there : outgoing < count_of b) (there : AreThere (count_of b) before) where
  pub enters_nothing : Acts b at action None → after ≡ task.Return outgoing ∷ before → Enters b at action outgoing before after
  enters_nothing acts is = record {
    there = subst (AreThere (count_of b)) (sym is) (is_there, there);
    same = λ runs m.
        ap (λ (l : List Task). finish runs b l m) is
        ∙ ap (λ (n : Moment). finish runs b before (going_on (given_back (outgoing_at (trees_of b.code) outgoing)) n)) (acts.same runs m);
    few = subst (λ (l : List Task). load b l < 2 + body_steps (seen_block b) (calls_at (seen_block b) at) action + load b before) (sym is) (omega arith);
  }

  pub enters_body : (t : Task) → Acts b at action (Some t) → after ≡ t ∷ task.Return outgoing ∷ before → Enters b at action outgoing before after
  enters_body t acts is = record {
    there = subst (AreThere (count_of b)) (sym is) (acts.there, (is_there, there));
    same = λ runs m.
        ap (λ (l : List Task). finish runs b l m) is
        ∙ ap (λ (n : Moment). finish runs b before (going_on (given_back (outgoing_at (trees_of b.code) outgoing)) n)) (acts.same runs m);
    few =
        subst (λ (l : List Task). load b l < 2 + body_steps (seen_block b) (calls_at (seen_block b) at) action + load b before) (sym is)
        (omega (arith, acts.few));
  }

module _ (runs : ℕ → Moment → Applied) (b : ReadyBlock) (at : Level) (action : ℕ) (apart : Bool) (incoming : List Incoming) (outgoing : ℕ) (before : List Task) (old now : Moment) (brought : Comes (ground_of b.code) (brought_in (world_at runs (seen_block b) at).apply apart incoming old) now) where
  abbrev entered : Moment → Moment
  entered n = going_on (given_back (outgoing_at (trees_of b.code) outgoing)) (acted (seen_block b) (calls_at (seen_block b) at) action n)

  comes_by : (stopped : Bool) → stopped ≡ is_stopped now → called (world_at runs (seen_block b) at) action apart incoming (outgoing_at (trees_of b.code) outgoing) old ≡ cond stopped now (entered now)
  comes_by stopped is = ap (going_on entered) brought.comes ∙ ap (λ (k : Bool). cond k now (entered now)) (sym is)

  pub call_stopped : (stopped : Bool) → stopped ≡ is_stopped now → stopped ≡ true → AreThere (count_of b) before → Leads runs b before before (called (world_at runs (seen_block b) at) action apart incoming (outgoing_at (trees_of b.code) outgoing) old) now (2 + body_steps (seen_block b) (calls_at (seen_block b) at) action)
  call_stopped stopped is on there = record {
    over = brought.over;
    there = there;
    same = ap (finish runs b before) (sym (comes_by stopped is ∙ ap (λ (k : Bool). cond k now (entered now)) on));
    fewer = omega arith;
  }

  pub call_enters : (after : List Task) (stopped : Bool) → stopped ≡ is_stopped now → stopped ≡ false → Enters b at action outgoing before after → Leads runs b before after (called (world_at runs (seen_block b) at) action apart incoming (outgoing_at (trees_of b.code) outgoing) old) now (2 + body_steps (seen_block b) (calls_at (seen_block b) at) action)
  call_enters after stopped is off enters = record {
    over = brought.over;
    there = enters.there;
    same =
        enters.same runs now
        ∙ ap (finish runs b before) (sym (comes_by stopped is ∙ ap (λ (k : Bool). cond k now (entered now)) off));
    fewer = enters.few;
  }

-- parameters go back

module _ (g : Ground) (list : List Outgoing) (f : Cells) (s : Contents) (u : List ℕ) (r : Run) (over : IsOver g (moment f s u r)) where
  pub frame_over : f.layout ≡ g.layout
  frame_over = over.cells

  pub kept_back : (stopped : Bool) → stopped ≡ is_stopped (moment f s u r) → stopped ≡ true → Comes g (going_on (given_back list) (moment f s u r)) (moment f s u r)
  kept_back stopped is on = record {
    over = over;
    comes = ap (λ (k : Bool). cond k (moment f s u r) (given_back list (moment f s u r))) (sym is ∙ on);
  }

  pub went_back : (new : Cells) (stopped : Bool) → stopped ≡ is_stopped (moment f s u r) → stopped ≡ false → new ≡ all_back list f → new.layout ≡ f.layout → Comes g (going_on (given_back list) (moment f s u r)) (moment new s u r)
  went_back new stopped is off back layout = record {
    over = record { cells = layout ∙ over.cells; waiting = over.waiting; shapes = over.shapes };
    comes =
        ap (λ (k : Bool). cond k (moment f s u r) (given_back list (moment f s u r))) (sym is ∙ off)
        ∙ ap (λ (c : Cells). moment c s u r) (sym back);
  }
