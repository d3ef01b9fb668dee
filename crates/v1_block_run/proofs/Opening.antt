-- The first statement of those at a place, and the others behind it.
use Rattle.std.proofs.Common.{◌≡◌, ℕ, ◌+◌, ◌<◌, List, ◌∷◌, Option, refl, sym, ap, subst, ◌∙◌, arith}
use Rattle.v1_ready_blocks.specs.Moments.{Moment}
use Rattle.v1_ready_blocks.specs.Nodes.{statement_at}
use Rattle.v1_ready_blocks.specs.Statements.{Statement, nothing, run, sequence}
use Rattle.v1_ready_blocks.specs.Tests.{Applied, World}
use Rattle.v1_statement_run.specs.Steps.{Comes, IsOver, ground_of, trees_of}
use Rattle.v1_block_run.specs.declared.tasks.Level.{Level}
use Rattle.v1_block_run.specs.declared.tasks.Task.{Task}
use Rattle.v1_block_run.specs.declared.tasks.Task.TheVariants as task
use Rattle.v1_block_run.specs.declared.block.ReadyBlock.{ReadyBlock}
use Rattle.v1_block_run.specs.Blocks.{count_of, seen_block}
use Rattle.v1_block_run.specs.Tasks.{AreThere, body_steps, calls_at, finish, load, steps, world_at}
use Rattle.v1_block_run.specs.Steps.{Leads, Opens}

pub nothing_came : (b : ReadyBlock) (w : World) (ran : Option ℕ) (s : Statement) (m : Moment) → s ≡ nothing → IsOver (ground_of b.code) m → Comes (ground_of b.code) (run w ran s m) m
nothing_came b w ran s m none over = record { over = over; comes = ap (λ (t : Statement). run w ran t m) none }

-- what a statement is made of is there
pub first_there : (count place x y : ℕ) → place < count → (x < place) × (y < place) → x < count
first_there count place x y here are = omega (arith, here, are.0)

pub last_there : (count place x y : ℕ) → place < count → (x < place) × (y < place) → y < count
last_there count place x y here are = omega (arith, here, are.1)

module _ (b : ReadyBlock) (at : Level) (ran : Option ℕ) (place : ℕ) (before : List Task) where
  abbrev stands : ℕ → Statement
  stands x = statement_at (trees_of b.code) x

  abbrev size : Statement → ℕ
  size s = steps (body_steps (seen_block b) (calls_at (seen_block b) at)) s

  pub opens : place < count_of b → AreThere (count_of b) before → Opens b at ran place before place before
  opens here there = record { here = here; there = there; same = λ runs m. refl; few = omega arith }

  module _ (now x y : ℕ) (tasks : List Task) (tree : stands now ≡ sequence (stands x) (stands y)) (are : (x < now) × (y < now)) (so : Opens b at ran place before now tasks) where
    taken : size (stands now) ≡ 1 + size (stands x) + size (stands y)
    taken = ap size tree

    pub part_there : x < count_of b
    part_there = omega (arith, are.0, so.here)

    pub opens_first : (after : List Task) → after ≡ task.Run at y ran ∷ tasks → Opens b at ran place before x after
    opens_first after is = record {
      here = omega (arith, are.0, so.here);
      there = subst (AreThere (count_of b)) (sym is) (omega (arith, are.1, so.here), so.there);
      same = λ runs m.
          ap (λ (l : List Task). finish runs b l (run (world_at runs (seen_block b) at) ran (stands x) m)) is
          ∙ ap (λ (s : Statement). finish runs b tasks (run (world_at runs (seen_block b) at) ran s m)) (sym tree)
          ∙ so.same runs m;
      few =
          subst (λ (l : List Task). size (stands x) + load b l < 1 + load b (task.Run at place ran ∷ before)) (sym is)
          (omega (arith, taken, so.few));
    }

    pub opens_last : stands x ≡ nothing → Opens b at ran place before y tasks
    opens_last none = record {
      here = omega (arith, are.1, so.here);
      there = so.there;
      same = λ runs m.
          ap (finish runs b tasks)
          (sym
          (ap (λ (s : Statement). run (world_at runs (seen_block b) at) ran s m) tree
          ∙ ap (λ (s : Statement). run (world_at runs (seen_block b) at) ran (stands y) (run (world_at runs (seen_block b) at) ran s m)) none))
          ∙ so.same runs m;
      few = omega (arith, taken, so.few);
    }

  -- one alone
  pub opens_alone : (x y : ℕ) → place < count_of b → AreThere (count_of b) before → stands place ≡ sequence (stands x) (stands y) → (x < place) × (y < place) → stands x ≡ nothing → Opens b at ran place before y before
  opens_alone x y here there tree are none = opens_last place x y before tree are (opens here there) none

  pub was_opened : (runs : ℕ → Moment → Applied) (first : ℕ) (mid after : List Task) (old now : Moment) → Opens b at ran place before first mid → Leads runs b (task.Run at first ran ∷ mid) after old now 0 → Leads runs b (task.Run at place ran ∷ before) after old now 0
  was_opened runs first mid after old now opened leads = record {
    over = leads.over;
    there = leads.there;
    same = leads.same ∙ opened.same runs old;
    fewer = omega (arith, opened.few, leads.fewer);
  }
