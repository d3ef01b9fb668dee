-- What a statement comes to that is done at once, and one that does nothing.
use Rattle.std.proofs.Common.{ℕ, ◌<◌, List, refl, sym, ap, arith}
use Rattle.v1_ready_blocks.specs.Moments.{Moment}
use Rattle.v1_ready_blocks.specs.Tests.{Applied}
use Rattle.v1_statement_run.specs.Steps.{IsOver, Comes, ground_of}
use Rattle.v1_block_run.specs.declared.tasks.Task.{Task}
use Rattle.v1_block_run.specs.declared.block.ReadyBlock.{ReadyBlock}
use Rattle.v1_block_run.specs.Blocks.{count_of}
use Rattle.v1_block_run.specs.Tasks.{AreThere, finish}
use Rattle.v1_block_run.specs.Steps.{Leads}

module _ (runs : ℕ → Moment → Applied) (b : ReadyBlock) (tasks : List Task) where
  pub comes_leads : (due now : Moment) → AreThere (count_of b) tasks → Comes (ground_of b.code) due now → Leads runs b tasks tasks due now 1
  comes_leads due now there comes = record {
    over = comes.over;
    there = there;
    same = ap (finish runs b tasks) (sym comes.comes);
    fewer = omega arith;
  }

  pub nothing_leads : (m : Moment) (most : ℕ) → 0 < most → AreThere (count_of b) tasks → IsOver (ground_of b.code) m → Leads runs b tasks tasks m m most
  nothing_leads m most some there over = record {
    over = over;
    there = there;
    same = refl;
    fewer = omega (arith, some);
  }
