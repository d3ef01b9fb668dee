-- What is owed of the ready blocks of a program (this project's own).
use Rattle.std.specs.Prelude.{◌≡◌}
use Rattle.v1_core.specs.declared.block.Block.TheVariants.{Verify, Ingress, Egress, Compute, Deparse}
use Rattle.v1_core.specs.Surroundings.{Setting}
use Rattle.v1_core.specs.Layouts.{Layout}
use Rattle.v1_core.specs.Programs.{layout16}
use Rattle.v1_ready_blocks.specs.Tables.{Fill}
use Rattle.v1_control_run.specs.Prepared.{DoesControl, DoesParser}
use Rattle.v1model_runner.specs.declared.ready.ReadyBlocks.{ReadyBlocks}

-- each does what the block of the program does
pub record AreReady (c : Setting) (fill : Fill) (b : ReadyBlocks) : Type 0 where
  pub parser : DoesParser c b.states b.parser
  pub verify : DoesControl c Verify fill b.verify
  pub ingress : DoesControl c Ingress fill b.ingress
  pub egress : DoesControl c Egress fill b.egress
  pub compute : DoesControl c Compute fill b.compute
  pub deparse : DoesControl c Deparse fill b.deparse

-- and the frames have the layout of the program
pub record IsReady (c : Setting) (l : Layout) (fill : Fill) (b : ReadyBlocks) : Type 0 where
  pub layout : l ≡ layout16 c.syntax
  pub blocks : AreReady c fill b
