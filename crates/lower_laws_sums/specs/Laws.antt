-- The law of all controls of a program (this project's own; P4_14 1.0.5, "Packet Processing and Control Flow",
-- "Checksums and Hash-value Generators"; `v1model.p4`, `V1Switch`).
use Rattle.std.specs.Prelude.{false, true}
use Rattle.p414_sem.specs.Controls.{Setting as Setting14}
use Rattle.v1_core.specs.Surroundings.{Setting}
use Rattle.v1_core.specs.declared.block.Block.TheVariants.{Compute, Egress, Ingress, Verify}
use Rattle.lower_laws_base.specs.Context.{StateLayout}
use Rattle.lower_laws_controls.specs.Whole.{BlockIs}
use Rattle.lower_laws_sums.specs.Alike.{ControlsAlike}
use Rattle.lower_laws_sums.specs.Whole.{SumsAre}

-- The four controls that are written as asked verify, do ingress, do egress and update as P4_14 does.
abbrev pub AllControlsDo : Type 0
AllControlsDo =
    (g : StateLayout) (c14 : Setting14) (c16 : Setting) →
    SumsAre g c14.decls c14.expanded c16 Verify false → BlockIs g c14 c16 Ingress true c14.expanded.ingress →
    BlockIs g c14 c16 Egress false c14.expanded.egress → SumsAre g c14.decls c14.expanded c16 Compute true → ControlsAlike g c14 c16
