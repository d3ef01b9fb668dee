-- The law of passes (this project's own; P4_14 1.0.5, "Packet Processing and Control Flow", "Clone", "Resubmit",
-- "Recirculate"; `v1model.p4`, `V1Switch`).
use Rattle.fabric.specs.Twins.{SamePasses}
use Rattle.p414_sem.specs.Controls.{Setting as Setting14}
use Rattle.p414_sem.specs.Runs.{machine14}
use Rattle.v1_core.specs.Runs.{machine16}
use Rattle.v1_core.specs.Surroundings.{Setting}
use Rattle.lower_laws_base.specs.Blocks.{BlocksAlike}
use Rattle.lower_laws_base.specs.Context.{StateLayout}
use Rattle.lower_laws_passes.specs.Held.{HeldAlike, PortStays, SameState, fit_nine}
use Rattle.lower_laws_passes.specs.Preserving.{KeptAlike}
use Rattle.lower_laws_passes.specs.Types.{TypesAlike}

-- Where blocks and types are as asked, each pass of a packet comes to the same in both programs.
abbrev pub PassesAlike : Type 0
PassesAlike =
    (g : StateLayout) (c14 : Setting14) (c16 : Setting) → BlocksAlike g c14 c16 → PortStays c14 → TypesAlike g c14.decls c14.expanded c16.syntax →
    SamePasses fit_nine (SameState g.shapes) (KeptAlike g) (HeldAlike g) (machine14 c14) (machine16 c16)
