-- The passes correspond.
use Rattle.std.proofs.Common.{sym}
use Rattle.fabric.specs.Twins.{SamePasses}
use Rattle.fabric.specs.Traces.{SameEvents}
use Rattle.p414_sem.specs.Controls.{Setting as Setting14}
use Rattle.p414_sem.specs.Runs.{machine14, events_of as events14}
use Rattle.v1_core.specs.Surroundings.{Setting}
use Rattle.v1_core.specs.Runs.{machine16, events_of}
use Rattle.lower_laws_base.specs.Context.{StateLayout}
use Rattle.lower_laws_base.specs.Blocks.{BlocksAlike}
use Rattle.lower_laws_passes.specs.Preserving.{KeptAlike}
use Rattle.lower_laws_passes.specs.Types.{TypesAlike}
use Rattle.lower_laws_passes.specs.Held.{HeldAlike, SameState, PortStays, fit_nine}
use Rattle.lower_laws_passes.proofs.KeptAlike.{nothing_kept}
use Rattle.lower_laws_passes.proofs.Ingress.{ingress_alike, reparse_alike}
use Rattle.lower_laws_passes.proofs.Egress.{egress_alike}

pub passes_alike : (g : StateLayout) (c14 : Setting14) (c16 : Setting) → BlocksAlike g c14 c16 → PortStays c14 → TypesAlike g c14.decls c14.expanded c16.syntax → SamePasses fit_nine (SameState g.shapes) (KeptAlike g) (HeldAlike g) (machine14 c14) (machine16 c16)
passes_alike g c14 c16 blocks stays types = record {
  nothing = λ s t same. (nothing_kept g c14.decls c16.syntax types.shown types.zeros, same);
  ingress = λ s t i j same items. ingress_alike g c14 c16 blocks stays types s t same i j items;
  reparse = λ s t i j same items. reparse_alike g c14 c16 blocks stays types s t same i j items;
  egress = λ s t h k port kind same held port_fits kind_fits. egress_alike g c14 c16 blocks stays types s t same port kind port_fits kind_fits h k held;
}

pub events_alike : (g : StateLayout) → SameEvents (SameState g.shapes) events14 events_of
events_alike g s t same = sym same.events
