-- Both programs send the same for any list of packets.
use Rattle.lower_laws_base.specs.Context.{StateLayout, Stored}
use Rattle.lower_laws_base.specs.Blocks.{BlocksAlike}
use Rattle.lower_laws_passes.specs.Preserving.{KeptAlike}
use Rattle.lower_laws_passes.specs.Types.{TypesAlike}
use Rattle.lower_laws_passes.specs.Held.{HeldAlike, SameState, PortStays, fit_nine}
use Rattle.lower_laws_passes.proofs.Passes.{passes_alike}
use Rattle.fabric.proofs.SameRuns.{same_fates_of}
use Rattle.std.proofs.Common.{◌≡◌, ℕ, List, All, refl, sym, ap, ap₂, ◌∙◌}
use Rattle.match_core.specs.declared.entries.Entries.{Entries}
use Rattle.match_core.specs.Stores.{first_store}
use Rattle.fabric.specs.declared.packets.Arrival.{Arrival}
use Rattle.fabric.specs.Fabric.{fabric_of}
use Rattle.fabric.specs.Twins.{FitsSession, FitsArrival}
use Rattle.p414_sem.specs.Signatures.{signature14}
use Rattle.p414_sem.specs.Controls.{Setting as Setting14}
use Rattle.p414_sem.specs.Runs.{machine14, before as before14, Run14}
use Rattle.v1_core.specs.Signatures.{signature16}
use Rattle.v1_core.specs.Surroundings.{Setting}
use Rattle.v1_core.specs.Runs.{machine16, before, Run16}

pub carries : (g : StateLayout) (c14 : Setting14) (c16 : Setting) → BlocksAlike g c14 c16 → PortStays c14 → TypesAlike g c14.decls c14.expanded c16.syntax → c16.entries ≡ c14.entries → Stored g.shapes (first_store (signature14 c14.decls) c14.entries) → signature16 c16.syntax ≡ signature14 c14.decls → All (FitsSession fit_nine) c14.entries.sessions → (bound : ℕ) (arrivals : List Arrival) → All (FitsArrival fit_nine) arrivals → ((Run14 c14 bound arrivals).sent ≡ (Run16 c16 bound arrivals).sent) × ((Run14 c14 bound arrivals).cut ≡ (Run16 c16 bound arrivals).cut) × ((Run16 c16 bound arrivals).state.store ≡ (Run14 c14 bound arrivals).state.store)
unfolding Run14 Run16
carries g c14 c16 blocks stays types entries stored signatures ports bound arrivals fit =
    let starts : SameState g.shapes (before14 c14) (before c16) = record { store = ap₂ first_store signatures entries; events = refl; stored = stored } in
    let done = same_fates_of (SameState g.shapes) (KeptAlike g) (HeldAlike g) fit_nine c14.entries.sessions ports (machine14 c14) (machine16 c16) (passes_alike g c14 c16 blocks stays types) (before14 c14) (before c16) starts bound arrivals fit in
    let same : (e : Entries) → e ≡ c14.entries → fabric_of (machine16 c16) c14.entries.sessions bound (before c16) arrivals ≡ fabric_of (machine16 c16) e.sessions bound (before c16) arrivals = λ e is. ap (λ (z : Entries). fabric_of (machine16 c16) z.sessions bound (before c16) arrivals) (sym is) in
    let here = same c16.entries entries in
    (done.0 ∙ ap (λ w. w.sent) here, done.1 ∙ ap (λ w. w.cut) here, ap (λ w. w.state.store) (sym here) ∙ done.2.store)
