-- That a program of P4_16 carries a program of P4_14: both do the same with every packet (this project's own).
use Rattle.std.specs.Prelude.{◌≡◌, ℕ, List, All}
use Rattle.state_store.specs.State.{Contents}
use Rattle.p416_syntax.specs.declared.program.Syntax16.{Syntax16}
use Rattle.match_core.specs.declared.entries.Entries.{Entries}
use Rattle.match_core.specs.Fits.{Fits}
use Rattle.fabric.specs.Numbers.{IsArrival, IsBound}
use Rattle.fabric.specs.declared.packets.Arrival.{Arrival}
use Rattle.p414_one_table.specs.declared.program.OneTable14.{OneTable14}
use Rattle.p4x_cmd.specs.Meaning14.{Run14, signature14}
use Rattle.p4x_cmd.specs.Meaning16.{Run16, signature16}
use Rattle.run_stream.specs.Runs.{Ran}

-- equal packets on equal ports in the same order, equal stores, equally many items cut
pub record SameRuns (a b : Ran Contents) : Type 0 where
  pub sent : a.sent ≡ b.sent
  pub store : a.store ≡ b.store
  pub cut : a.cut ≡ b.cut

-- The programs have one signature, and on all entries that fit it, under every bound on passes and for every list of
-- arrivals they do the same.
pub record Carries (p : OneTable14) (s : Syntax16) : Type 0 where
  pub signatures : signature14 p ≡ signature16 s
  pub runs : (entries : Entries) (bound : ℕ) (arrivals : List Arrival) → Fits entries (signature14 p) → IsBound bound
      → All IsArrival arrivals → SameRuns (Run14 p entries bound arrivals) (Run16 s entries bound arrivals)
