-- The laws that shards rest on: what the runs of two lists of arrivals come to together, and what a run leaves (this project's own).
use Rattle.std.specs.Prelude.{◌≡◌, ℕ, ◌+◌, ◌%◌, ◌^◌, ◌<◌, true, List, ◌++◌, length, map, All}
use Rattle.state_store.specs.State.{sum_of_stores}
use Rattle.match_core.specs.Stores.{IsStoreOf}
use Rattle.fabric.specs.declared.packets.Arrival.{Arrival}
use Rattle.fabric.specs.declared.packets.Sent.{Sent}
use Rattle.fabric.specs.Fabric.{Whole, renumbered}
use Rattle.v1_core.specs.Signatures.{signature16}
use Rattle.v1_core.specs.Surroundings.{Setting}
use Rattle.v1_core.specs.Passes.{Between}
use Rattle.v1_core.specs.Runs.{Run16}
use Rattle.shard_laws.specs.Programs.{shardable}

-- A run is two runs joined, each of which began with all counts 0: the arrival numbers of the second are raised by so much, the
-- counts are added cell by cell and the counts of work in all, both modulo 2 ^ 64, and so many items are cut as by both.
pub record Joins (by : ℕ) (first second whole : Whole Between) : Type 0 where
  pub sent : whole.sent ≡ first.sent ++ map (renumbered by) second.sent
  pub cut : whole.cut ≡ first.cut + second.cut
  pub store : whole.state.store ≡ sum_of_stores first.state.store second.state.store
  pub work : whole.state.work ≡ (first.state.work + second.state.work) % 2 ^ 64

-- of a program without registers and meters the run over two lists of arrivals, one behind the other, is their runs joined
abbrev pub ShardsJoin : Type 0
ShardsJoin =
    (c : Setting) (bound : ℕ) (some more : List Arrival) → shardable c.syntax ≡ true →
    Joins (length some) (Run16 c bound some) (Run16 c bound more) (Run16 c bound (some ++ more))

-- Such a run leaves a store of the objects of the program, as its entries size them, and a count of work of 64 bits.
abbrev pub ShardsLeave : Type 0
ShardsLeave =
    (c : Setting) (bound : ℕ) (arrivals : List Arrival) → shardable c.syntax ≡ true →
    IsStoreOf (signature16 c.syntax) c.entries (Run16 c bound arrivals).state.store × ((Run16 c bound arrivals).state.work < 2 ^ 64)

-- a packet that was sent comes from one of so many arrivals
abbrev pub IsOneOf : ℕ → Sent → Type 0
IsOneOf count sent = sent.arrival < count

-- The numbers of the arrivals among what any program sends are those of its arrivals.
abbrev pub ArrivalsAreNumbered : Type 0
ArrivalsAreNumbered =
    (c : Setting) (bound : ℕ) (arrivals : List Arrival) → All (IsOneOf (length arrivals)) (Run16 c bound arrivals).sent
