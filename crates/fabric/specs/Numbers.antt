-- The bound on passes (this project's own), and what the numbers of a packet are that comes in.
use Rattle.std.specs.Prelude.{ℕ, ◌<◌, ◌≤◌, ◌^◌}
use Rattle.p4x_bits.specs.BitLists.{IsOctets}
use Rattle.state_store.specs.Ports.{IsPort}
use Rattle.fabric.specs.declared.packets.Arrival.{Arrival}

-- how many passes a packet and all that comes of it may make at most, whatever bound is asked for
abbrev pub most_passes : ℕ
most_passes = 65536

-- a bound on the passes that a packet and all that comes of it may make
abbrev pub IsBound : ℕ → Type 0
IsBound passes = (1 ≤ passes) × (passes ≤ most_passes)

-- a packet as it comes in: each of its numbers fits the type that carries it, and it has a port that packets come in on
pub record IsArrival (arrival : Arrival) : Type 0 where
  pub octets : IsOctets arrival.octets
  pub port : IsPort arrival.port
  pub seconds : arrival.seconds < 2 ^ 32
  pub fraction : arrival.fraction < 2 ^ 32

-- it has a port that packets come in on
abbrev pub HasPort : Arrival → Type 0
HasPort arrival = IsPort arrival.port
