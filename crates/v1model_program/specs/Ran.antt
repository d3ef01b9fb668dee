-- What a run of a program on a list of packets answers.
use Rattle.std.specs.Prelude.{◌≡◌, ℕ, ◌%◌, ◌^◌, List}
use Rattle.fabric.specs.declared.packets.Arrival.{Arrival}
use Rattle.fabric.specs.declared.packets.RunResult.{RunResult}
use Rattle.v1_core.specs.Surroundings.{Setting}
use Rattle.v1_core.specs.Runs.{Run16, Work16}

-- what was sent, the store that is left, how many items were cut, modulo 2 ^ 64, and how many statements and transitions began
pub record IsRun16 (c : Setting) (bound : ℕ) (arrivals : List Arrival) (ran : RunResult) : Type 0 where
  pub sent : ran.sent ≡ (Run16 c bound arrivals).sent
  pub store : ran.store ≡ (Run16 c bound arrivals).state.store
  pub cut : ran.cut ≡ (Run16 c bound arrivals).cut % 2 ^ 64
  pub work : ran.work ≡ Work16 c bound arrivals
