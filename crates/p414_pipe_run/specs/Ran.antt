-- What a run of a program on a list of packets answers.
use Rattle.std.specs.Prelude.{◌≡◌, ◌%◌, ◌^◌}
use Rattle.fabric.specs.declared.packets.RunResult.{RunResult}
use Rattle.fabric.specs.Fabric.{Whole}
use Rattle.p414_sem.specs.Runs.{Between}

-- what was sent, the store that is left, and how many items were cut, modulo 2 ^ 64; no work is counted
pub record IsRun14 (due : Whole Between) (ran : RunResult) : Type 0 where
  pub sent : ran.sent ≡ due.sent
  pub store : ran.store ≡ due.state.store
  pub cut : ran.cut ≡ due.cut % 2 ^ 64
  pub work : ran.work ≡ 0
