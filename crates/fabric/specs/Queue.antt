-- A queue of jobs, over any step (this project's own): what is taken from it, and what is left of it.
use Rattle.std.specs.Prelude.{ℕ, zero, suc, List, [], ◌∷◌, ◌++◌, length}
use Rattle.fabric.specs.declared.packets.Out.{Out}

-- what one step leaves: the state, the jobs that it queues in order, and the packets that it sends in order
pub record PassEnd (S J : Type 0) : Type 0 where
  pub state : S
  pub queued : List J
  pub sent : List Out

-- what a whole run leaves: the state, the packets that were sent in order, and how many jobs were cut
pub record Run (S : Type 0) : Type 0 where
  pub state : S
  pub sent : List Out
  pub cut : ℕ

-- a run in front of which these packets were sent
abbrev pub send_first : {S : Type 0} → List Out → Run S → Run S
send_first sent run = record { state = run.state; sent = sent ++ run.sent; cut = run.cut }

-- The run of a queue from a state on, with so many steps left. A step takes the first job, and what it queues stands
-- behind all that wait. The jobs that remain after the last step are cut.
unfoldable pub run : {S J : Type 0} → (S → J → PassEnd S J) → ℕ → S → List J → Run S
run step zero state jobs = record { state = state; sent = []; cut = length jobs }
run step (suc left) state [] = record { state = state; sent = []; cut = 0 }
run step (suc left) state (job ∷ jobs) =
    let ended = step state job in
    send_first ended.sent (run step left ended.state (jobs ++ ended.queued))
