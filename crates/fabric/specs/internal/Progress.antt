-- What a pass does to the queue and to what was sent.
use Rattle.std.specs.Prelude.{◌≡◌, ◌++◌, length}
use Rattle.std.specs.List.{AllByRecursion}
use Rattle.state_store.specs.Ports.{IsPort}
use Rattle.fabric.specs.declared.items.Job.{Job}
use Rattle.fabric.specs.declared.items.Job.TheVariants.{Ordinary, IngressClone, EgressClone}
use Rattle.fabric.specs.declared.fates.Progress.{Progress}
use Rattle.fabric.specs.Queue.{PassEnd, Run}
use Rattle.fabric.specs.Owned.{Own, IsOwnItem}

-- what waits has a port and carries what is the runner's own
abbrev pub IsOwnJob : {Q H : Type 0} → Own Q H → Job Q H → Type 0
IsOwnJob own (Ordinary came) = IsOwnItem own came
IsOwnJob own (IngressClone port came) = IsPort port × IsOwnItem own came
IsOwnJob own (EgressClone port held) = IsPort port × own.held held

-- a pass that ended so: the state that it left, what it queued, what it sent, and that what it queued is the runner's
-- own
pub record Leaves {S J : Type 0} (is_own : J → Type 0) (ended : PassEnd S J) (left : S) (before after : Progress J) : Type 0 where
  pub state : left ≡ ended.state
  pub queued : after.queue ≡ before.queue ++ ended.queued
  pub sent : after.sent ≡ before.sent ++ ended.sent
  pub owned : AllByRecursion is_own ended.queued

-- what a run left that ends here: what still waits is cut
abbrev pub left_at : {S J : Type 0} → S → Progress J → Run S
left_at state progress = record { state = state; sent = progress.sent; cut = length progress.queue }
