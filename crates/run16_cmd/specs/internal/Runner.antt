-- The program of a command as a runner of packets (this project's own).
use Rattle.std.specs.Prelude.{ℕ, List, ◌++◌, ◌≤◌}
use Rattle.std.proofs.Common.{arith, min}
use Rattle.state_store.specs.declared.ports.Session.{Session}
use Rattle.match_core.specs.declared.signatures.Signature.{Signature}
use Rattle.fabric.specs.Fabric.{fabric}
use Rattle.fabric.specs.Numbers.{most_passes}
use Rattle.fabric.specs.Queue.{Run}
use Rattle.fabric.specs.declared.packets.Arrival.{Arrival}
use Rattle.fabric.proofs.QueueRuns.{few_fabric}
use Rattle.run_stream.specs.Reports.{work_line}
use Rattle.run_stream.specs.Runs.{Outcome, AreFew}
use Rattle.cell_lines.specs.Lines.{cell_lines}
use Rattle.v1_core.specs.Surroundings.{Setting}
use Rattle.v1_core.specs.Passes.{Between}
use Rattle.v1_core.specs.Runs.{machine16}

-- what a runner is set up with
pub record Running16 : Type 0 where
  pub program : Setting
  pub signature : Signature
  pub sessions : List Session
  pub bound : ℕ

-- the bound on passes; one past the greatest counts as that
abbrev pub bound_of : Running16 → ℕ
bound_of r = min r.bound most_passes

-- What comes of a packet. The count of work stands with the store.
abbrev pub outcome_of : Run Between → Outcome Between
outcome_of fate = record { sent = fate.sent; store = fate.state; cut = fate.cut; work = 0 }

unfoldable pub outcome16 : Running16 → Between → Arrival → Outcome Between
outcome16 r before a = outcome_of (fabric (machine16 r.program) r.sessions (bound_of r) before a)

-- the lines of its counters and registers, and that of its work
abbrev pub lines16 : Running16 → Between → ℕ → List ℕ
lines16 r left none = cell_lines r.signature left.store ++ work_line left.work

-- a pass sends one packet at most
pub are_few : (r : Running16) → AreFew (outcome16 r)
unfolding outcome16
are_few r before a =
    let few = (few_fabric (machine16 r.program) r.sessions (bound_of r) before a).0 in
    let bound : bound_of r ≤ 65536 = omega arith in
    omega (arith, few, bound)
