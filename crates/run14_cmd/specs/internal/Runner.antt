-- The program of a command as a runner of packets.
use Rattle.std.specs.Prelude.{ℕ, List, [], ◌≤◌}
use Rattle.std.proofs.Common.{arith, min}
use Rattle.state_store.specs.State.{Contents}
use Rattle.state_store.specs.declared.ports.Session.{Session}
use Rattle.match_core.specs.declared.signatures.Signature.{Signature}
use Rattle.fabric.specs.Fabric.{fabric}
use Rattle.fabric.specs.Numbers.{most_passes}
use Rattle.fabric.specs.Queue.{Run}
use Rattle.fabric.specs.declared.packets.Arrival.{Arrival}
use Rattle.fabric.proofs.QueueRuns.{few_fabric}
use Rattle.run_stream.specs.Runs.{Outcome, AreFew}
use Rattle.cell_lines.specs.Lines.{cell_lines}
use Rattle.p414_sem.specs.Controls.{Setting}
use Rattle.p414_sem.specs.Runs.{Between, machine14}

-- what a runner is set up with
pub record Running14 : Type 0 where
  pub program : Setting
  pub signature : Signature
  pub sessions : List Session
  pub bound : ℕ

-- no table was applied since a packet came in
abbrev pub fresh : Contents → Between
fresh store = record { store = store; events = [] }

-- the bound on passes; one past the greatest counts as that
abbrev pub bound_of : Running14 → ℕ
bound_of r = min r.bound most_passes

-- what comes of a packet
abbrev pub outcome_of : Run Between → Outcome Contents
outcome_of fate = record { sent = fate.sent; store = fate.state.store; cut = fate.cut; work = 0 }

unfoldable pub outcome14 : Running14 → Contents → Arrival → Outcome Contents
outcome14 r store a = outcome_of (fabric (machine14 r.program) r.sessions (bound_of r) (fresh store) a)

-- the lines of its counters and registers
abbrev pub lines14 : Running14 → Contents → ℕ → List ℕ
lines14 r store work = cell_lines r.signature store

-- a pass sends one packet at most
pub are_few : (r : Running14) → AreFew (outcome14 r)
unfolding outcome14
are_few r store a =
    let few = (few_fabric (machine14 r.program) r.sessions (bound_of r) (fresh store) a).0 in
    let bound : bound_of r ≤ 65536 = omega arith in
    omega (arith, few, bound)
