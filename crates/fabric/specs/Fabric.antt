-- The fabric (this project's own): what becomes of packets that come in, over any four functions of the form of
-- `Passes`. P4_14 1.0.5, "Clone", "Resubmit" and "Recirculate", and v1model.p4 name what makes further items; their
-- order, the kinds and the bound are this project's own.
use Rattle.std.specs.Prelude.{ℕ, ◌+◌, ◌==◌, if◌then◌else◌, List, [], ◌∷◌, ◌++◌, map, Option, Some, None}
use Rattle.state_store.specs.declared.ports.Session.{Session}
use Rattle.fabric.specs.declared.packets.Arrival.{Arrival}
use Rattle.fabric.specs.declared.packets.Out.{Out}
use Rattle.fabric.specs.declared.packets.Sent.{Sent}
use Rattle.fabric.specs.declared.items.Item.{Item}
use Rattle.fabric.specs.declared.items.Job.{Job}
use Rattle.fabric.specs.declared.items.Job.TheVariants.{Ordinary, IngressClone, EgressClone}
use Rattle.fabric.specs.declared.items.IngressEnd.{IngressEnd}
use Rattle.fabric.specs.declared.items.IngressNext.{IngressNext}
use Rattle.fabric.specs.declared.items.IngressNext.TheVariants as ingress
use Rattle.fabric.specs.declared.items.EgressEnd.{EgressEnd}
use Rattle.fabric.specs.declared.items.EgressNext.{EgressNext}
use Rattle.fabric.specs.declared.items.EgressNext.TheVariants as egress
use Rattle.fabric.specs.Queue.{PassEnd, Run, run}

-- What the calls of a runner mean: four functions, each from a state and its arguments to an answer and a state. Q is
-- what is preserved of metadata, and H what is held of a packet between ingress and egress.
pub record Machine (S Q H : Type 0) : Type 0 where
  -- what is preserved for a packet that comes in
  pub nothing : S → Q × S
  -- parsing, verification and ingress of an item
  pub ingress : S → Item Q → IngressEnd Q H × S
  -- parsing alone, of a clone made at the end of ingress
  pub reparse : S → Item Q → H × S
  -- egress of what is held, on this port and of this kind, and then update and deparsing
  pub egress : S → H → ℕ → ℕ → EgressEnd Q H × S

-- an item of these octets, with this port of arrival, of this kind
abbrev pub item : {Q : Type 0} → List ℕ → ℕ → ℕ → Q → Item Q
item octets port instance kept = record { octets = octets; port = port; instance = instance; kept = kept }

-- the port of the session of this number, none exactly where no session has it
abbrev pub port_of : List Session → ℕ → Option ℕ
port_of [] number = None
port_of (session ∷ sessions) number = if session.number == number then Some session.port else port_of sessions number

-- what is cloned goes to this port, if there is one
abbrev pub cloned_to : {X : Type 0} → X → Option ℕ → Option (ℕ × X)
cloned_to what None = None
cloned_to what (Some port) = Some (port, what)

-- The clone that is made of a request, which names a session: the session's port, and what is cloned. No clone is made
-- where none was asked for, and where the session is unknown.
abbrev pub clone_of : {X : Type 0} → List Session → Option (ℕ × X) → Option (ℕ × X)
clone_of sessions None = None
clone_of sessions (Some asked) = cloned_to asked.1 (port_of sessions asked.0)

-- A clone made at the end of ingress, of kind 1: the octets as they came into the pass. Its pass parses them again and
-- goes to egress on the session's port.
abbrev pub ingress_clones : {Q H : Type 0} → List ℕ → ℕ → Option (ℕ × Q) → List (Job Q H)
ingress_clones octets from None = []
ingress_clones octets from (Some clone) = IngressClone clone.0 (item octets from 1 clone.1) ∷ []

-- A clone made at the end of egress: the packet as egress left it. Its pass is egress alone, on the session's port.
abbrev pub egress_clones : {Q H : Type 0} → Option (ℕ × H) → List (Job Q H)
egress_clones None = []
egress_clones (Some clone) = EgressClone clone.0 clone.1 ∷ []

-- a resubmitted packet, of kind 6: the octets as they came into the pass, which take another one
abbrev pub resubmitted : {Q H : Type 0} → List ℕ → ℕ → Q → Job Q H
resubmitted octets from kept = Ordinary (item octets from 6 kept)

-- a recirculated packet, of kind 4: the octets as they were put together, which take another pass
abbrev pub recirculated : {Q H : Type 0} → List ℕ → ℕ → Q → Job Q H
recirculated octets from kept = Ordinary (item octets from 4 kept)

-- what is queued behind the clone after egress
abbrev pub queued_again : {Q H : Type 0} → ℕ → EgressNext Q → List (Job Q H)
queued_again from egress.Drop = []
queued_again from (egress.Recirculate octets kept) = recirculated octets from kept ∷ []
queued_again from (egress.Send octets) = []

-- what is sent after egress, on the port of egress
abbrev pub sent_by : {Q : Type 0} → ℕ → EgressNext Q → List Out
sent_by port egress.Drop = []
sent_by port (egress.Recirculate octets kept) = []
sent_by port (egress.Send octets) = record { port = port; octets = octets } ∷ []

-- After egress, in this order: the clone is queued, if one was asked for, and then the packet is dropped, queued
-- again or sent.
abbrev pub after_egress : {S Q H : Type 0} → List Session → ℕ → ℕ → EgressEnd Q H × S → PassEnd S (Job Q H)
after_egress sessions from port ended =
    record {
      state = ended.1;
      queued = egress_clones (clone_of sessions ended.0.clone) ++ queued_again from ended.0.end;
      sent = sent_by port ended.0.end;
    }

-- what becomes of the item itself after ingress: another pass, an end, or egress on a port
abbrev pub after_ingress : {S Q H : Type 0} → Machine S Q H → List Session → ℕ → Item Q → S → IngressNext Q H → PassEnd S (Job Q H)
after_ingress machine sessions from came state (ingress.Resubmit kept) =
    record { state = state; queued = resubmitted came.octets from kept ∷ []; sent = [] }
after_ingress machine sessions from came state ingress.Drop = record { state = state; queued = []; sent = [] }
after_ingress machine sessions from came state (ingress.Go port held) =
    after_egress sessions from port (machine.egress state held port came.instance)

-- a pass in front of which these were queued
abbrev pub queue_first : {S J : Type 0} → List J → PassEnd S J → PassEnd S J
queue_first jobs ended = record { state = ended.state; queued = jobs ++ ended.queued; sent = ended.sent }

-- One pass of a packet that came in on the port `from`, by what is taken from the queue. After ingress the clone is
-- queued, if one was asked for, before anything else comes of the item.
abbrev pub pass : {S Q H : Type 0} → Machine S Q H → List Session → ℕ → S → Job Q H → PassEnd S (Job Q H)
pass machine sessions from state (Ordinary came) =
    let ended = machine.ingress state came in
    queue_first (ingress_clones came.octets from (clone_of sessions ended.0.clone))
    (after_ingress machine sessions from came ended.1 ended.0.next)
pass machine sessions from state (IngressClone port came) =
    let held = machine.reparse state came in
    after_egress sessions from port (machine.egress held.1 held.0 port came.instance)
pass machine sessions from state (EgressClone port held) =
    after_egress sessions from port (machine.egress state held port 2)

-- The fate of one packet, with at most `bound` passes. It is the first item of its queue, of kind 0, with nothing
-- preserved.
abbrev pub fabric : {S Q H : Type 0} → Machine S Q H → List Session → ℕ → S → Arrival → Run S
fabric machine sessions bound state arrival =
    let kept = machine.nothing state in
    run (pass machine sessions arrival.port) bound kept.1
    (Ordinary (item arrival.octets arrival.port 0 kept.0) ∷ [])

-- What a list of arrivals leaves: the state, the packets that were sent, each with the number of the arrival that it
-- came from, and how many items were cut.
pub record Whole (S : Type 0) : Type 0 where
  pub state : S
  pub sent : List Sent
  pub cut : ℕ

-- a packet that was sent, with the number of the arrival that it came from
abbrev pub numbered : ℕ → Out → Sent
numbered number out = record { arrival = number; port = out.port; octets = out.octets }

-- the fate of the arrival of this number
abbrev pub one_of : {S : Type 0} → ℕ → Run S → Whole S
one_of number fate = record { state = fate.state; sent = map (numbered number) fate.sent; cut = fate.cut }

-- one list of arrivals, and another behind it
abbrev pub followed : {S : Type 0} → Whole S → Whole S → Whole S
followed first rest = record { state = rest.state; sent = first.sent ++ rest.sent; cut = first.cut + rest.cut }

-- What a list of arrivals leaves that are numbered from a number on: each finds the state as the one before it left
-- it.
abbrev pub fabric_from : {S Q H : Type 0} → Machine S Q H → List Session → ℕ → ℕ → S → List Arrival → Whole S
fabric_from machine sessions bound number state [] = record { state = state; sent = []; cut = 0 }
fabric_from machine sessions bound number state (arrival ∷ arrivals) =
    let fate = fabric machine sessions bound state arrival in
    followed (one_of number fate) (fabric_from machine sessions bound (number + 1) fate.state arrivals)

-- the same with numbers from 0 on
abbrev pub fabric_of : {S Q H : Type 0} → Machine S Q H → List Session → ℕ → S → List Arrival → Whole S
fabric_of machine sessions bound state arrivals = fabric_from machine sessions bound 0 state arrivals

-- the number of the arrival raised by so much
abbrev pub renumbered : ℕ → Sent → Sent
renumbered by sent = record { arrival = by + sent.arrival; port = sent.port; octets = sent.octets }

-- the numbers of all arrivals raised by so much
abbrev pub raised : {S : Type 0} → ℕ → Whole S → Whole S
raised by whole = record { state = whole.state; sent = map (renumbered by) whole.sent; cut = whole.cut }
