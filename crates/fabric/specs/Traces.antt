-- What can be told of a packet's passes: the calls in order, each with its events, the session of a clone that it
-- asked for, and the way of the packet.
use Rattle.std.specs.Prelude.{◌≡◌, ℕ, List, [], ◌∷◌, ◌++◌, Option, Some, None, All}
use Rattle.state_store.specs.declared.ports.Session.{Session}
use Rattle.fabric.specs.declared.packets.Arrival.{Arrival}
use Rattle.fabric.specs.declared.items.Event.{Event}
use Rattle.fabric.specs.declared.items.IngressEnd.{IngressEnd}
use Rattle.fabric.specs.declared.items.IngressNext.{IngressNext}
use Rattle.fabric.specs.declared.items.IngressNext.TheVariants as ingress
use Rattle.fabric.specs.declared.items.EgressEnd.{EgressEnd}
use Rattle.fabric.specs.declared.items.EgressNext.{EgressNext}
use Rattle.fabric.specs.declared.items.EgressNext.TheVariants as egress
use Rattle.fabric.specs.Fabric.{Machine, fabric}
use Rattle.fabric.specs.Twins.{Fit, FitsArrival}

-- a clone's session, without what is cloned
abbrev pub clone_told : {X : Type 0} → Option (ℕ × X) → Option (ℕ × Unit {0})
clone_told None = None
clone_told (Some asked) = Some (asked.0, tt)

-- the way after ingress, without what is preserved or held
abbrev pub way_told : {Q H : Type 0} → IngressNext Q H → IngressNext (Unit {0}) (Unit {0})
way_told (ingress.Resubmit kept) = ingress.Resubmit tt
way_told ingress.Drop = ingress.Drop
way_told (ingress.Go port held) = ingress.Go port tt

-- the way after egress, without what is preserved
abbrev pub end_told : {Q : Type 0} → EgressNext Q → EgressNext (Unit {0})
end_told egress.Drop = egress.Drop
end_told (egress.Recirculate octets kept) = egress.Recirculate octets tt
end_told (egress.Send octets) = egress.Send octets

abbrev pub ingress_told : {Q H : Type 0} → IngressEnd Q H → IngressEnd (Unit {0}) (Unit {0})
ingress_told ended = record { clone = clone_told ended.clone; next = way_told ended.next }

abbrev pub egress_told : {Q H : Type 0} → EgressEnd Q H → EgressEnd (Unit {0}) (Unit {0})
egress_told ended = record { clone = clone_told ended.clone; end = end_told ended.end }

-- one call of the passes: what it was told of the item, its events, and how it ended
pub data Call : Type 0 where
  Ingress : (instance : ℕ) (events : List Event) (ended : IngressEnd (Unit {0}) (Unit {0})) → Call
  Reparse : (instance : ℕ) (events : List Event) → Call
  Egress : (port instance : ℕ) (events : List Event) (ended : EgressEnd (Unit {0}) (Unit {0})) → Call

-- The machine that also keeps a list of its calls. `events` tells the events of the last call from the state that it
-- left.
abbrev pub traced : {S Q H : Type 0} → (S → List Event) → Machine S Q H → Machine (S × List Call) Q H
traced events machine =
    record {
      nothing = λ old. let kept = machine.nothing old.0 in (kept.0, (kept.1, old.1));
      ingress = λ old came.
          let ended = machine.ingress old.0 came in
          (ended.0, (ended.1, old.1 ++ Ingress came.instance (events ended.1) (ingress_told ended.0) ∷ []));
      reparse = λ old came.
          let held = machine.reparse old.0 came in
          (held.0, (held.1, old.1 ++ Reparse came.instance (events held.1) ∷ []));
      egress = λ old held port instance.
          let ended = machine.egress old.0 held port instance in
          (ended.0, (ended.1, old.1 ++ Egress port instance (events ended.1) (egress_told ended.0) ∷ []));
    }

-- the trace of one packet: its calls, and how many of its items were cut
pub record Trace : Type 0 where
  pub calls : List Call
  pub cut : ℕ

abbrev pub trace : {S Q H : Type 0} → (S → List Event) → Machine S Q H → List Session → ℕ → S → Arrival → Trace
trace events machine sessions bound state arrival =
    let ran = fabric (traced events machine) sessions bound (state, []) arrival in
    record { calls = ran.state.1; cut = ran.cut }

-- the traces of packets that come in one after another
abbrev pub traces : {S Q H : Type 0} → (S → List Event) → Machine S Q H → List Session → ℕ → S → List Arrival → List Trace
traces events machine sessions bound state [] = []
traces events machine sessions bound state (arrival ∷ arrivals) =
    trace events machine sessions bound state arrival
    ∷ traces events machine sessions bound (fabric machine sessions bound state arrival).state arrivals

-- states that correspond tell the same events
abbrev pub SameEvents : {S T : Type 0} → (S → T → Type 0) → (S → List Event) → (T → List Event) → Type 0
SameEvents {S} {T} state events others = (s : S) (t : T) → state s t → events s ≡ others t

-- The traces are equal over every bound and every list of arrivals that fit.
abbrev pub SameTraces : {S T Q R H K : Type 0} → Fit → List Session → (S → List Event) → (T → List Event) → Machine S Q H → Machine T R K → S → T → Type 0
SameTraces fit sessions events others a b s t =
    (bound : ℕ) (arrivals : List Arrival) → All (FitsArrival fit) arrivals →
    traces events a sessions bound s arrivals ≡ traces others b sessions bound t arrivals
