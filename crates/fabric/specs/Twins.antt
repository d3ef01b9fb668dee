-- Two machines whose steps correspond, and what this comes to for packets that come in.
use Rattle.std.specs.Prelude.{◌≡◌, ℕ, ◌<◌, ◌^◌, List, Option, Some, None, All}
use Rattle.p4x_bits.specs.BitLists.{IsOctets}
use Rattle.state_store.specs.declared.ports.Session.{Session}
use Rattle.state_store.specs.Ports.{IsPort}
use Rattle.fabric.specs.declared.packets.Arrival.{Arrival}
use Rattle.fabric.specs.declared.items.Item.{Item}
use Rattle.fabric.specs.declared.items.IngressEnd.{IngressEnd}
use Rattle.fabric.specs.declared.items.IngressNext.{IngressNext}
use Rattle.fabric.specs.declared.items.IngressNext.TheVariants as ingress
use Rattle.fabric.specs.declared.items.EgressEnd.{EgressEnd}
use Rattle.fabric.specs.declared.items.EgressNext.{EgressNext}
use Rattle.fabric.specs.declared.items.EgressNext.TheVariants as egress
use Rattle.fabric.specs.Queue.{Run}
use Rattle.fabric.specs.Fabric.{Machine, Whole, fabric_of}

-- which octets and ports are meant
pub record Fit : Type 1 where
  pub octets : List ℕ → Type 0
  pub port : ℕ → Type 0

-- octets whose numbers are those of octets, and ports that packets come in on and leave on
abbrev pub fit_packets : Fit
fit_packets = record { octets = IsOctets; port = IsPort }

-- all
abbrev pub fit_any : Fit
fit_any = record { octets = λ _. Unit {0}; port = λ _. Unit {0} }

abbrev pub FitsArrival : Fit → Arrival → Type 0
FitsArrival fit arrival = fit.octets arrival.octets × fit.port arrival.port

abbrev pub FitsSession : Fit → Session → Type 0
FitsSession fit session = fit.port session.port

-- items with equal octets, port and kind, which fit, and preserved values that correspond
pub record AlikeItem {Q R : Type 0} (fit : Fit) (kept : Q → R → Type 0) (i : Item Q) (j : Item R) : Type 0 where
  pub octets : i.octets ≡ j.octets
  pub port : i.port ≡ j.port
  pub instance : i.instance ≡ j.instance
  pub preserved : kept i.kept j.kept
  pub fits_octets : fit.octets i.octets
  pub fits_port : fit.port i.port
  pub fits_instance : i.instance < 2 ^ 32

-- requests of a clone with one session, or none in either
abbrev pub AlikeClone : {X Y : Type 0} → (X → Y → Type 0) → Option (ℕ × X) → Option (ℕ × Y) → Type 0
AlikeClone same None None = Unit {0}
AlikeClone same (Some x) (Some y) = (x.0 ≡ y.0) × same x.1 y.1
AlikeClone same _ _ = ⊥

-- one way after ingress, with one port, and values that correspond
abbrev pub AlikeIngressNext : {Q R H K : Type 0} → Fit → (Q → R → Type 0) → (H → K → Type 0) → IngressNext Q H → IngressNext R K → Type 0
AlikeIngressNext fit kept held (ingress.Resubmit q) (ingress.Resubmit r) = kept q r
AlikeIngressNext fit kept held ingress.Drop ingress.Drop = Unit {0}
AlikeIngressNext fit kept held (ingress.Go p h) (ingress.Go o k) = (p ≡ o) × fit.port p × held h k
AlikeIngressNext fit kept held _ _ = ⊥

-- ends of ingress that correspond
abbrev pub AlikeIngress : {Q R H K : Type 0} → Fit → (Q → R → Type 0) → (H → K → Type 0) → IngressEnd Q H → IngressEnd R K → Type 0
AlikeIngress fit kept held d e = AlikeClone kept d.clone e.clone × AlikeIngressNext fit kept held d.next e.next

-- one way after egress, with the same octets, and values that correspond
abbrev pub AlikeEgressNext : {Q R : Type 0} → Fit → (Q → R → Type 0) → EgressNext Q → EgressNext R → Type 0
AlikeEgressNext fit kept egress.Drop egress.Drop = Unit {0}
AlikeEgressNext fit kept (egress.Recirculate a q) (egress.Recirculate b r) = (a ≡ b) × fit.octets a × kept q r
AlikeEgressNext fit kept (egress.Send a) (egress.Send b) = a ≡ b
AlikeEgressNext fit kept _ _ = ⊥

-- ends of egress that correspond
abbrev pub AlikeEgress : {Q R H K : Type 0} → Fit → (Q → R → Type 0) → (H → K → Type 0) → EgressEnd Q H → EgressEnd R K → Type 0
AlikeEgress fit kept held d e = AlikeClone held d.clone e.clone × AlikeEgressNext fit kept d.end e.end

-- The steps of two machines correspond: from states that correspond, with arguments that correspond, each call of the
-- one and the same call of the other give answers and states that correspond.
pub record SamePasses {S T Q R H K : Type 0} (fit : Fit) (state : S → T → Type 0) (kept : Q → R → Type 0) (held : H → K → Type 0) (a : Machine S Q H) (b : Machine T R K) : Type 0 where
  pub nothing :
      (s : S) (t : T) → state s t →
      kept (a.nothing s).0 (b.nothing t).0 × state (a.nothing s).1 (b.nothing t).1
  pub ingress :
      (s : S) (t : T) (i : Item Q) (j : Item R) → state s t → AlikeItem fit kept i j →
      AlikeIngress fit kept held (a.ingress s i).0 (b.ingress t j).0 × state (a.ingress s i).1 (b.ingress t j).1
  pub reparse :
      (s : S) (t : T) (i : Item Q) (j : Item R) → state s t → AlikeItem fit kept i j →
      held (a.reparse s i).0 (b.reparse t j).0 × state (a.reparse s i).1 (b.reparse t j).1
  pub egress :
      (s : S) (t : T) (h : H) (k : K) (port instance : ℕ) → state s t → held h k → fit.port port → instance < 2 ^ 32 →
      AlikeEgress fit kept held (a.egress s h port instance).0 (b.egress t k port instance).0
      × state (a.egress s h port instance).1 (b.egress t k port instance).1

-- the same was sent and as many were cut, and the states correspond
abbrev pub AlikeRun : {S T : Type 0} → (S → T → Type 0) → Run S → Run T → Type 0
AlikeRun state x y = (x.sent ≡ y.sent) × (x.cut ≡ y.cut) × state x.state y.state

abbrev pub AlikeWhole : {S T : Type 0} → (S → T → Type 0) → Whole S → Whole T → Type 0
AlikeWhole state x y = (x.sent ≡ y.sent) × (x.cut ≡ y.cut) × state x.state y.state

-- So it is over every bound and every list of arrivals that fit.
abbrev pub SameFates : {S T Q R H K : Type 0} → Fit → (S → T → Type 0) → List Session → Machine S Q H → Machine T R K → S → T → Type 0
SameFates fit state sessions a b s t =
    (bound : ℕ) (arrivals : List Arrival) → All (FitsArrival fit) arrivals →
    AlikeWhole state (fabric_of a sessions bound s arrivals) (fabric_of b sessions bound t arrivals)
