-- What the calls of `Passes` need and give.
use Rattle.std.specs.Prelude.{ℕ, Option, Some, None}
use Rattle.state_store.specs.Ports.{IsPort}
use Rattle.fabric.specs.declared.items.Item.{Item}
use Rattle.fabric.specs.declared.items.IngressEnd.{IngressEnd}
use Rattle.fabric.specs.declared.items.IngressNext.{IngressNext}
use Rattle.fabric.specs.declared.items.IngressNext.TheVariants as ingress
use Rattle.fabric.specs.declared.items.EgressEnd.{EgressEnd}
use Rattle.fabric.specs.declared.items.EgressNext.{EgressNext}
use Rattle.fabric.specs.declared.items.EgressNext.TheVariants as egress

-- which preserved and which held values are a runner's own
pub record Own (Q H : Type 0) : Type 1 where
  pub kept : Q → Type 0
  pub held : H → Type 0

-- any values
abbrev pub own_any : {Q H : Type 0} → Own Q H
own_any = record { kept = λ _. Unit {0}; held = λ _. Unit {0} }

-- an item that came in on a port, with what is preserved of the runner's own
abbrev pub IsOwnItem : {Q H : Type 0} → Own Q H → Item Q → Type 0
IsOwnItem own came = IsPort came.port × own.kept came.kept

-- what a clone that was asked for carries is the runner's own
abbrev pub IsOwnClone : {X : Type 0} → (X → Type 0) → Option (ℕ × X) → Type 0
IsOwnClone own None = Unit {0}
IsOwnClone own (Some asked) = own asked.1

-- what is preserved or held after ingress is the runner's own, and egress is on a port
abbrev pub IsOwnIngressNext : {Q H : Type 0} → Own Q H → IngressNext Q H → Type 0
IsOwnIngressNext own (ingress.Resubmit kept) = own.kept kept
IsOwnIngressNext own ingress.Drop = Unit {0}
IsOwnIngressNext own (ingress.Go port held) = IsPort port × own.held held

-- all that ingress gives is the runner's own
abbrev pub IsOwnIngress : {Q H : Type 0} → Own Q H → IngressEnd Q H → Type 0
IsOwnIngress own ended = IsOwnClone own.kept ended.clone × IsOwnIngressNext own ended.next

-- what is preserved after egress is the runner's own
abbrev pub IsOwnEgressNext : {Q H : Type 0} → Own Q H → EgressNext Q → Type 0
IsOwnEgressNext own egress.Drop = Unit {0}
IsOwnEgressNext own (egress.Recirculate octets kept) = own.kept kept
IsOwnEgressNext own (egress.Send octets) = Unit {0}

-- all that egress gives is the runner's own
abbrev pub IsOwnEgress : {Q H : Type 0} → Own Q H → EgressEnd Q H → Type 0
IsOwnEgress own ended = IsOwnClone own.held ended.clone × IsOwnEgressNext own ended.end
