-- The steps of the two small machines correspond.
use Rattle.std.proofs.Common.{◌≡◌, ℕ, List, [], ◌∷◌, Option, Some, None, refl, ap, ◌∙◌, subst}
use Rattle.fabric.specs.declared.items.Event.{Event}
use Rattle.fabric.specs.declared.items.Item.{Item}
use Rattle.fabric.specs.declared.items.IngressNext.{IngressNext}
use Rattle.fabric.specs.declared.items.IngressNext.TheVariants as ingress
use Rattle.fabric.specs.declared.items.EgressNext.{EgressNext}
use Rattle.fabric.specs.declared.items.EgressNext.TheVariants as egress
use Rattle.fabric.specs.Twins.{SamePasses, AlikeItem, AlikeClone, AlikeIngressNext, AlikeIngress, AlikeEgressNext, AlikeEgress, fit_any}
use Rattle.fabric.specs.Traces.{SameEvents}
use Rattle.base_examples.specs.Steps.{ingress_end, egress_end, applied}
use Rattle.base_examples.specs.Machines.{bare, counting}

abbrev pub Is : {X : Type 0} → X → X → Type 0
Is x y = x ≡ y

-- the events of the last call are the same, whatever was counted
abbrev pub SameState : List Event → ℕ × List Event → Type 0
SameState s t = s ≡ t.1

clone_alike : {X : Type 0} (x : Option (ℕ × X)) → AlikeClone Is x x
clone_alike None = tt
clone_alike (Some x) = (refl, refl)

next_alike : (x : IngressNext ℕ (List ℕ)) → AlikeIngressNext fit_any Is Is x x
next_alike (ingress.Resubmit kept) = refl
next_alike ingress.Drop = tt
next_alike (ingress.Go port held) = (refl, tt, refl)

end_alike : (x : EgressNext ℕ) → AlikeEgressNext fit_any Is x x
end_alike egress.Drop = tt
end_alike (egress.Recirculate octets kept) = (refl, tt, refl)
end_alike (egress.Send octets) = refl

same_item : (i j : Item ℕ) → AlikeItem fit_any Is i j → i ≡ j
same_item i j same =
    let F : List ℕ → ℕ → ℕ → ℕ → Item ℕ = λ o p n k. record { octets = o; port = p; instance = n; kept = k } in
    ap (λ o. F o i.port i.instance i.kept) same.octets
    ∙ ap (λ p. F j.octets p i.instance i.kept) same.port
    ∙ ap (λ n. F j.octets j.port n i.kept) same.instance
    ∙ ap (F j.octets j.port j.instance) same.preserved

-- no table is applied
abbrev no_events : List Event
no_events = []

pub steps : SamePasses fit_any SameState Is Is bare counting
steps = record {
  nothing = λ s t same. (refl, refl);
  ingress = λ s t i j same items.
      let is = same_item i j items in
      let P : Item ℕ → Type 0 = λ k. AlikeIngress fit_any Is Is (ingress_end i) (ingress_end k) × (applied i.octets ∷ [] ≡ applied k.octets ∷ []) in
      subst P is ((clone_alike (ingress_end i).clone, next_alike (ingress_end i).next), refl);
  reparse = λ s t i j same items. (items.octets, refl);
  egress = λ s t h k port instance same held fits small.
      let P : List ℕ → Type 0 = λ x. AlikeEgress fit_any Is Is (egress_end h instance) (egress_end x instance) × (no_events ≡ no_events) in
      subst P held ((clone_alike (egress_end h instance).clone, end_alike (egress_end h instance).end), refl);
}

pub events : SameEvents SameState (λ s. s) (λ t. t.1)
events s t same = same
