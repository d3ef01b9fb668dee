-- The machine of a program beside itself, from states that stand for each other.
use Rattle.std.proofs.Common.{◌≡◌, ℕ, Option, Some, None, List, refl, ap, subst, ◌∙◌}
use Rattle.fabric.specs.declared.items.Item.{Item}
use Rattle.fabric.specs.declared.items.IngressEnd.{IngressEnd}
use Rattle.fabric.specs.declared.items.IngressNext.{IngressNext}
use Rattle.fabric.specs.declared.items.IngressNext.TheVariants as ingress
use Rattle.fabric.specs.declared.items.EgressEnd.{EgressEnd}
use Rattle.fabric.specs.declared.items.EgressNext.{EgressNext}
use Rattle.fabric.specs.declared.items.EgressNext.TheVariants as egress
use Rattle.fabric.specs.Twins.{fit_any, AlikeItem, AlikeClone, AlikeIngressNext, AlikeIngress, AlikeEgressNext, AlikeEgress, SamePasses}
use Rattle.v1_core.specs.Values.{Value}
use Rattle.v1_core.specs.Surroundings.{Setting}
use Rattle.v1_core.specs.Passes.{Held, ingress16, reparse16, egress16}
use Rattle.v1_core.specs.Runs.{machine16}
use Rattle.shard_laws.specs.Likeness.{Pairing, LikeBetween, LikeAnswered}
use Rattle.shard_laws.proofs.Passes.{ingress_like, reparse_like, egress_like}

abbrev pub Same : {X : Type 0} → X → X → Type 0
Same x y = x ≡ y

same_item : {Q : Type 0} (i j : Item Q) → AlikeItem fit_any Same i j → i ≡ j
same_item {Q} i j h =
    let F : List ℕ → ℕ → ℕ → Q → Item Q = λ octets port instance kept. record { octets = octets; port = port; instance = instance; kept = kept } in
    ap (λ x. F x i.port i.instance i.kept) h.octets ∙ ap (λ x. F j.octets x i.instance i.kept) h.port
    ∙ ap (λ x. F j.octets j.port x i.kept) h.instance ∙ ap (λ x. F j.octets j.port j.instance x) h.preserved

clone_alike : {X : Type 0} (o : Option (ℕ × X)) → AlikeClone Same o o
clone_alike None = tt
clone_alike (Some x) = (refl, refl)

next_alike : {Q H : Type 0} (n : IngressNext Q H) → AlikeIngressNext fit_any Same Same n n
next_alike (ingress.Resubmit kept) = refl
next_alike ingress.Drop = tt
next_alike (ingress.Go port held) = (refl, tt, refl)

end_alike : {Q : Type 0} (n : EgressNext Q) → AlikeEgressNext fit_any Same n n
end_alike egress.Drop = tt
end_alike (egress.Recirculate octets kept) = (refl, tt, refl)
end_alike (egress.Send octets) = refl

ingress_alike : {Q H : Type 0} (d e : IngressEnd Q H) → d ≡ e → AlikeIngress fit_any Same Same d e
ingress_alike {Q} {H} d e is = subst (λ (x : IngressEnd Q H). AlikeIngress fit_any Same Same d x) is (clone_alike d.clone, next_alike d.next)

egress_alike : {Q H : Type 0} (d e : EgressEnd Q H) → d ≡ e → AlikeEgress fit_any Same Same d e
egress_alike {Q} {H} d e is = subst (λ (x : EgressEnd Q H). AlikeEgress fit_any Same Same d x) is (clone_alike d.clone, end_alike d.end)

pub same_passes : (k : Pairing) (c : Setting) → SamePasses fit_any (LikeBetween k) Same Same (machine16 c) (machine16 c)
same_passes k c = record {
  nothing = λ a b h. (refl, h);
  ingress = λ a b i j h items.
      let done : LikeAnswered k (ingress16 c a i) (ingress16 c b j) = subst (λ (x : Item Value). LikeAnswered k (ingress16 c a i) (ingress16 c b x)) (same_item i j items) (ingress_like k c a b i h) in
      (ingress_alike _ _ done.answer, done.left);
  reparse = λ a b i j h items.
      let done : LikeAnswered k (reparse16 c a i) (reparse16 c b j) = subst (λ (x : Item Value). LikeAnswered k (reparse16 c a i) (reparse16 c b x)) (same_item i j items) (reparse_like k c a b i h) in
      (done.answer, done.left);
  egress = λ a b x y port instance h helds fits small.
      let done : LikeAnswered k (egress16 c a x port instance) (egress16 c b y port instance) = subst (λ (z : Held). LikeAnswered k (egress16 c a x port instance) (egress16 c b z port instance)) helds (egress_like k c a b x port instance h) in
      (egress_alike _ _ done.answer, done.left);
}
