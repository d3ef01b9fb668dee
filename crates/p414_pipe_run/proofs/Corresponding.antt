-- The steps of the machine that holds packets with their layout are those of the program's machine.
use Rattle.std.proofs.Common.{◌≡◌, ℕ, List, Option, Some, None, refl, ap, ◌∙◌, subst}
use Rattle.state_store.specs.State.{Contents}
use Rattle.fabric.specs.declared.items.Item.{Item}
use Rattle.fabric.specs.declared.items.IngressEnd.{IngressEnd}
use Rattle.fabric.specs.declared.items.IngressNext.{IngressNext}
use Rattle.fabric.specs.declared.items.IngressNext.TheVariants as ingress
use Rattle.fabric.specs.declared.items.EgressEnd.{EgressEnd}
use Rattle.fabric.specs.declared.items.EgressNext.{EgressNext}
use Rattle.fabric.specs.declared.items.EgressNext.TheVariants as egress
use Rattle.fabric.specs.Twins.{SamePasses, AlikeItem, AlikeClone, AlikeIngressNext, AlikeIngress, AlikeEgressNext, AlikeEgress, fit_any}
use Rattle.p414_syntax.specs.declared.syntax.Decl.{Decl}
use Rattle.p414_sem.specs.Controls.{Setting}
use Rattle.p414_sem.specs.Passes.{Preserved, Held, egress14, ingress14, reparse14}
use Rattle.p414_sem.specs.Runs.{Between, machine14}
use Rattle.p414_pipe_run.specs.Held.{packed, shown_held}
use Rattle.p414_pipe_run.specs.Packed.{Is, Shows, left_by, packed_clone, packed_egress, packed_ingress, packed_machine, packed_next}

-- what is packed corresponds to what it was packed from

clone_alike : (x : Option (ℕ × Preserved)) → AlikeClone Is x x
clone_alike None = tt
clone_alike (Some x) = (refl, refl)

held_alike : (ds : List Decl) (x : Option (ℕ × Held)) → AlikeClone Shows (packed_clone ds x) x
held_alike ds None = tt
held_alike ds (Some x) = (refl, refl)

next_alike : (ds : List Decl) (x : IngressNext Preserved Held) → AlikeIngressNext fit_any Is Shows (packed_next ds x) x
next_alike ds (ingress.Resubmit q) = refl
next_alike ds ingress.Drop = tt
next_alike ds (ingress.Go port h) = (refl, tt, refl)

end_alike : (x : EgressNext Preserved) → AlikeEgressNext fit_any Is x x
end_alike egress.Drop = tt
end_alike (egress.Recirculate octets q) = (refl, tt, refl)
end_alike (egress.Send octets) = refl

ingress_alike : (ds : List Decl) (e : IngressEnd Preserved Held) → AlikeIngress fit_any Is Shows (packed_ingress ds e) e
ingress_alike ds e = (clone_alike e.clone, next_alike ds e.next)

egress_alike : (ds : List Decl) (e : EgressEnd Preserved Held) → AlikeEgress fit_any Is Shows (packed_egress ds e) e
egress_alike ds e = (held_alike ds e.clone, end_alike e.end)

same_item : (i j : Item Preserved) → AlikeItem fit_any Is i j → i ≡ j
same_item i j same =
    let F : List ℕ → ℕ → ℕ → Preserved → Item Preserved = λ o p n k. record { octets = o; port = p; instance = n; kept = k } in
    ap (λ o. F o i.port i.instance i.kept) same.octets
    ∙ ap (λ p. F j.octets p i.instance i.kept) same.port
    ∙ ap (λ n. F j.octets j.port n i.kept) same.instance
    ∙ ap (F j.octets j.port j.instance) same.preserved

-- for any relation of states that have one store
module _ (R : Between → Between → Type 0) (stores : (s t : Between) → R s t → s.store ≡ t.store) (itself : (s : Between) → R s s) (c : Setting) where
  abbrev IngressSteps : Contents → Item Preserved → Contents → Item Preserved → Type 0
  IngressSteps u i v j =
      let e = ingress14 c u i in
      let f = ingress14 c v j in
      AlikeIngress fit_any Is Shows (packed_ingress c.decls e.answer) f.answer × R (left_by e) (left_by f)

  abbrev ReparseSteps : Contents → Item Preserved → Contents → Item Preserved → Type 0
  ReparseSteps u i v j =
      let e = reparse14 c u i in
      let f = reparse14 c v j in
      Shows (packed c.decls e.answer) f.answer × R (left_by e) (left_by f)

  abbrev EgressSteps : ℕ → ℕ → Contents → Held → Contents → Held → Type 0
  EgressSteps port kind u h v k =
      let e = egress14 c u h port kind in
      let f = egress14 c v k port kind in
      AlikeEgress fit_any Is Shows (packed_egress c.decls e.answer) f.answer × R (left_by e) (left_by f)

  pub steps : SamePasses fit_any R Is Shows (packed_machine c) (machine14 c)
  steps = record {
    nothing = λ s t same. (refl, same);
    ingress = λ s t i j same items.
        subst (λ u. IngressSteps s.store i u j) (stores s t same)
        (subst (λ k. IngressSteps s.store i s.store k) (same_item i j items)
        (ingress_alike c.decls (ingress14 c s.store i).answer, itself (left_by (ingress14 c s.store i))));
    reparse = λ s t i j same items.
        subst (λ u. ReparseSteps s.store i u j) (stores s t same)
        (subst (λ k. ReparseSteps s.store i s.store k) (same_item i j items)
        (refl, itself (left_by (reparse14 c s.store i))));
    egress = λ s t h k port kind same shows fits small.
        subst (λ u. EgressSteps port kind s.store (shown_held h) u k) (stores s t same)
        (subst (λ g. EgressSteps port kind s.store (shown_held h) s.store g) shows
        (egress_alike c.decls (egress14 c s.store (shown_held h) port kind).answer, itself (left_by (egress14 c s.store (shown_held h) port kind))));
  }
