-- What a pass queues is the runner's own.
use Rattle.std.proofs.Common.{◌≡◌, ℕ, List, [], ◌∷◌, ◌++◌, suc, ap, subst, sym, refl, ◌∙◌, append_assoc, Option, Some, None, Bool, true, false, cond, ◌==◌, All, arith}
use Rattle.std.proofs.lemmas.List.{append-nil}
use Rattle.std.specs.List.{AllByRecursion}
use Rattle.state_store.specs.declared.ports.Session.{Session}
use Rattle.state_store.specs.Ports.{IsPort, AreSessions}
use Rattle.fabric.specs.declared.packets.Out.{Out}
use Rattle.fabric.specs.declared.items.Item.{Item}
use Rattle.fabric.specs.declared.items.Job.{Job}
use Rattle.fabric.specs.declared.items.Job.TheVariants.{Ordinary}
use Rattle.fabric.specs.declared.items.IngressEnd.{IngressEnd}
use Rattle.fabric.specs.declared.items.IngressNext.{IngressNext}
use Rattle.fabric.specs.declared.items.IngressNext.TheVariants as ingress
use Rattle.fabric.specs.declared.items.EgressEnd.{EgressEnd}
use Rattle.fabric.specs.declared.items.EgressNext.{EgressNext}
use Rattle.fabric.specs.declared.items.EgressNext.TheVariants as egress
use Rattle.fabric.specs.declared.fates.Progress.{Progress}
use Rattle.fabric.specs.Queue.{PassEnd}
use Rattle.fabric.specs.Fabric.{Machine, port_of, cloned_to, clone_of, ingress_clones, egress_clones, queued_again, resubmitted, sent_by, after_egress, after_ingress, queue_first, pass}
use Rattle.fabric.specs.Owned.{Own, IsOwnClone, IsOwnIngress, IsOwnIngressNext, IsOwnEgress, IsOwnEgressNext}
use Rattle.fabric.specs.internal.Progress.{IsOwnJob, Leaves}

pub all_append : {X : Type 0} (P : X → Type 0) (xs ys : List X) → AllByRecursion P xs → AllByRecursion P ys → AllByRecursion P (xs ++ ys)
all_append P [] ys all more = more
all_append P (x ∷ xs) ys all more = (all.0, all_append P xs ys all.1 more)

pub all_rest : {X : Type 0} (P : X → Type 0) (x : X) (xs : List X) → All P (x ∷ xs) → All P xs
all_rest P x xs all = λ k d lt. all (suc k) d (omega arith)

pub all_first : {X : Type 0} (P : X → Type 0) (x : X) (xs : List X) → All P (x ∷ xs) → P x
all_first P x xs all = all 0 x (omega arith)

-- P holds of the number, if there is one
abbrev pub IfAny : (ℕ → Type 0) → Option ℕ → Type 0
IfAny P None = Unit {0}
IfAny P (Some n) = P n

pub port_fits : (P : ℕ → Type 0) (sessions : List Session) (number : ℕ) → All (λ session. P session.port) sessions → IfAny P (port_of sessions number)
port_fits P [] number all = tt
port_fits P (session ∷ sessions) number all =
    let by : (b : Bool) → IfAny P (cond b (Some session.port) (port_of sessions number)) =
    elim [
      | true ↦ all_first (λ x. P x.port) session sessions all
      | false ↦ port_fits P sessions number (all_rest (λ x. P x.port) session sessions all)
    ] in
    by (session.number == number)

-- a clone that is made has a port, and carries what is the runner's own
abbrev IsMade : {X : Type 0} → (X → Type 0) → Option (ℕ × X) → Type 0
IsMade own None = Unit {0}
IsMade own (Some clone) = IsPort clone.0 × own clone.1

made_to : {X : Type 0} (own : X → Type 0) (what : X) (port : Option ℕ) → own what → IfAny IsPort port → IsMade own (cloned_to what port)
made_to own what None mine fits = tt
made_to own what (Some port) mine fits = (fits, mine)

made_of : {X : Type 0} (own : X → Type 0) (sessions : List Session) (asked : Option (ℕ × X)) → AreSessions sessions → IsOwnClone own asked → IsMade own (clone_of sessions asked)
made_of own sessions None are mine = tt
made_of own sessions (Some asked) are mine =
    made_to own asked.1 (port_of sessions asked.0) mine (port_fits IsPort sessions asked.0 (λ k d lt. (are.each k d lt).port))

own_ingress_clones : {Q H : Type 0} (own : Own Q H) (octets : List ℕ) (from : ℕ) (clone : Option (ℕ × Q)) → IsPort from → IsMade own.kept clone → AllByRecursion (IsOwnJob own) (ingress_clones octets from clone)
own_ingress_clones own octets from None fits mine = tt
own_ingress_clones own octets from (Some clone) fits mine = ((mine.0, (fits, mine.1)), tt)

own_egress_clones : {Q H : Type 0} (own : Own Q H) (clone : Option (ℕ × H)) → IsMade own.held clone → AllByRecursion (IsOwnJob own) (egress_clones clone)
own_egress_clones own None mine = tt
own_egress_clones own (Some clone) mine = (mine, tt)

own_queued_again : {Q H : Type 0} (own : Own Q H) (from : ℕ) (end : EgressNext Q) → IsPort from → IsOwnEgressNext own end → AllByRecursion (IsOwnJob own) (queued_again from end)
own_queued_again own from egress.Drop fits mine = tt
own_queued_again own from (egress.Recirculate octets kept) fits mine = ((fits, mine), tt)
own_queued_again own from (egress.Send octets) fits mine = tt

-- after egress; `again` is what was queued behind the clone, and `sent` what was sent
pub leaves_egress : {S Q H : Type 0} (own : Own Q H) (sessions : List Session) (from port : ℕ) (answer : EgressEnd Q H × S) (ended : EgressEnd Q H) (state : S) (before after : Progress (Job Q H)) (queue again : List (Job Q H)) (sent : List Out) → answer ≡ (ended, state) → AreSessions sessions → IsPort from → IsOwnEgress own ended → queue ≡ before.queue ++ egress_clones (clone_of sessions ended.clone) → queued_again from ended.end ≡ again → after.queue ≡ queue ++ again → sent_by port ended.end ≡ sent → after.sent ≡ before.sent ++ sent → Leaves (IsOwnJob own) (after_egress sessions from port answer) state before after
leaves_egress {S} {Q} {H} own sessions from port answer ended state before after queue again sent is are fits mine first here queued sends there =
    let P : EgressEnd Q H × S → Type 0 = λ a. Leaves (IsOwnJob own) (after_egress sessions from port a) state before after in
    let clones : List (Job Q H) = egress_clones (clone_of sessions ended.clone) in
    subst P (sym is) (record {
      state = refl;
      queued = queued
          ∙ ap (λ q. q ++ again) first
          ∙ append_assoc before.queue clones again
          ∙ ap (λ x. before.queue ++ (clones ++ x)) (sym here);
      sent = there ∙ ap (λ x. before.sent ++ x) (sym sends);
      owned = all_append (IsOwnJob own) clones (queued_again from ended.end) (own_egress_clones own (clone_of sessions ended.clone) (made_of own.held sessions ended.clone are mine.0)) (own_queued_again own from ended.end fits mine.1);
    })

-- after ingress; `rest` is what the pass leaves from there
leaves_ingress : {S Q H : Type 0} (own : Own Q H) (machine : Machine S Q H) (sessions : List Session) (from : ℕ) (old : S) (came : Item Q) (ended : IngressEnd Q H) (between state : S) (before middle after : Progress (Job Q H)) → machine.ingress old came ≡ (ended, between) → AreSessions sessions → IsPort from → IsOwnClone own.kept ended.clone → middle.queue ≡ before.queue ++ ingress_clones came.octets from (clone_of sessions ended.clone) → middle.sent ≡ before.sent → Leaves (IsOwnJob own) (after_ingress machine sessions from came between ended.next) state middle after → Leaves (IsOwnJob own) (pass machine sessions from old (Ordinary came)) state before after
leaves_ingress {S} {Q} {H} own machine sessions from old came ended between state before middle after is are fits mine first stays rest =
    let P : IngressEnd Q H × S → Type 0 = λ a. Leaves (IsOwnJob own) (queue_first (ingress_clones came.octets from (clone_of sessions a.0.clone)) (after_ingress machine sessions from came a.1 a.0.next)) state before after in
    let clones : List (Job Q H) = ingress_clones came.octets from (clone_of sessions ended.clone) in
    let next : PassEnd S (Job Q H) = after_ingress machine sessions from came between ended.next in
    subst P (sym is) (record {
      state = rest.state;
      queued = rest.queued ∙ ap (λ q. q ++ next.queued) first ∙ append_assoc before.queue clones next.queued;
      sent = rest.sent ∙ ap (λ s. s ++ next.sent) stays;
      owned = all_append (IsOwnJob own) clones next.queued (own_ingress_clones own came.octets from (clone_of sessions ended.clone) fits (made_of own.kept sessions ended.clone are mine)) rest.owned;
    })

module _ {S Q H : Type 0} (own : Own Q H) (machine : Machine S Q H) (sessions : List Session) (from : ℕ) (old : S) (came : Item Q) (ended : IngressEnd Q H) (between : S) (clone : Option (ℕ × Q)) (before after : Progress (Job Q H)) (is : machine.ingress old came ≡ (ended, between)) (made : clone ≡ clone_of sessions ended.clone) (are : AreSessions sessions) (fits : IsPort from) (mine : IsOwnIngress own ended) where
  -- what waits, with the clone
  abbrev cloned : List (Job Q H)
  cloned = before.queue ++ ingress_clones came.octets from clone

  -- what was left where the item goes on from there
  goes_on : (next : IngressNext Q H) → ended.next ≡ next → (state : S) (middle : Progress (Job Q H)) → middle.queue ≡ cloned → middle.sent ≡ before.sent → Leaves (IsOwnJob own) (after_ingress machine sessions from came between next) state middle after → Leaves (IsOwnJob own) (pass machine sessions from old (Ordinary came)) state before after
  goes_on next it state middle first stays rest =
      leaves_ingress own machine sessions from old came ended between state before middle after is are fits mine.0
      (first ∙ ap (λ c. before.queue ++ ingress_clones came.octets from c) made) stays
      (subst (λ n. Leaves (IsOwnJob own) (after_ingress machine sessions from came between n) state middle after) (sym it) rest)

  pub leaves_resubmitted : (kept : Q) → ended.next ≡ ingress.Resubmit kept → after.queue ≡ before.queue ++ (ingress_clones came.octets from clone ++ resubmitted came.octets from kept ∷ []) → after.sent ≡ before.sent → Leaves (IsOwnJob own) (pass machine sessions from old (Ordinary came)) between before after
  leaves_resubmitted kept it queued sent =
      let clones : List (Job Q H) = ingress_clones came.octets from clone in
      let its : own.kept kept = subst (IsOwnIngressNext own) it mine.1 in
      goes_on (ingress.Resubmit kept) it between (record { queue = cloned; sent = before.sent }) refl refl (record {
        state = refl;
        queued = queued ∙ sym (append_assoc before.queue clones (resubmitted came.octets from kept ∷ []));
        sent = sent ∙ sym (append-nil before.sent);
        owned = ((fits, its), tt);
      })

  pub leaves_dropped : ended.next ≡ ingress.Drop → after.queue ≡ cloned → after.sent ≡ before.sent → Leaves (IsOwnJob own) (pass machine sessions from old (Ordinary came)) between before after
  leaves_dropped it queued sent =
      goes_on ingress.Drop it between after queued sent (record {
        state = refl;
        queued = sym (append-nil after.queue);
        sent = sym (append-nil after.sent);
        owned = tt;
      })

  pub leaves_onward : (port : ℕ) (held : H) → ended.next ≡ ingress.Go port held → (state : S) (middle : Progress (Job Q H)) → middle.queue ≡ cloned → middle.sent ≡ before.sent → Leaves (IsOwnJob own) (after_egress sessions from port (machine.egress between held port came.instance)) state middle after → Leaves (IsOwnJob own) (pass machine sessions from old (Ordinary came)) state before after
  leaves_onward port held it state middle first stays rest = goes_on (ingress.Go port held) it state middle first stays rest

-- the same where egress is made in a later setting, which is the same, of what is held, told otherwise
pub leaves_onward_later : {X S Q H : Type 0} (owns : X → Own Q H) (machines : X → Machine S Q H) (setting later : X) (sessions : List Session) (from : ℕ) (old : S) (came : Item Q) (ended : IngressEnd Q H) (between : S) (clone : Option (ℕ × Q)) (before after : Progress (Job Q H)) → (machines setting).ingress old came ≡ (ended, between) → clone ≡ clone_of sessions ended.clone → AreSessions sessions → IsPort from → IsOwnIngress (owns setting) ended → (port : ℕ) (held other : H) → ended.next ≡ ingress.Go port held → later ≡ setting → (state : S) (middle : Progress (Job Q H)) → middle.queue ≡ before.queue ++ ingress_clones came.octets from clone → middle.sent ≡ before.sent → Leaves (IsOwnJob (owns later)) (after_egress sessions from port ((machines later).egress between other port came.instance)) state middle after → other ≡ held → Leaves (IsOwnJob (owns setting)) (pass (machines setting) sessions from old (Ordinary came)) state before after
leaves_onward_later {X} {S} {Q} {H} owns machines setting later sessions from old came ended between clone before after is made are fits mine port held other it same state middle first stays rest told =
    let P : X → Type 0 = λ x. Leaves (IsOwnJob (owns x)) (after_egress sessions from port ((machines x).egress between other port came.instance)) state middle after in
    let R : H → Type 0 = λ h. Leaves (IsOwnJob (owns setting)) (after_egress sessions from port ((machines setting).egress between h port came.instance)) state middle after in
    leaves_onward (owns setting) (machines setting) sessions from old came ended between clone before after is made are fits mine port held it state middle first stays
    (subst R told (subst P same rest))
