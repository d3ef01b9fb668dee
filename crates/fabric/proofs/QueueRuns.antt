-- The steps of a run, and how much it sends and cuts at most.
use Rattle.std.proofs.Common.{◌≡◌, ℕ, ◌<◌, ◌≤◌, ◌+◌, ◌*◌, ◌-◌, zero, suc, List, [], ◌∷◌, ◌++◌, length, refl, ap, sym, ◌∙◌, append_assoc, length-append, arith, ◌⊎◌, inl, inr, Option, Some, None}
use Rattle.std.proofs.lemmas.List.{append-nil}
use Rattle.state_store.specs.declared.ports.Session.{Session}
use Rattle.fabric.specs.declared.packets.Out.{Out}
use Rattle.fabric.specs.declared.packets.Arrival.{Arrival}
use Rattle.fabric.specs.declared.items.Item.{Item}
use Rattle.fabric.specs.declared.items.Job.{Job}
use Rattle.fabric.specs.declared.items.Job.TheVariants.{Ordinary, IngressClone, EgressClone}
use Rattle.fabric.specs.declared.items.IngressNext.{IngressNext}
use Rattle.fabric.specs.declared.items.IngressNext.TheVariants as ingress
use Rattle.fabric.specs.declared.items.EgressEnd.{EgressEnd}
use Rattle.fabric.specs.declared.items.EgressNext.{EgressNext}
use Rattle.fabric.specs.declared.items.EgressNext.TheVariants as egress
use Rattle.fabric.specs.declared.fates.Progress.{Progress}
use Rattle.fabric.specs.Queue.{Run, PassEnd, run, send_first}
use Rattle.fabric.specs.Fabric.{Machine, item, clone_of, ingress_clones, egress_clones, queued_again, sent_by, after_egress, after_ingress, pass, fabric}
use Rattle.fabric.specs.internal.Progress.{Leaves}

send_twice : {S : Type 0} (xs ys : List Out) (r : Run S) → send_first (xs ++ ys) r ≡ send_first xs (send_first ys r)
send_twice {S} xs ys r =
    let F : List Out → Run S = λ s. record { state = r.state; sent = s; cut = r.cut } in
    ap F (append_assoc xs ys r.sent)

at_end : {S : Type 0} (sent : List Out) (state : S) (cut : ℕ) → send_first sent (record { state = state; sent = []; cut = cut }) ≡ record { state = state; sent = sent; cut = cut }
at_end {S} sent state cut =
    let F : List Out → Run S = λ s. record { state = state; sent = s; cut = cut } in ap F (append-nil sent)

module _ {S J : Type 0} (step : S → J → PassEnd S J) where
  run_out : (state : S) (jobs : List J) → run step 0 state jobs ≡ record { state = state; sent = []; cut = length jobs }
  unfolding run
  run_out state jobs = refl

  run_none : (state : S) (left : ℕ) → run step left state [] ≡ record { state = state; sent = []; cut = 0 }
  unfolding run
  run_none state zero = refl
  run_none state (suc left) = refl

  run_some : (state : S) (left : ℕ) (job : J) (jobs : List J) → 0 < left → run step left state (job ∷ jobs) ≡ send_first (step state job).sent (run step (left - 1) (step state job).state (jobs ++ (step state job).queued))
  unfolding run
  run_some state zero job jobs h = absurd (omega arith)
  run_some state (suc left) job jobs h =
      let ended = step state job in
      ap (λ n. send_first ended.sent (run step n ended.state (jobs ++ ended.queued))) (omega arith)

-- one pass of the loop
pub run_goes_on : {S J : Type 0} (is_own : J → Type 0) (step : S → J → PassEnd S J) (left : ℕ) (s0 s1 : S) (job : J) (q0 : List J) (before after : Progress J) → 0 < left → q0 ≡ job ∷ before.queue → Leaves is_own (step s0 job) s1 before after → send_first after.sent (run step (left - 1) s1 after.queue) ≡ send_first before.sent (run step left s0 q0)
run_goes_on {S} {J} is_own step left s0 s1 job q0 before after some first leaves =
    let ended = step s0 job in
    let sent = before.sent in
    let go : S → List J → Run S = λ s q. run step (left - 1) s q in
    ap (λ x. send_first x (go s1 after.queue)) leaves.sent
    ∙ ap (λ s. send_first (sent ++ ended.sent) (go s after.queue)) leaves.state
    ∙ ap (λ q. send_first (sent ++ ended.sent) (go ended.state q)) leaves.queued
    ∙ send_twice sent ended.sent (go ended.state (before.queue ++ ended.queued))
    ∙ ap (send_first sent) (sym (run_some step s0 left job before.queue some))
    ∙ ap (λ q. send_first sent (run step left s0 q)) (sym first)

-- the pass of one job that waits alone, where nothing was sent
pub run_begins : {S J : Type 0} (is_own : J → Type 0) (step : S → J → PassEnd S J) (left : ℕ) (s0 s1 : S) (job : J) (before after : Progress J) → 0 < left → before ≡ record { queue = []; sent = [] } → Leaves is_own (step s0 job) s1 before after → send_first after.sent (run step (left - 1) s1 after.queue) ≡ run step left s0 (job ∷ [])
run_begins is_own step left s0 s1 job before after some first leaves =
    let begun = rw first at leaves in
    run_goes_on is_own step left s0 s1 job (job ∷ []) (record { queue = []; sent = [] }) after some refl begun

-- the end of the loop
pub run_ends : {S J : Type 0} (step : S → J → PassEnd S J) (left : ℕ) (state : S) (queue : List J) (sent : List Out) → (left ≡ 0) ⊎ (queue ≡ []) → send_first sent (run step left state queue) ≡ record { state = state; sent = sent; cut = length queue }
run_ends {S} {J} step left state queue sent (inl none) =
    let F : ℕ → Run S = λ n. send_first sent (run step n state queue) in
    ap F none ∙ ap (send_first sent) (run_out step state queue) ∙ at_end sent state (length queue)
run_ends {S} {J} step left state queue sent (inr none) =
    let F : List J → Run S = λ q. send_first sent (run step left state q) in
    ap F none
    ∙ ap (send_first sent) (run_none step state left)
    ∙ at_end sent state 0
    ∙ ap (λ q. record { state = state; sent = sent; cut = length q }) (sym none)

-- a step queues at most three jobs and sends at most one packet
pub record IsFew {S J : Type 0} (ended : PassEnd S J) : Type 0 where
  pub queued : length ended.queued ≤ 3
  pub sent : length ended.sent ≤ 1

pub run_few : {S J : Type 0} (step : S → J → PassEnd S J) → ((s : S) (j : J) → IsFew (step s j)) → (left : ℕ) (s : S) (jobs : List J) → (length (run step left s jobs).sent ≤ left) × ((run step left s jobs).cut ≤ 2 * left + length jobs)
unfolding run
run_few step few zero s jobs = (omega arith, omega arith)
run_few step few (suc left) s [] = (omega arith, omega arith)
run_few step few (suc left) s (job ∷ jobs) =
    let ended = step s job in
    let one = few s job in
    let rest = run_few step few left ended.state (jobs ++ ended.queued) in
    let sent = length-append ended.sent (run step left ended.state (jobs ++ ended.queued)).sent in
    let queued = length-append jobs ended.queued in
    let cut : (run step left ended.state (jobs ++ ended.queued)).cut ≤ 2 * left + (length jobs + length ended.queued) = rw (sym queued) rest.1 in
    (omega (arith, sent, one.sent, rest.0), omega (arith, cut, one.queued))

few_egress_clones : (Q : Type 0) {H : Type 0} (clone : Option (ℕ × H)) → length (egress_clones {Q = Q} clone) ≤ 1
few_egress_clones Q None = omega arith
few_egress_clones Q (Some clone) = omega arith

few_ingress_clones : {Q : Type 0} (H : Type 0) (octets : List ℕ) (from : ℕ) (clone : Option (ℕ × Q)) → length (ingress_clones {H = H} octets from clone) ≤ 1
few_ingress_clones H octets from None = omega arith
few_ingress_clones H octets from (Some clone) = omega arith

few_queued_again : {Q : Type 0} (H : Type 0) (from : ℕ) (end : EgressNext Q) → length (queued_again {H = H} from end) ≤ 1
few_queued_again H from egress.Drop = omega arith
few_queued_again H from (egress.Recirculate octets kept) = omega arith
few_queued_again H from (egress.Send octets) = omega arith

few_sent : {Q : Type 0} (port : ℕ) (end : EgressNext Q) → length (sent_by port end) ≤ 1
few_sent port egress.Drop = omega arith
few_sent port (egress.Recirculate octets kept) = omega arith
few_sent port (egress.Send octets) = omega arith

few_after_egress : {S Q H : Type 0} (sessions : List Session) (from port : ℕ) (ended : EgressEnd Q H × S) → (length (after_egress sessions from port ended).queued ≤ 2) × (length (after_egress sessions from port ended).sent ≤ 1)
few_after_egress {S} {Q} {H} sessions from port ended =
    let clones = egress_clones {Q = Q} (clone_of sessions ended.0.clone) in
    let again = queued_again {H = H} from ended.0.end in (
      omega (arith, length-append clones again, few_egress_clones Q (clone_of sessions ended.0.clone), few_queued_again H from ended.0.end),
      few_sent port ended.0.end,
    )

few_after_ingress : {S Q H : Type 0} (machine : Machine S Q H) (sessions : List Session) (from : ℕ) (came : Item Q) (state : S) (next : IngressNext Q H) → (length (after_ingress machine sessions from came state next).queued ≤ 2) × (length (after_ingress machine sessions from came state next).sent ≤ 1)
few_after_ingress machine sessions from came state (ingress.Resubmit kept) = (omega arith, omega arith)
few_after_ingress machine sessions from came state ingress.Drop = (omega arith, omega arith)
few_after_ingress machine sessions from came state (ingress.Go port held) = few_after_egress sessions from port (machine.egress state held port came.instance)

few_pass : {S Q H : Type 0} (machine : Machine S Q H) (sessions : List Session) (from : ℕ) (state : S) (job : Job Q H) → IsFew (pass machine sessions from state job)
few_pass {S} {Q} {H} machine sessions from state (Ordinary came) =
    let ended = machine.ingress state came in
    let clones = ingress_clones {H = H} came.octets from (clone_of sessions ended.0.clone) in
    let after = after_ingress machine sessions from came ended.1 ended.0.next in
    let few = few_after_ingress machine sessions from came ended.1 ended.0.next in
    record {
      queued = omega (arith, length-append clones after.queued, few_ingress_clones H came.octets from (clone_of sessions ended.0.clone), few.0);
      sent = few.1;
    }
few_pass machine sessions from state (IngressClone port came) =
    let held = machine.reparse state came in
    let few = few_after_egress sessions from port (machine.egress held.1 held.0 port came.instance) in
    record { queued = omega (arith, few.0); sent = few.1 }
few_pass machine sessions from state (EgressClone port held) =
    let few = few_after_egress sessions from port (machine.egress state held port 2) in
    record { queued = omega (arith, few.0); sent = few.1 }

-- what one packet gives at most
pub few_fabric : {S Q H : Type 0} (machine : Machine S Q H) (sessions : List Session) (bound : ℕ) (state : S) (arrival : Arrival) → (length (fabric machine sessions bound state arrival).sent ≤ bound) × ((fabric machine sessions bound state arrival).cut ≤ 2 * bound + 1)
few_fabric machine sessions bound state arrival =
    let kept = machine.nothing state in
    run_few (pass machine sessions arrival.port) (few_pass machine sessions arrival.port) bound kept.1 (Ordinary (item arrival.octets arrival.port 0 kept.0) ∷ [])
