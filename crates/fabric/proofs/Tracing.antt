-- Traces of machines whose steps correspond, and what tracing leaves as it is.
use Rattle.std.proofs.Common.{◌≡◌, ℕ, zero, suc, List, [], ◌∷◌, ◌++◌, refl, ap, sym, ◌∙◌, append_assoc, Option, Some, None, All}
use Rattle.std.proofs.lemmas.List.{append-nil}
use Rattle.state_store.specs.declared.ports.Session.{Session}
use Rattle.fabric.specs.declared.packets.Arrival.{Arrival}
use Rattle.fabric.specs.declared.items.Event.{Event}
use Rattle.fabric.specs.declared.items.Item.{Item}
use Rattle.fabric.specs.declared.items.Job.{Job}
use Rattle.fabric.specs.declared.items.Job.TheVariants.{Ordinary, IngressClone, EgressClone}
use Rattle.fabric.specs.declared.items.IngressEnd.{IngressEnd}
use Rattle.fabric.specs.declared.items.IngressNext.{IngressNext}
use Rattle.fabric.specs.declared.items.IngressNext.TheVariants as ingress
use Rattle.fabric.specs.declared.items.EgressEnd.{EgressEnd}
use Rattle.fabric.specs.declared.items.EgressNext.{EgressNext}
use Rattle.fabric.specs.declared.items.EgressNext.TheVariants as egress
use Rattle.fabric.specs.Queue.{PassEnd, Run, run, send_first}
use Rattle.fabric.specs.Fabric.{Machine, item, clone_of, ingress_clones, after_ingress, queue_first, pass, fabric}
use Rattle.fabric.specs.Twins.{Fit, FitsSession, FitsArrival, AlikeClone, AlikeIngress, AlikeIngressNext, AlikeEgress, AlikeEgressNext, SamePasses}
use Rattle.fabric.specs.Traces.{Call, Ingress, Reparse, Egress, Trace, clone_told, way_told, end_told, ingress_told, egress_told, traced, trace, traces, SameEvents, SameTraces}
use Rattle.fabric.proofs.OwnJobs.{all_first, all_rest}
use Rattle.fabric.proofs.SameRuns.{fabric_alike}

clone_told_same : {X Y : Type 0} (same : X → Y → Type 0) (x : Option (ℕ × X)) (y : Option (ℕ × Y)) → AlikeClone same x y → clone_told x ≡ clone_told y
clone_told_same same None None alike = refl
clone_told_same same (Some x) (Some y) alike =
    let F : ℕ → Option (ℕ × Unit {0}) = λ n. Some (n, tt) in ap F alike.0
clone_told_same same _ _ alike = absurd alike

module _ {Q R H K : Type 0} (fit : Fit) (kept : Q → R → Type 0) (held : H → K → Type 0) where
  way_told_same : (x : IngressNext Q H) (y : IngressNext R K) → AlikeIngressNext fit kept held x y → way_told x ≡ way_told y
  way_told_same (ingress.Resubmit q) (ingress.Resubmit r) alike = refl
  way_told_same ingress.Drop ingress.Drop alike = refl
  way_told_same (ingress.Go p h) (ingress.Go o k) alike =
      let F : ℕ → IngressNext (Unit {0}) (Unit {0}) = λ n. ingress.Go n tt in ap F alike.0
  way_told_same _ _ alike = absurd alike

  end_told_same : (x : EgressNext Q) (y : EgressNext R) → AlikeEgressNext fit kept x y → end_told x ≡ end_told y
  end_told_same egress.Drop egress.Drop alike = refl
  end_told_same (egress.Recirculate a q) (egress.Recirculate b r) alike =
      let F : List ℕ → EgressNext (Unit {0}) = λ o. egress.Recirculate o tt in ap F alike.0
  end_told_same (egress.Send a) (egress.Send b) alike =
      let F : List ℕ → EgressNext (Unit {0}) = λ o. egress.Send o in ap F alike
  end_told_same _ _ alike = absurd alike

  ingress_told_same : (d : IngressEnd Q H) (e : IngressEnd R K) → AlikeIngress fit kept held d e → ingress_told d ≡ ingress_told e
  ingress_told_same d e alike =
      let F : Option (ℕ × Unit {0}) → IngressNext (Unit {0}) (Unit {0}) → IngressEnd (Unit {0}) (Unit {0}) = λ c n. record { clone = c; next = n } in
      ap (λ c. F c (way_told d.next)) (clone_told_same kept d.clone e.clone alike.0) ∙ ap (F (clone_told e.clone)) (way_told_same d.next e.next alike.1)

  egress_told_same : (d : EgressEnd Q H) (e : EgressEnd R K) → AlikeEgress fit kept held d e → egress_told d ≡ egress_told e
  egress_told_same d e alike =
      let F : Option (ℕ × Unit {0}) → EgressNext (Unit {0}) → EgressEnd (Unit {0}) (Unit {0}) = λ c n. record { clone = c; end = n } in
      ap (λ c. F c (end_told d.end)) (clone_told_same held d.clone e.clone alike.0) ∙ ap (F (clone_told e.clone)) (end_told_same d.end e.end alike.1)

-- one more call on both sides
one_more : (xs ys : List Call) (x y : Call) → xs ≡ ys → x ≡ y → xs ++ x ∷ [] ≡ ys ++ y ∷ []
one_more xs ys x y before is = ap (λ l. l ++ x ∷ []) before ∙ ap (λ c. ys ++ c ∷ []) is

module _ {S T Q R H K : Type 0} (state : S → T → Type 0) (kept : Q → R → Type 0) (held : H → K → Type 0) (fit : Fit) (events : S → List Event) (others : T → List Event) (told : SameEvents state events others) (a : Machine S Q H) (b : Machine T R K) (alike : SamePasses fit state kept held a b) where
  -- states that correspond, with equal traces so far
  abbrev Both : S × List Call → T × List Call → Type 0
  Both x y = state x.0 y.0 × (x.1 ≡ y.1)

  traced_steps : SamePasses fit Both kept held (traced events a) (traced others b)
  traced_steps =
      record {
        nothing = λ s t same. let step = alike.nothing s.0 t.0 same.0 in (step.0, (step.1, same.1));
        ingress = λ s t i j same items.
            let d = a.ingress s.0 i in
            let e = b.ingress t.0 j in
            let step = alike.ingress s.0 t.0 i j same.0 items in
            let is : Ingress i.instance (events d.1) (ingress_told d.0) ≡ Ingress j.instance (others e.1) (ingress_told e.0) =
            ap (λ n. Ingress n (events d.1) (ingress_told d.0)) items.instance
            ∙ ap (λ v. Ingress j.instance v (ingress_told d.0)) (told d.1 e.1 step.1)
            ∙ ap (Ingress j.instance (others e.1)) (ingress_told_same fit kept held d.0 e.0 step.0) in
            (step.0, (step.1, one_more s.1 t.1 (Ingress i.instance (events d.1) (ingress_told d.0)) (Ingress j.instance (others e.1) (ingress_told e.0)) same.1 is));
        reparse = λ s t i j same items.
            let d = a.reparse s.0 i in
            let e = b.reparse t.0 j in
            let step = alike.reparse s.0 t.0 i j same.0 items in
            let is : Reparse i.instance (events d.1) ≡ Reparse j.instance (others e.1) =
            ap (λ n. Reparse n (events d.1)) items.instance ∙ ap (Reparse j.instance) (told d.1 e.1 step.1) in
            (step.0, (step.1, one_more s.1 t.1 (Reparse i.instance (events d.1)) (Reparse j.instance (others e.1)) same.1 is));
        egress = λ s t h k port instance same helds bound small.
            let d = a.egress s.0 h port instance in
            let e = b.egress t.0 k port instance in
            let step = alike.egress s.0 t.0 h k port instance same.0 helds bound small in
            let is : Egress port instance (events d.1) (egress_told d.0) ≡ Egress port instance (others e.1) (egress_told e.0) =
            ap (λ v. Egress port instance v (egress_told d.0)) (told d.1 e.1 step.1)
            ∙ ap (Egress port instance (others e.1)) (egress_told_same fit kept held d.0 e.0 step.0) in
            (step.0, (step.1, one_more s.1 t.1 (Egress port instance (events d.1) (egress_told d.0)) (Egress port instance (others e.1) (egress_told e.0)) same.1 is));
      }

  module _ (sessions : List Session) (ports : All (FitsSession fit) sessions) (bound : ℕ) where
    trace_same : (s : S) (t : T) (arrival : Arrival) → state s t → FitsArrival fit arrival → trace events a sessions bound s arrival ≡ trace others b sessions bound t arrival
    trace_same s t arrival states fits =
        let same = fabric_alike Both kept held fit sessions ports (traced events a) (traced others b) traced_steps bound (s, []) (t, []) arrival (states, refl) fits in
        let x = trace events a sessions bound s arrival in
        let y = trace others b sessions bound t arrival in
        let F : List Call → ℕ → Trace = λ calls cut. record { calls = calls; cut = cut } in
        ap (λ calls. F calls x.cut) same.2.1 ∙ ap (F y.calls) same.1

    pub traces_same : (s : S) (t : T) (arrivals : List Arrival) → state s t → All (FitsArrival fit) arrivals → traces events a sessions bound s arrivals ≡ traces others b sessions bound t arrivals
    traces_same s t [] states all = refl
    traces_same s t (arrival ∷ arrivals) states all =
        let fits = all_first (FitsArrival fit) arrival arrivals all in
        let next = fabric_alike state kept held fit sessions ports a b alike bound s t arrival states fits in
        let rest = traces events a sessions bound (fabric a sessions bound s arrival).state arrivals in
        ap (λ one. one ∷ rest) (trace_same s t arrival states fits)
        ∙ ap (λ more. trace others b sessions bound t arrival ∷ more) (traces_same (fabric a sessions bound s arrival).state (fabric b sessions bound t arrival).state arrivals next.2 (all_rest (FitsArrival fit) arrival arrivals all))

-- from states that correspond, over every bound and every list of arrivals that fit
pub same_traces_of : {S T Q R H K : Type 0} (state : S → T → Type 0) (kept : Q → R → Type 0) (held : H → K → Type 0) (fit : Fit) (events : S → List Event) (others : T → List Event) → SameEvents state events others → (sessions : List Session) → All (FitsSession fit) sessions → (a : Machine S Q H) (b : Machine T R K) → SamePasses fit state kept held a b → (s : S) (t : T) → state s t → SameTraces fit sessions events others a b s t
same_traces_of state kept held fit events others told sessions ports a b alike s t states bound arrivals fits =
    traces_same state kept held fit events others told a b alike sessions ports bound s t arrivals states fits

-- a step that also appends to a list, over any step
module _ {S J C : Type 0} (step : S → J → PassEnd S J) (told : S → J → List C) (more : S × List C → J → PassEnd (S × List C) J) where
  abbrev Also : PassEnd S J → List C → PassEnd (S × List C) J
  Also ended calls = record { state = (ended.state, calls); queued = ended.queued; sent = ended.sent }

  abbrev RunAlso : Run S → List C → Run (S × List C)
  RunAlso ran calls = record { state = (ran.state, calls); sent = ran.sent; cut = ran.cut }

  module _ (is : (s : S) (before : List C) (job : J) → more (s, before) job ≡ Also (step s job) (before ++ told s job)) where
    pub run_also : (left : ℕ) (s : S) (before : List C) (jobs : List J) → run more left (s, before) jobs ≡ RunAlso (run step left s jobs) (before ++ (run more left (s, []) jobs).state.1)
    unfolding run
    run_also zero s before jobs = ap (RunAlso (run step zero s jobs)) (sym (append-nil before))
    run_also (suc left) s before [] = ap (RunAlso (run step (suc left) s [])) (sym (append-nil before))
    run_also (suc left) s before (job ∷ jobs) =
        let d = step s job in
        let later = (run more left (d.state, []) (jobs ++ d.queued)).state.1 in
        let F : PassEnd (S × List C) J → Run (S × List C) = λ e. send_first e.sent (run more left e.state (jobs ++ e.queued)) in
        let X : List C → Run (S × List C) = RunAlso (run step (suc left) s (job ∷ jobs)) in
        let chain : (b : List C) → run more (suc left) (s, b) (job ∷ jobs) ≡ X ((b ++ told s job) ++ later) =
        λ b. ap F (is s b job) ∙ ap (send_first d.sent) (run_also left d.state (b ++ told s job) (jobs ++ d.queued)) in
        let from_none : (run more (suc left) (s, []) (job ∷ jobs)).state.1 ≡ told s job ++ later = ap (λ r. r.state.1) (chain []) in
        chain before ∙ ap X (append_assoc before (told s job) later ∙ ap (λ l. before ++ l) (sym from_none))

module _ {S Q H : Type 0} (events : S → List Event) (machine : Machine S Q H) (sessions : List Session) (from : ℕ) where
  abbrev With : PassEnd S (Job Q H) → List Call → PassEnd (S × List Call) (Job Q H)
  With ended calls = record { state = (ended.state, calls); queued = ended.queued; sent = ended.sent }

  after_ingress_told : (s : S) (before : List Call) (one : Call) (came : Item Q) (next : IngressNext Q H) → after_ingress (traced events machine) sessions from came (s, before ++ one ∷ []) next ≡ With (after_ingress machine sessions from came s next) (before ++ (after_ingress (traced events machine) sessions from came (s, one ∷ []) next).state.1)
  after_ingress_told s before one came (ingress.Resubmit kept) = refl
  after_ingress_told s before one came ingress.Drop = refl
  after_ingress_told s before one came (ingress.Go port held) =
      let ended = machine.egress s held port came.instance in
      let last = Egress port came.instance (events ended.1) (egress_told ended.0) in
      ap (With (after_ingress machine sessions from came s (ingress.Go port held))) (append_assoc before (one ∷ []) (last ∷ []))

  pass_told : (s : S) (before : List Call) (job : Job Q H) → pass (traced events machine) sessions from (s, before) job ≡ With (pass machine sessions from s job) (before ++ (pass (traced events machine) sessions from (s, []) job).state.1)
  pass_told s before (Ordinary came) =
      let ended = machine.ingress s came in
      let one = Ingress came.instance (events ended.1) (ingress_told ended.0) in
      ap (queue_first (ingress_clones came.octets from (clone_of sessions ended.0.clone))) (after_ingress_told ended.1 before one came ended.0.next)
  pass_told s before (IngressClone port came) =
      let held = machine.reparse s came in
      let ended = machine.egress held.1 held.0 port came.instance in
      let one = Reparse came.instance (events held.1) in
      let last = Egress port came.instance (events ended.1) (egress_told ended.0) in
      ap (With (pass machine sessions from s (IngressClone port came))) (append_assoc before (one ∷ []) (last ∷ []))
  pass_told s before (EgressClone port held) = refl

-- to keep a trace changes nothing of the fate
pub fate_told : {S Q H : Type 0} (events : S → List Event) (machine : Machine S Q H) (sessions : List Session) (bound : ℕ) (state : S) (before : List Call) (arrival : Arrival) → fabric (traced events machine) sessions bound (state, before) arrival ≡ record { state = ((fabric machine sessions bound state arrival).state, before ++ (trace events machine sessions bound state arrival).calls); sent = (fabric machine sessions bound state arrival).sent; cut = (fabric machine sessions bound state arrival).cut }
fate_told {S} {Q} {H} events machine sessions bound state before arrival =
    let kept = machine.nothing state in
    let step = pass machine sessions arrival.port in
    let more = pass (traced events machine) sessions arrival.port in
    let told : S → Job Q H → List Call = λ s job. (more (s, []) job).state.1 in
    run_also step told more (pass_told events machine sessions arrival.port) bound kept.1 before (Ordinary (item arrival.octets arrival.port 0 kept.0) ∷ [])
