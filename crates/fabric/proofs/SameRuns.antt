-- Machines whose steps correspond have the same fates.
use Rattle.std.proofs.Common.{◌≡◌, ℕ, ◌<◌, ◌^◌, ◌+◌, zero, suc, List, [], ◌∷◌, ◌++◌, map, length, refl, ap, subst, ◌∙◌, Option, Some, None, All, arith}
use Rattle.state_store.specs.declared.ports.Session.{Session}
use Rattle.fabric.specs.declared.packets.Arrival.{Arrival}
use Rattle.fabric.specs.declared.packets.Out.{Out}
use Rattle.fabric.specs.declared.items.Item.{Item}
use Rattle.fabric.specs.declared.items.Job.{Job}
use Rattle.fabric.specs.declared.items.Job.TheVariants.{Ordinary, IngressClone, EgressClone}
use Rattle.fabric.specs.declared.items.IngressNext.{IngressNext}
use Rattle.fabric.specs.declared.items.IngressNext.TheVariants as ingress
use Rattle.fabric.specs.declared.items.EgressNext.{EgressNext}
use Rattle.fabric.specs.declared.items.EgressNext.TheVariants as egress
use Rattle.fabric.specs.Queue.{PassEnd, run}
use Rattle.fabric.specs.Fabric.{Machine, item, port_of, cloned_to, clone_of, ingress_clones, egress_clones, queued_again, sent_by, after_egress, after_ingress, pass, fabric, fabric_from, numbered}
use Rattle.fabric.specs.Twins.{Fit, FitsSession, FitsArrival, AlikeItem, AlikeClone, AlikeIngressNext, AlikeEgressNext, SamePasses, AlikeRun, AlikeWhole, SameFates}
use Rattle.fabric.proofs.OwnJobs.{IfAny, port_fits, all_first, all_rest}

-- what waits corresponds
abbrev pub AlikeJob : {Q R H K : Type 0} → Fit → (Q → R → Type 0) → (H → K → Type 0) → Job Q H → Job R K → Type 0
AlikeJob fit kept held (Ordinary i) (Ordinary j) = AlikeItem fit kept i j
AlikeJob fit kept held (IngressClone p i) (IngressClone o j) = (p ≡ o) × fit.port p × AlikeItem fit kept i j
AlikeJob fit kept held (EgressClone p h) (EgressClone o k) = (p ≡ o) × fit.port p × held h k
AlikeJob fit kept held _ _ = ⊥

-- as many on both sides, each of which corresponds to that at its place
abbrev pub Zip : {X Y : Type 0} → (X → Y → Type 0) → List X → List Y → Type 0
Zip same [] [] = Unit {0}
Zip same (x ∷ xs) (y ∷ ys) = same x y × Zip same xs ys
Zip same _ _ = ⊥

pub zip_append : {X Y : Type 0} (same : X → Y → Type 0) (xs xs2 : List X) (ys ys2 : List Y) → Zip same xs ys → Zip same xs2 ys2 → Zip same (xs ++ xs2) (ys ++ ys2)
zip_append same [] xs2 [] ys2 a b = b
zip_append same (x ∷ xs) xs2 (y ∷ ys) ys2 a b = (a.0, zip_append same xs xs2 ys ys2 a.1 b)
zip_append same [] xs2 (y ∷ ys) ys2 a b = absurd a
zip_append same (x ∷ xs) xs2 [] ys2 a b = absurd a

zip_length : {X Y : Type 0} (same : X → Y → Type 0) (xs : List X) (ys : List Y) → Zip same xs ys → length xs ≡ length ys
zip_length same [] [] a = refl
zip_length same (x ∷ xs) (y ∷ ys) a = ap suc (zip_length same xs ys a.1)
zip_length same [] (y ∷ ys) a = absurd a
zip_length same (x ∷ xs) [] a = absurd a

-- ends of a step that correspond
abbrev pub AlikeEnd : {S T J L : Type 0} → (S → T → Type 0) → (J → L → Type 0) → PassEnd S J → PassEnd T L → Type 0
AlikeEnd state job d e = state d.state e.state × Zip job d.queued e.queued × (d.sent ≡ e.sent)

-- a queue whose steps correspond, over any step
module _ {S T J L : Type 0} (state : S → T → Type 0) (job : J → L → Type 0) (a : S → J → PassEnd S J) (b : T → L → PassEnd T L) (step : (s : S) (t : T) (x : J) (y : L) → state s t → job x y → AlikeEnd state job (a s x) (b t y)) where
  pub run_alike : (left : ℕ) (s : S) (t : T) (xs : List J) (ys : List L) → state s t → Zip job xs ys → AlikeRun state (run a left s xs) (run b left t ys)
  unfolding run
  run_alike zero s t xs ys states same = (refl, zip_length job xs ys same, states)
  run_alike (suc left) s t [] [] states same = (refl, refl, states)
  run_alike (suc left) s t (x ∷ xs) (y ∷ ys) states same =
      let d = a s x in
      let e = b t y in
      let ended = step s t x y states same.0 in
      let rest = run_alike left d.state e.state (xs ++ d.queued) (ys ++ e.queued) ended.0 (zip_append job xs d.queued ys e.queued same.1 ended.1) in (
        ap (λ sent. sent ++ (run a left d.state (xs ++ d.queued)).sent) ended.2 ∙ ap (λ sent. e.sent ++ sent) rest.0,
        rest.1,
        rest.2,
      )
  run_alike _ s t _ _ states same = absurd same

-- clones that are made correspond
abbrev pub AlikeMade : {X Y : Type 0} → Fit → (X → Y → Type 0) → Option (ℕ × X) → Option (ℕ × Y) → Type 0
AlikeMade fit same None None = Unit {0}
AlikeMade fit same (Some x) (Some y) = (x.0 ≡ y.0) × fit.port x.0 × same x.1 y.1
AlikeMade fit same _ _ = ⊥

made_alike_at : {X Y : Type 0} (fit : Fit) (same : X → Y → Type 0) (x : X) (y : Y) (port : Option ℕ) → same x y → IfAny fit.port port → AlikeMade fit same (cloned_to x port) (cloned_to y port)
made_alike_at fit same x y None alike fits = tt
made_alike_at fit same x y (Some port) alike fits = (refl, fits, alike)

pub made_alike : {X Y : Type 0} (fit : Fit) (same : X → Y → Type 0) (sessions : List Session) → All (FitsSession fit) sessions → (x : Option (ℕ × X)) (y : Option (ℕ × Y)) → AlikeClone same x y → AlikeMade fit same (clone_of sessions x) (clone_of sessions y)
made_alike fit same sessions ports None None alike = tt
made_alike fit same sessions ports (Some x) (Some y) alike =
    let P : ℕ → Type 0 = λ n. AlikeMade fit same (cloned_to x.1 (port_of sessions x.0)) (cloned_to y.1 (port_of sessions n)) in
    subst P alike.0 (made_alike_at fit same x.1 y.1 (port_of sessions x.0) alike.1 (port_fits fit.port sessions x.0 ports))
made_alike fit same sessions ports _ _ alike = absurd alike

module _ {S T Q R H K : Type 0} (state : S → T → Type 0) (kept : Q → R → Type 0) (held : H → K → Type 0) (fit : Fit) where
  ingress_clones_alike : (o p : List ℕ) (from : ℕ) → o ≡ p → fit.octets o → fit.port from → (x : Option (ℕ × Q)) (y : Option (ℕ × R)) → AlikeMade fit kept x y → Zip (AlikeJob fit kept held) (ingress_clones o from x) (ingress_clones p from y)
  ingress_clones_alike o p from same octets port None None made = tt
  ingress_clones_alike o p from same octets port (Some x) (Some y) made =
      ((made.0, made.1, record { octets = same; port = refl; instance = refl; preserved = made.2; fits_octets = octets; fits_port = port; fits_instance = omega arith }), tt)
  ingress_clones_alike o p from same octets port _ _ made = absurd made

  egress_clones_alike : (x : Option (ℕ × H)) (y : Option (ℕ × K)) → AlikeMade fit held x y → Zip (AlikeJob fit kept held) (egress_clones x) (egress_clones y)
  egress_clones_alike None None made = tt
  egress_clones_alike (Some x) (Some y) made = (made, tt)
  egress_clones_alike _ _ made = absurd made

  queued_again_alike : (from : ℕ) → fit.port from → (x : EgressNext Q) (y : EgressNext R) → AlikeEgressNext fit kept x y → Zip (AlikeJob fit kept held) (queued_again from x) (queued_again from y)
  queued_again_alike from fits egress.Drop egress.Drop same = tt
  queued_again_alike from fits (egress.Recirculate o q) (egress.Recirculate p r) same =
      (record { octets = same.0; port = refl; instance = refl; preserved = same.2; fits_octets = same.1; fits_port = fits; fits_instance = omega arith }, tt)
  queued_again_alike from fits (egress.Send o) (egress.Send p) same = tt
  queued_again_alike from fits _ _ same = absurd same

  sent_alike : (port : ℕ) (x : EgressNext Q) (y : EgressNext R) → AlikeEgressNext fit kept x y → sent_by port x ≡ sent_by port y
  sent_alike port egress.Drop egress.Drop same = refl
  sent_alike port (egress.Recirculate o q) (egress.Recirculate p r) same = refl
  sent_alike port (egress.Send o) (egress.Send p) same =
      let F : List ℕ → List Out = λ octets. record { port = port; octets = octets } ∷ [] in ap F same
  sent_alike port _ _ same = absurd same

  module _ (sessions : List Session) (ports : All (FitsSession fit) sessions) (from : ℕ) (fits : fit.port from) (a : Machine S Q H) (b : Machine T R K) (alike : SamePasses fit state kept held a b) where
    egress_alike : (s : S) (t : T) (h : H) (k : K) (port instance : ℕ) → state s t → held h k → fit.port port → instance < 2 ^ 32 → AlikeEnd state (AlikeJob fit kept held) (after_egress sessions from port (a.egress s h port instance)) (after_egress sessions from port (b.egress t k port instance))
    egress_alike s t h k port instance states helds bound small =
        let d = a.egress s h port instance in
        let e = b.egress t k port instance in
        let same = alike.egress s t h k port instance states helds bound small in
        let made = made_alike fit held sessions ports d.0.clone e.0.clone same.0.0 in (
          same.1,
          zip_append (AlikeJob fit kept held) (egress_clones (clone_of sessions d.0.clone)) (queued_again from d.0.end) (egress_clones (clone_of sessions e.0.clone)) (queued_again from e.0.end) (egress_clones_alike (clone_of sessions d.0.clone) (clone_of sessions e.0.clone) made) (queued_again_alike from fits d.0.end e.0.end same.0.1),
          sent_alike port d.0.end e.0.end same.0.1,
        )

    after_ingress_alike : (s : S) (t : T) (i : Item Q) (j : Item R) (x : IngressNext Q H) (y : IngressNext R K) → state s t → AlikeItem fit kept i j → AlikeIngressNext fit kept held x y → AlikeEnd state (AlikeJob fit kept held) (after_ingress a sessions from i s x) (after_ingress b sessions from j t y)
    after_ingress_alike s t i j (ingress.Resubmit q) (ingress.Resubmit r) states items same =
        (states, (record { octets = items.octets; port = refl; instance = refl; preserved = same; fits_octets = items.fits_octets; fits_port = fits; fits_instance = omega arith }, tt), refl)
    after_ingress_alike s t i j ingress.Drop ingress.Drop states items same = (states, tt, refl)
    after_ingress_alike s t i j (ingress.Go p h) (ingress.Go o k) states items same =
        let P : ℕ → ℕ → Type 0 = λ o n. AlikeEnd state (AlikeJob fit kept held) (after_egress sessions from p (a.egress s h p i.instance)) (after_egress sessions from o (b.egress t k o n)) in
        subst (λ o. P o j.instance) same.0 (subst (P p) items.instance (egress_alike s t h k p i.instance states same.2 same.1 items.fits_instance))
    after_ingress_alike s t i j _ _ states items same = absurd same

    pass_alike : (s : S) (t : T) (x : Job Q H) (y : Job R K) → state s t → AlikeJob fit kept held x y → AlikeEnd state (AlikeJob fit kept held) (pass a sessions from s x) (pass b sessions from t y)
    pass_alike s t (Ordinary i) (Ordinary j) states same =
        let d = a.ingress s i in
        let e = b.ingress t j in
        let step = alike.ingress s t i j states same in
        let made = made_alike fit kept sessions ports d.0.clone e.0.clone step.0.0 in
        let rest = after_ingress_alike d.1 e.1 i j d.0.next e.0.next step.1 same step.0.1 in (
          rest.0,
          zip_append (AlikeJob fit kept held) (ingress_clones i.octets from (clone_of sessions d.0.clone)) (after_ingress a sessions from i d.1 d.0.next).queued (ingress_clones j.octets from (clone_of sessions e.0.clone)) (after_ingress b sessions from j e.1 e.0.next).queued (ingress_clones_alike i.octets j.octets from same.octets same.fits_octets fits (clone_of sessions d.0.clone) (clone_of sessions e.0.clone) made) rest.1,
          rest.2,
        )
    pass_alike s t (IngressClone p i) (IngressClone o j) states same =
        let d = a.reparse s i in
        let e = b.reparse t j in
        let step = alike.reparse s t i j states same.2 in
        let P : ℕ → ℕ → Type 0 = λ o n. AlikeEnd state (AlikeJob fit kept held) (after_egress sessions from p (a.egress d.1 d.0 p i.instance)) (after_egress sessions from o (b.egress e.1 e.0 o n)) in
        subst (λ o. P o j.instance) same.0 (subst (P p) same.2.instance (egress_alike d.1 e.1 d.0 e.0 p i.instance step.1 step.0 same.1 same.2.fits_instance))
    pass_alike s t (EgressClone p h) (EgressClone o k) states same =
        let P : ℕ → Type 0 = λ o. AlikeEnd state (AlikeJob fit kept held) (after_egress sessions from p (a.egress s h p 2)) (after_egress sessions from o (b.egress t k o 2)) in
        subst P same.0 (egress_alike s t h k p 2 states same.2 same.1 (omega arith))
    pass_alike s t _ _ states same = absurd same

  module _ (sessions : List Session) (ports : All (FitsSession fit) sessions) (a : Machine S Q H) (b : Machine T R K) (alike : SamePasses fit state kept held a b) (bound : ℕ) where
    pub fabric_alike : (s : S) (t : T) (arrival : Arrival) → state s t → FitsArrival fit arrival → AlikeRun state (fabric a sessions bound s arrival) (fabric b sessions bound t arrival)
    fabric_alike s t arrival states fits =
        let first = alike.nothing s t states in
        run_alike state (AlikeJob fit kept held) (pass a sessions arrival.port) (pass b sessions arrival.port) (pass_alike sessions ports arrival.port fits.1 a b alike) bound (a.nothing s).1 (b.nothing t).1
        (Ordinary (item arrival.octets arrival.port 0 (a.nothing s).0) ∷ []) (Ordinary (item arrival.octets arrival.port 0 (b.nothing t).0) ∷ [])
        first.1 (record { octets = refl; port = refl; instance = refl; preserved = first.0; fits_octets = fits.0; fits_port = fits.1; fits_instance = omega arith }, tt)

    pub fabric_from_alike : (number : ℕ) (s : S) (t : T) (arrivals : List Arrival) → state s t → All (FitsArrival fit) arrivals → AlikeWhole state (fabric_from a sessions bound number s arrivals) (fabric_from b sessions bound number t arrivals)
    fabric_from_alike number s t [] states all = (refl, refl, states)
    fabric_from_alike number s t (arrival ∷ arrivals) states all =
        let f = fabric a sessions bound s arrival in
        let g = fabric b sessions bound t arrival in
        let first = fabric_alike s t arrival states (all_first (FitsArrival fit) arrival arrivals all) in
        let rest = fabric_from_alike (number + 1) f.state g.state arrivals first.2 (all_rest (FitsArrival fit) arrival arrivals all) in
        let more = fabric_from a sessions bound (number + 1) f.state arrivals in (
          ap (λ sent. map (numbered number) sent ++ more.sent) first.0 ∙ ap (λ sent. map (numbered number) g.sent ++ sent) rest.0,
          ap (λ cut. cut + more.cut) first.1 ∙ ap (λ cut. g.cut + cut) rest.1,
          rest.2,
        )

-- from states that correspond, over every bound and every list of arrivals that fit
pub same_fates_of : {S T Q R H K : Type 0} (state : S → T → Type 0) (kept : Q → R → Type 0) (held : H → K → Type 0) (fit : Fit) (sessions : List Session) → All (FitsSession fit) sessions → (a : Machine S Q H) (b : Machine T R K) → SamePasses fit state kept held a b → (s : S) (t : T) → state s t → SameFates fit state sessions a b s t
same_fates_of state kept held fit sessions ports a b alike s t states bound arrivals fits = fabric_from_alike state kept held fit sessions ports a b alike bound 0 s t arrivals states fits
