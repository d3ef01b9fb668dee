-- The machine over values with the program that they are of does what that of v1_core does.
use Rattle.std.proofs.Common.{◌≡◌, ℕ, ◌+◌, List, [], ◌∷◌, ◌++◌, length, arith, Option, Some, None, option_map, All, refl, sym, ap, ◌∙◌, subst}
use Rattle.state_store.specs.declared.ports.Session.{Session}
use Rattle.fabric.specs.declared.packets.Arrival.{Arrival}
use Rattle.fabric.specs.declared.packets.Out.{Out}
use Rattle.fabric.specs.declared.packets.Sent.{Sent}
use Rattle.fabric.specs.declared.items.Item.{Item}
use Rattle.fabric.specs.declared.items.IngressNext.{IngressNext}
use Rattle.fabric.specs.declared.items.IngressNext.TheVariants as after_ingress
use Rattle.fabric.specs.declared.items.EgressNext.{EgressNext}
use Rattle.fabric.specs.declared.items.EgressNext.TheVariants as after_egress
use Rattle.fabric.specs.Queue.{Run}
use Rattle.std.proofs.lemmas.List.{append-nil}
use Rattle.fabric.specs.Fabric.{Whole, fabric, fabric_from, fabric_of, one_of, followed}
use Rattle.fabric.specs.Twins.{FitsSession, FitsArrival, SamePasses, AlikeItem, AlikeClone, AlikeIngressNext, AlikeIngress, AlikeEgressNext, AlikeEgress, AlikeRun, AlikeWhole, fit_any}
use Rattle.fabric.proofs.Joining.{joined_runs}
use Rattle.fabric.proofs.SameRuns.{fabric_alike, same_fates_of}
use Rattle.v1_core.specs.Values.{Value}
use Rattle.v1_core.specs.Surroundings.{Setting}
use Rattle.v1_core.specs.Passes.{Between, Held, ingress16, reparse16, egress16}
use Rattle.v1_core.specs.Runs.{machine16, before, Run16}
use Rattle.v1_passes.specs.Runs.{run_on}
use Rattle.v1_passes.specs.Tags.{Tagged, tagged, tagged_clone, tagged_next, tagged_ingress, tagged_end, tagged_egress, plain_item, tagged_machine}

abbrev Is : {A : Type 0} → Setting → Tagged A → A → Type 0
Is c x y = x ≡ tagged c y

abbrev SameState : Between → Between → Type 0
SameState s t = s ≡ t

clone_alike : {A : Type 0} (c : Setting) (x : Option (ℕ × A)) → AlikeClone (Is c) (option_map (tagged_clone c) x) x
clone_alike c None = tt
clone_alike c (Some x) = (refl, refl)

next_alike : (c : Setting) (x : IngressNext Value Held) → AlikeIngressNext fit_any (Is c) (Is c) (tagged_next c x) x
next_alike c (after_ingress.Resubmit kept) = refl
next_alike c after_ingress.Drop = tt
next_alike c (after_ingress.Go port held) = (refl, tt, refl)

end_alike : (c : Setting) (x : EgressNext Value) → AlikeEgressNext fit_any (Is c) (tagged_end c x) x
end_alike c after_egress.Drop = tt
end_alike c (after_egress.Recirculate octets kept) = (refl, tt, refl)
end_alike c (after_egress.Send octets) = refl

-- an item without the tag
item_plain : (c : Setting) (i : Item (Tagged Value)) (j : Item Value) → AlikeItem fit_any (Is c) i j → plain_item i ≡ j
item_plain c i j same =
    let F : List ℕ → ℕ → ℕ → Value → Item Value = λ o p n k. record { octets = o; port = p; instance = n; kept = k } in
    ap (λ (o : List ℕ). F o i.port i.instance i.kept.value) same.octets
    ∙ ap (λ (p : ℕ). F j.octets p i.instance i.kept.value) same.port
    ∙ ap (λ (n : ℕ). F j.octets j.port n i.kept.value) same.instance
    ∙ ap (λ (k : Tagged Value). F j.octets j.port j.instance k.value) same.preserved

abbrev SameSteps : Setting → Type 0
SameSteps c = SamePasses fit_any SameState (Is c) (Is c) (tagged_machine c) (machine16 c)

tagged_steps : (c : Setting) → SameSteps c
tagged_steps c = record {
  nothing = λ s t same. (refl, same);
  ingress = λ s t i j same items.
      let P : Between → Item Value → Type 0 = λ b k.
      AlikeIngress fit_any (Is c) (Is c) (tagged_ingress c (ingress16 c s (plain_item i)).0) (ingress16 c b k).0
      × ((ingress16 c s (plain_item i)).1 ≡ (ingress16 c b k).1) in
      let e = (ingress16 c s (plain_item i)).0 in
      subst (λ b. P b j) same (subst (P s) (item_plain c i j items) ((clone_alike c e.clone, next_alike c e.next), refl));
  reparse = λ s t i j same items.
      let P : Between → Item Value → Type 0 = λ b k.
      (tagged c (reparse16 c s (plain_item i)).0 ≡ tagged c (reparse16 c b k).0)
      × ((reparse16 c s (plain_item i)).1 ≡ (reparse16 c b k).1) in
      subst (λ b. P b j) same (subst (P s) (item_plain c i j items) (refl, refl));
  egress = λ s t h k port instance same held fits small.
      let P : Between → Held → Type 0 = λ b x.
      AlikeEgress fit_any (Is c) (Is c) (tagged_egress c (egress16 c s h.value port instance).0) (egress16 c b x port instance).0
      × ((egress16 c s h.value port instance).1 ≡ (egress16 c b x port instance).1) in
      let e = (egress16 c s h.value port instance).0 in
      let plain : h.value ≡ k = ap (λ (x : Tagged Held). x.value) held in
      subst (λ b. P b k) same (subst (P s) plain ((clone_alike c e.clone, end_alike c e.end), refl));
}

any_session : (sessions : List Session) → All (FitsSession fit_any) sessions
any_session sessions = λ k d lt. tt

any_arrival : (arrivals : List Arrival) → All (FitsArrival fit_any) arrivals
any_arrival arrivals = λ k d lt. (tt, tt)

-- so one packet has the same fate
pub one_fate : (c : Setting) (sessions : List Session) (bound : ℕ) (b : Between) (arrival : Arrival) → fabric (tagged_machine c) sessions bound b arrival ≡ fabric (machine16 c) sessions bound b arrival
one_fate c sessions bound b arrival =
    let x = fabric (tagged_machine c) sessions bound b arrival in
    let y = fabric (machine16 c) sessions bound b arrival in
    let F : List Out → ℕ → Between → Run Between = λ sent cut state. record { state = state; sent = sent; cut = cut } in
    let same : AlikeRun SameState x y = fabric_alike SameState (Is c) (Is c) fit_any sessions (any_session sessions) (tagged_machine c) (machine16 c) (tagged_steps c) bound b b arrival refl (tt, tt) in
    ap (λ (o : List Out). F o x.cut x.state) same.0 ∙ ap (λ (n : ℕ). F y.sent n x.state) same.1 ∙ ap (F y.sent y.cut) same.2

-- the same from a setting and a state that are told otherwise
pub one_fate_later : (c d : Setting) (sessions : List Session) (bound : ℕ) (b e : Between) (arrival : Arrival) (fate : Run Between) → d ≡ c → e ≡ b → fabric (tagged_machine d) sessions bound e arrival ≡ fate → fabric (machine16 c) sessions bound b arrival ≡ fate
one_fate_later c d sessions bound b e arrival fate setting state is =
    sym (one_fate c sessions bound b arrival)
    ∙ ap (λ (x : Between). fabric (tagged_machine c) sessions bound x arrival) (sym state)
    ∙ ap (λ (x : Setting). fabric (tagged_machine x) sessions bound e arrival) (sym setting)
    ∙ is

-- and so have many
pub all_fates : (c : Setting) (sessions : List Session) (bound : ℕ) (b : Between) (arrivals : List Arrival) → fabric_of (tagged_machine c) sessions bound b arrivals ≡ fabric_of (machine16 c) sessions bound b arrivals
all_fates c sessions bound b arrivals =
    let x = fabric_of (tagged_machine c) sessions bound b arrivals in
    let y = fabric_of (machine16 c) sessions bound b arrivals in
    let F : List Sent → ℕ → Between → Whole Between = λ sent cut state. record { state = state; sent = sent; cut = cut } in
    let same : AlikeWhole SameState x y = same_fates_of SameState (Is c) (Is c) fit_any sessions (any_session sessions) (tagged_machine c) (machine16 c) (tagged_steps c) b b refl bound arrivals (any_arrival arrivals) in
    ap (λ (o : List Sent). F o x.cut x.state) same.0 ∙ ap (λ (n : ℕ). F y.sent n x.state) same.1 ∙ ap (F y.sent y.cut) same.2

-- a run from the first store on
pub run_of : (c d : Setting) (sessions : List Session) (bound : ℕ) (b : Between) (arrivals : List Arrival) → d ≡ c → c.entries.sessions ≡ sessions → b ≡ before c → fabric_of (tagged_machine d) sessions bound b arrivals ≡ Run16 c bound arrivals
unfolding Run16
run_of c d sessions bound b arrivals same named begins =
    ap (λ (x : Setting). fabric_of (tagged_machine x) sessions bound b arrivals) same
    ∙ all_fates c sessions bound b arrivals
    ∙ ap (λ (ss : List Session). fabric_of (machine16 c) ss bound b arrivals) (sym named)
    ∙ ap (λ (x : Between). fabric_of (machine16 c) c.entries.sessions bound x arrivals) begins

-- a run over one packet more

none_behind : {S : Type 0} (x : Whole S) → followed x (record { state = x.state; sent = []; cut = 0 }) ≡ x
none_behind {S} x =
    let F : List Sent → ℕ → Whole S = λ sent cut. record { state = x.state; sent = sent; cut = cut } in
    ap (λ (s : List Sent). F s (x.cut + 0)) (append-nil x.sent) ∙ ap (F x.sent) (omega arith)

pub run_begins : (c : Setting) (bound : ℕ) → Run16 c bound [] ≡ record { state = before c; sent = []; cut = 0 }
unfolding Run16
run_begins c bound = refl

pub run_goes_on : (c : Setting) (bound : ℕ) (arrivals : List Arrival) (arrival : Arrival) → Run16 c bound (arrivals ++ arrival ∷ []) ≡ run_on c bound (length arrivals) (Run16 c bound arrivals) arrival
unfolding Run16
run_goes_on c bound arrivals arrival =
    let sessions : List Session = c.entries.sessions in
    let first : Whole Between = fabric_from (machine16 c) sessions bound 0 (before c) arrivals in
    let fate : Run Between = fabric (machine16 c) sessions bound first.state arrival in
    joined_runs (machine16 c) sessions bound 0 (before c) arrivals (arrival ∷ [])
    ∙ ap (λ (n : ℕ). followed first (followed (one_of n fate) (record { state = fate.state; sent = []; cut = 0 }))) (omega arith)
    ∙ ap (followed first) (none_behind (one_of (length arrivals) fate))
