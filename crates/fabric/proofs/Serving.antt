-- The first pass of a packet that comes in, and then those of all that comes of it.
use Rattle.std.proofs.Common.{◌≡◌, ℕ, ◌+◌, ◌*◌, ◌-◌, ◌%◌, ◌^◌, ◌≤◌, List, [], ◌∷◌, length, sym, ap, ◌∙◌, subst, arith}
use Rattle.state_store.specs.declared.ports.Session.{Session}
use Rattle.fabric.specs.declared.packets.Arrival.{Arrival}
use Rattle.fabric.specs.declared.items.Job.{Job}
use Rattle.fabric.specs.declared.items.Job.TheVariants.{Ordinary}
use Rattle.fabric.specs.declared.fates.Progress.{Progress}
use Rattle.fabric.specs.Numbers.{IsBound}
use Rattle.fabric.specs.Queue.{Run, run, send_first}
use Rattle.fabric.specs.Owned.{Own}
use Rattle.fabric.specs.Fabric.{Machine, item, pass, fabric}
use Rattle.fabric.specs.internal.Progress.{IsOwnJob, Leaves, left_at}
use Rattle.fabric.proofs.QueueRuns.{run_begins, few_fabric}

pub served : {T S Q H : Type 0} (machine_of : T → Machine S Q H) (own_of : T → Own Q H) (t0 t1 t2 : T) (sessions : List Session) (bound : ℕ) (s0 s1 s2 s3 : S) (arrival : Arrival) (kept : Q) (octets : List ℕ) (before first last : Progress (Job Q H)) (cut : ℕ) → IsBound bound → t1 ≡ t0 → t2 ≡ t1 → before.queue ≡ [] → before.sent ≡ [] → octets ≡ arrival.octets → (machine_of t0).nothing s0 ≡ (kept, s1) → Leaves (IsOwnJob (own_of t1)) (pass (machine_of t1) sessions arrival.port s1 (Ordinary (item octets arrival.port 0 kept))) s2 before first → send_first first.sent (run (pass (machine_of t2) sessions arrival.port) (bound - 1) s2 first.queue) ≡ left_at s3 last → cut ≡ length last.queue % 2 ^ 64 → fabric (machine_of t0) sessions bound s0 arrival ≡ record { state = s3; sent = last.sent; cut = cut }
served {T} {S} {Q} {H} machine_of own_of t0 t1 t2 sessions bound s0 s1 s2 s3 arrival kept octets before first last cut fits same again idle unsent copied nothing leaves rest few =
    let step = λ (t : T). pass (machine_of t) sessions arrival.port in
    let came : Job Q H = Ordinary (item arrival.octets arrival.port 0 kept) in
    let made : Leaves (IsOwnJob (own_of t0)) (step t0 s1 came) s2 before first = rw (same, copied) at leaves in
    let begun : send_first first.sent (run (step t0) (bound - 1) s2 first.queue) ≡ run (step t0) bound s1 (came ∷ []) =
    run_begins (IsOwnJob (own_of t0)) (step t0) bound s1 s2 came before first (omega (arith, fits.0)) (λ i. record { queue = idle i; sent = unsent i }) made in
    let all : run (step t0) bound s1 (came ∷ []) ≡ fabric (machine_of t0) sessions bound s0 arrival =
    sym (ap (λ (k : Q × S). run (step t0) bound k.1 (Ordinary (item arrival.octets arrival.port 0 k.0) ∷ [])) nothing) in
    let left : send_first first.sent (run (step t0) (bound - 1) s2 first.queue) ≡ left_at s3 last =
    subst (λ (t : T). send_first first.sent (run (step t) (bound - 1) s2 first.queue) ≡ left_at s3 last) (again ∙ same) rest in
    let fate : fabric (machine_of t0) sessions bound s0 arrival ≡ left_at s3 last = sym (begun ∙ all) ∙ left in
    let most : length last.queue ≤ 2 * bound + 1 =
    subst (λ (r : Run S). r.cut ≤ 2 * bound + 1) fate (few_fabric (machine_of t0) sessions bound s0 arrival).1 in
    let F : ℕ → Run S = λ n. record { state = s3; sent = last.sent; cut = n } in
    let exact : length last.queue ≡ cut = omega (arith, most, fits, few) in
    fate ∙ ap F exact
