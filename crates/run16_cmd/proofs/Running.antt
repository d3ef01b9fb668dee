-- What the runner does is what the program means.
use Rattle.std.proofs.Common.{◌≡◌, ℕ, ◌+◌, ◌%◌, ◌^◌, ◌≤◌, ◌<◌, min, List, [], ◌∷◌, ◌++◌, map, Option, Result, refl, sym, ◌∙◌, ap, ap₂, subst, arith, zero-add}
use Rattle.std.proofs.Math.Nat.{mod-eq_of_lt}
use Rattle.state_store.specs.declared.ports.Session.{Session}
use Rattle.match_core.specs.declared.signatures.Signature.{Signature}
use Rattle.fabric.specs.declared.packets.Arrival.{Arrival}
use Rattle.fabric.specs.declared.packets.Out.{Out}
use Rattle.fabric.specs.declared.packets.Sent.{Sent}
use Rattle.fabric.specs.Fabric.{fabric, fabric_from, Whole}
use Rattle.fabric.specs.Numbers.{IsBound}
use Rattle.fabric.specs.Queue.{Run}
use Rattle.fabric.proofs.QueueRuns.{few_fabric}
use Rattle.file_work.specs.declared.stop.Stop.{Stop}
use Rattle.run_stream.specs.Captured.{Reports, DeliversLine, reports_over}
use Rattle.run_stream.specs.Runs.{Ran, run_of}
use Rattle.run_stream.specs.Runs as running
use Rattle.run_stream.proofs.Whole.{same_reports}
use Rattle.v1_core.specs.Surroundings.{Setting}
use Rattle.v1_core.specs.Passes.{Between}
use Rattle.v1_core.specs.Runs.{machine16, before, Run16}
use Rattle.v1_core.specs.Signatures.{signature16}
use Rattle.v1model_runner.specs.Runs.{IsBehind}
use Rattle.run16_cmd.specs.Run16.{this_run, own_lines, capture_reports, ran_word}
use Rattle.run16_cmd.specs.internal.Runner.{Running16, bound_of, outcome16, lines16}

within : (bound : ℕ) → IsBound bound → min bound 65536 ≡ bound
within bound bounded = omega (arith, bounded.1)

-- what one packet leaves

module _ (r : Running16) (bounded : IsBound r.bound) (b t : Between) (a : Arrival) (sent : List Out) (cut : ℕ)
    (is : fabric (machine16 r.program) r.sessions r.bound b a ≡ record { state = t; sent = sent; cut = cut }) where
  same : fabric (machine16 r.program) r.sessions (bound_of r) b a ≡ record { state = t; sent = sent; cut = cut }
  same = ap (λ (n : ℕ). fabric (machine16 r.program) r.sessions n b a) (within r.bound bounded) ∙ is

  pub one_stored : t ≡ (outcome16 r b a).store
  unfolding outcome16
  one_stored = sym (ap (λ (x : Run Between). x.state) same)

  pub one_sent : sent ≡ (outcome16 r b a).sent
  unfolding outcome16
  one_sent = sym (ap (λ (x : Run Between). x.sent) same)

  pub one_cut : cut ≡ (outcome16 r b a).cut % 2 ^ 64
  unfolding outcome16
  one_cut =
      let few = (few_fabric (machine16 r.program) r.sessions (bound_of r) b a).1 in
      let bound : bound_of r ≤ 65536 = omega arith in
      let small : (fabric (machine16 r.program) r.sessions (bound_of r) b a).cut < 2 ^ 64 = omega (arith, few, bound) in
      sym (ap (λ (x : Run Between). x.cut) same) ∙ sym (mod-eq_of_lt small)

-- the work is counted with the store
pub no_work : (r : Running16) (b : Between) (a : Arrival) → 0 ≡ (0 + (outcome16 r b a).work) % 2 ^ 64
unfolding outcome16
no_work r b a = refl

-- The whole run.

record IsSame (ran : Ran Between) (whole : Whole Between) : Type 0 where
  sent : ran.sent ≡ whole.sent
  store : ran.store ≡ whole.state
  cut : ran.cut ≡ whole.cut
  work : ran.work ≡ 0

run_by : (r : Running16) (number : ℕ) (b : Between) (arrivals : List Arrival)
    → IsSame (running.run_from (outcome16 r) number b arrivals) (fabric_from (machine16 r.program) r.sessions (bound_of r) number b arrivals)
unfolding outcome16
run_by r number b [] = record { sent = refl; store = refl; cut = refl; work = refl }
run_by r number b (a ∷ arrivals) =
    let o = outcome16 r b a in
    let rest = run_by r (number + 1) o.store arrivals in
    record {
      sent = ap (λ (y : List Sent). map (running.numbered number) o.sent ++ y) rest.sent;
      store = rest.store;
      cut = ap (λ (y : ℕ). o.cut + y) rest.cut;
      work = zero-add (running.run_from (outcome16 r) (number + 1) o.store arrivals).work ∙ rest.work;
    }

same_ran : (ran : Ran Between) (whole : Whole Between) → IsSame ran whole → ran ≡ record { sent = whole.sent; store = whole.state; cut = whole.cut; work = 0 }
same_ran ran whole is =
    let F : List Sent → Between → ℕ → ℕ → Ran Between = λ sent store cut work. record { sent = sent; store = store; cut = cut; work = work } in
    ap (λ x. F x ran.store ran.cut ran.work) is.sent
    ∙ ap (λ x. F whole.sent x ran.cut ran.work) is.store
    ∙ ap (λ x. F whole.sent whole.state x ran.work) is.cut
    ∙ ap (F whole.sent whole.state whole.cut) is.work

-- a runner that is set up with a program and its entries
abbrev pub set_up : Setting → Signature → List Session → ℕ → Running16
set_up p g l bound = record { program = p; signature = g; sessions = l; bound = bound }

abbrev set_for : Setting → ℕ → Running16
set_for c bound = set_up c (signature16 c.syntax) c.entries.sessions bound

run_is : (c : Setting) (bound : ℕ) → IsBound bound → (arrivals : List Arrival) → run_of (outcome16 (set_for c bound)) (before c) arrivals ≡ this_run c bound arrivals
unfolding Run16
run_is c bound bounded arrivals =
    let r = set_for c bound in
    same_ran (run_of (outcome16 r) (before c) arrivals) (fabric_from (machine16 c) c.entries.sessions (bound_of r) 0 (before c) arrivals) (run_by r 0 (before c) arrivals)
    ∙ ap (λ (n : ℕ). let whole = fabric_from (machine16 c) c.entries.sessions n 0 (before c) arrivals in let ran : Ran Between = record { sent = whole.sent; store = whole.state; cut = whole.cut; work = 0 } in ran) (within bound bounded)

set_same : (p c : Setting) (g : Signature) (l : List Session) (bound : ℕ) → p ≡ c → g ≡ signature16 c.syntax → l ≡ c.entries.sessions → set_up p g l bound ≡ set_for c bound
set_same p c g l bound program signature sessions =
    ap (λ (x : Setting). set_up x g l bound) program
    ∙ ap (λ (x : Signature). set_up c x l bound) signature
    ∙ ap (λ (x : List Session). set_up c (signature16 c.syntax) x bound) sessions

-- the setting stays
pub setting_kept : (p q : Setting) (g : Signature) (l m : List Session) (bound n : ℕ) → p ≡ q → l ≡ m → bound ≡ n → set_up p g l bound ≡ set_up q g m n
setting_kept p q g l m bound n program sessions is =
    ap (λ (x : Setting). set_up x g l bound) program
    ∙ ap (λ (x : List Session). set_up q g x bound) sessions
    ∙ ap (λ (x : ℕ). set_up q g m x) is

-- what the runner delivers is what is due of the program
delivers_run : (p c : Setting) (g : Signature) (l : List Session) (bound : ℕ) → IsBound bound → (b : Between) → p ≡ c → g ≡ signature16 c.syntax → l ≡ c.entries.sessions
    → b ≡ before c → (ports : List ℕ) (file : Option (List ℕ)) (end : Result (List ℕ) Stop) (sent sent' report report' : Option (Option (List ℕ)))
    → DeliversLine ran_word (reports_over (lines16 (set_up p g l bound)) (run_of (outcome16 (set_up p g l bound)) b) ports file) end sent sent' report report'
    → DeliversLine ran_word (capture_reports c bound ports file) end sent sent' report report'
delivers_run p c g l bound bounded b program signature sessions first ports file end sent sent' report report' so =
    let same =
    ap₂ (λ (r : Running16) (x : Between). reports_over (lines16 r) (run_of (outcome16 r) x) ports file) (set_same p c g l bound program signature sessions) first
    ∙ same_reports (own_lines c) (run_of (outcome16 (set_for c bound)) (before c)) (this_run c bound) (run_is c bound bounded) ports file in
    subst (λ (x : Reports). DeliversLine ran_word x end sent sent' report report') same so

-- the same under equal names of the bound and of the ports
delivers_so : (p c : Setting) (g : Signature) (l : List Session) (bound n : ℕ) (ports held : List ℕ) (b : Between) → IsBound n → bound ≡ n → ports ≡ held → p ≡ c → g ≡ signature16 c.syntax
    → l ≡ c.entries.sessions → b ≡ before c → (file : Option (List ℕ)) (end : Result (List ℕ) Stop) (sent sent' report report' : Option (Option (List ℕ)))
    → DeliversLine ran_word (reports_over (lines16 (set_up p g l bound)) (run_of (outcome16 (set_up p g l bound)) b) ports file) end sent sent' report report'
    → DeliversLine ran_word (capture_reports c n held file) end sent sent' report report'
delivers_so p c g l bound n ports held b bounded bound_is ports_are program signature sessions first file end sent sent' report report' so =
    let under = subst (λ (x : ℕ). DeliversLine ran_word (reports_over (lines16 (set_up p g l x)) (run_of (outcome16 (set_up p g l x)) b) ports file) end sent sent' report report') bound_is so in
    subst (λ (x : List ℕ). DeliversLine ran_word (capture_reports c n x file) end sent sent' report report') ports_are
    (delivers_run p c g l n bounded b program signature sessions first ports file end sent sent' report report' under)

-- a run begins from before its first packet
begins_before : (c : Setting) (bound : ℕ) → (Run16 c bound []).state ≡ before c
unfolding Run16
begins_before c bound = refl

-- the same of a runner that is set up with one that stands before its first packet
pub delivers_behind : (c : Setting) (n : ℕ) (p q : Setting) (g : Signature) (l m : List Session) (bound k : ℕ) (ports held : List ℕ) (b d : Between) → IsBound n → IsBehind c n [] q m d
    → p ≡ q → l ≡ m → bound ≡ k → b ≡ d → k ≡ n → g ≡ signature16 c.syntax → ports ≡ held → (file : Option (List ℕ)) (end : Result (List ℕ) Stop) (sent sent' report report' : Option (Option (List ℕ)))
    → DeliversLine ran_word (reports_over (lines16 (set_up p g l bound)) (run_of (outcome16 (set_up p g l bound)) b) ports file) end sent sent' report report'
    → DeliversLine ran_word (capture_reports c n held file) end sent sent' report report'
delivers_behind c n p q g l m bound k ports held b d bounded behind program sessions bound_is between passes signature ports_are =
    delivers_so p c g l bound n ports held b bounded (bound_is ∙ passes) ports_are (program ∙ behind.runs_it) signature (sessions ∙ behind.sessions_are) (between ∙ behind.state_is ∙ begins_before c n)
