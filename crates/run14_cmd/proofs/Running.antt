-- What the runner does is what the program means, whatever tables were applied before a packet came in.
use Rattle.std.proofs.Common.{◌≡◌, ℕ, ◌+◌, ◌%◌, ◌^◌, ◌≤◌, ◌<◌, min, List, [], ◌∷◌, ◌++◌, map, Option, Result, refl, sym, ◌∙◌, ap, ap₂, subst, arith, zero-add}
use Rattle.std.proofs.Math.Nat.{mod-eq_of_lt}
use Rattle.state_store.specs.State.{Contents}
use Rattle.state_store.specs.declared.ports.Session.{Session}
use Rattle.match_core.specs.Stores.{first_store}
use Rattle.match_core.specs.declared.signatures.Signature.{Signature}
use Rattle.fabric.specs.declared.packets.Arrival.{Arrival}
use Rattle.fabric.specs.declared.packets.Out.{Out}
use Rattle.fabric.specs.declared.packets.Sent.{Sent}
use Rattle.fabric.specs.Fabric.{fabric, fabric_from, Whole}
use Rattle.fabric.specs.Numbers.{IsBound}
use Rattle.fabric.specs.Queue.{Run}
use Rattle.fabric.specs.Twins.{AlikeRun}
use Rattle.fabric.proofs.QueueRuns.{few_fabric}
use Rattle.file_work.specs.declared.stop.Stop.{Stop}
use Rattle.run_stream.specs.Captured.{Reports, DeliversLine, reports_over}
use Rattle.run_stream.specs.Runs.{Ran, run_of}
use Rattle.run_stream.specs.Runs as running
use Rattle.run_stream.proofs.Whole.{same_reports}
use Rattle.p414_sem.specs.Controls.{Setting}
use Rattle.p414_sem.specs.Runs.{Between, machine14, Run14}
use Rattle.p414_sem.specs.Signatures.{signature14}
use Rattle.p414_pipe_run.specs.Packed.{OneStore, packed_machine}
use Rattle.run14_cmd.specs.Run14.{this_run, own_lines, capture_reports, ran_word}
use Rattle.run14_cmd.specs.internal.Runner.{Running14, fresh, bound_of, outcome14, lines14}

-- the law of the passes: they do what the program's passes do, whatever tables were applied before
abbrev pub Passing : Type 0
Passing =
    (c : Setting) (sessions : List Session) (bound : ℕ) (s t : Between) (a : Arrival) → OneStore s t
    → AlikeRun OneStore (fabric (packed_machine c) sessions bound s a) (fabric (machine14 c) sessions bound t a)

within : (bound : ℕ) → IsBound bound → min bound 65536 ≡ bound
within bound bounded = omega (arith, bounded.1)

-- what one packet leaves

module _ (law : Passing) (r : Running14) (bounded : IsBound r.bound) (s t : Between) (a : Arrival) (sent : List Out) (cut : ℕ)
    (is : fabric (packed_machine r.program) r.sessions r.bound s a ≡ record { state = t; sent = sent; cut = cut }) where
  alike : AlikeRun OneStore (fabric (packed_machine r.program) r.sessions r.bound s a) (fabric (machine14 r.program) r.sessions (bound_of r) (fresh s.store) a)
  alike =
      subst (λ (n : ℕ). AlikeRun OneStore (fabric (packed_machine r.program) r.sessions r.bound s a) (fabric (machine14 r.program) r.sessions n (fresh s.store) a)) (sym (within r.bound bounded))
      (law r.program r.sessions r.bound s (fresh s.store) a refl)

  pub one_stored : t.store ≡ (outcome14 r s.store a).store
  unfolding outcome14
  one_stored = sym (ap (λ (x : Run Between). x.state.store) is) ∙ alike.2

  pub one_sent : sent ≡ (outcome14 r s.store a).sent
  unfolding outcome14
  one_sent = sym (ap (λ (x : Run Between). x.sent) is) ∙ alike.0

  pub one_cut : cut ≡ (outcome14 r s.store a).cut % 2 ^ 64
  unfolding outcome14
  one_cut =
      let few = (few_fabric (machine14 r.program) r.sessions (bound_of r) (fresh s.store) a).1 in
      let bound : bound_of r ≤ 65536 = omega arith in
      let small : (fabric (machine14 r.program) r.sessions (bound_of r) (fresh s.store) a).cut < 2 ^ 64 = omega (arith, few, bound) in
      sym (ap (λ (x : Run Between). x.cut) is) ∙ alike.1 ∙ sym (mod-eq_of_lt small)

-- no work is counted
pub no_work : (r : Running14) (store : Contents) (a : Arrival) → 0 ≡ (0 + (outcome14 r store a).work) % 2 ^ 64
unfolding outcome14
no_work r store a = refl

-- The whole run.

own_alike : Passing → (c : Setting) (sessions : List Session) (bound : ℕ) (store : Contents) (t : Between) → store ≡ t.store → (a : Arrival)
    → AlikeRun OneStore (fabric (machine14 c) sessions bound (fresh store) a) (fabric (machine14 c) sessions bound t a)
own_alike law c sessions bound store t same a =
    let one = law c sessions bound t (fresh store) a (sym same) in
    let other = law c sessions bound t t a refl in
    (sym one.0 ∙ other.0, sym one.1 ∙ other.1, sym one.2 ∙ other.2)

record IsSame (ran : Ran Contents) (whole : Whole Between) : Type 0 where
  sent : ran.sent ≡ whole.sent
  store : ran.store ≡ whole.state.store
  cut : ran.cut ≡ whole.cut
  work : ran.work ≡ 0

run_by : Passing → (r : Running14) (number : ℕ) (store : Contents) (t : Between) → store ≡ t.store → (arrivals : List Arrival)
    → IsSame (running.run_from (outcome14 r) number store arrivals) (fabric_from (machine14 r.program) r.sessions (bound_of r) number t arrivals)
unfolding outcome14
run_by law r number store t same [] = record { sent = refl; store = same; cut = refl; work = refl }
run_by law r number store t same (a ∷ arrivals) =
    let o = outcome14 r store a in
    let fate = fabric (machine14 r.program) r.sessions (bound_of r) t a in
    let one = own_alike law r.program r.sessions (bound_of r) store t same a in
    let rest = run_by law r (number + 1) o.store fate.state one.2 arrivals in
    record {
      sent = ap₂ (λ (x : List Out) (y : List Sent). map (running.numbered number) x ++ y) one.0 rest.sent;
      store = rest.store;
      cut = ap₂ (λ (x y : ℕ). x + y) one.1 rest.cut;
      work = zero-add (running.run_from (outcome14 r) (number + 1) o.store arrivals).work ∙ rest.work;
    }

same_ran : (ran : Ran Contents) (whole : Whole Between) → IsSame ran whole → ran ≡ record { sent = whole.sent; store = whole.state.store; cut = whole.cut; work = 0 }
same_ran ran whole is =
    let F : List Sent → Contents → ℕ → ℕ → Ran Contents = λ sent store cut work. record { sent = sent; store = store; cut = cut; work = work } in
    ap (λ x. F x ran.store ran.cut ran.work) is.sent
    ∙ ap (λ x. F whole.sent x ran.cut ran.work) is.store
    ∙ ap (λ x. F whole.sent whole.state.store x ran.work) is.cut
    ∙ ap (F whole.sent whole.state.store whole.cut) is.work

-- a runner that is set up with a program and its entries
abbrev pub set_up : Setting → Signature → List Session → ℕ → Running14
set_up p g l bound = record { program = p; signature = g; sessions = l; bound = bound }

abbrev set_for : Setting → ℕ → Running14
set_for c bound = set_up c (signature14 c.decls) c.entries.sessions bound

run_is : Passing → (c : Setting) (bound : ℕ) → IsBound bound → (arrivals : List Arrival) → run_of (outcome14 (set_for c bound)) (first_store (signature14 c.decls) c.entries) arrivals ≡ this_run c bound arrivals
unfolding Run14
run_is law c bound bounded arrivals =
    let store = first_store (signature14 c.decls) c.entries in
    let r = set_for c bound in
    same_ran (run_of (outcome14 r) store arrivals) (fabric_from (machine14 c) c.entries.sessions (bound_of r) 0 (fresh store) arrivals) (run_by law r 0 store (fresh store) refl arrivals)
    ∙ ap (λ (n : ℕ). let whole = fabric_from (machine14 c) c.entries.sessions n 0 (fresh store) arrivals in let ran : Ran Contents = record { sent = whole.sent; store = whole.state.store; cut = whole.cut; work = 0 } in ran) (within bound bounded)

set_same : (p c : Setting) (g : Signature) (l : List Session) (bound : ℕ) → p ≡ c → g ≡ signature14 c.decls → l ≡ c.entries.sessions → set_up p g l bound ≡ set_for c bound
set_same p c g l bound program signature sessions =
    ap (λ (x : Setting). set_up x g l bound) program
    ∙ ap (λ (x : Signature). set_up c x l bound) signature
    ∙ ap (λ (x : List Session). set_up c (signature14 c.decls) x bound) sessions

-- the setting stays
pub setting_kept : (p q : Setting) (g : Signature) (l : List Session) (bound : ℕ) → p ≡ q → set_up p g l bound ≡ set_up q g l bound
setting_kept p q g l bound is = ap (λ (x : Setting). set_up x g l bound) is

-- what the runner delivers is what is due of the program
delivers_run : Passing → (p c : Setting) (g : Signature) (l : List Session) (bound : ℕ) → IsBound bound → (store : Contents) → p ≡ c → g ≡ signature14 c.decls → l ≡ c.entries.sessions
    → store ≡ first_store (signature14 c.decls) c.entries → (ports : List ℕ) (file : Option (List ℕ)) (end : Result (List ℕ) Stop) (sent sent' report report' : Option (Option (List ℕ)))
    → DeliversLine ran_word (reports_over (lines14 (set_up p g l bound)) (run_of (outcome14 (set_up p g l bound)) store) ports file) end sent sent' report report'
    → DeliversLine ran_word (capture_reports c bound ports file) end sent sent' report report'
delivers_run law p c g l bound bounded store program signature sessions first ports file end sent sent' report report' so =
    let same =
    ap₂ (λ (r : Running14) (x : Contents). reports_over (lines14 r) (run_of (outcome14 r) x) ports file) (set_same p c g l bound program signature sessions) first
    ∙ same_reports (own_lines c) (run_of (outcome14 (set_for c bound)) (first_store (signature14 c.decls) c.entries)) (this_run c bound) (run_is law c bound bounded) ports file in
    subst (λ (x : Reports). DeliversLine ran_word x end sent sent' report report') same so

-- the same under equal names of the bound and of the ports
pub delivers_so : Passing → (p c : Setting) (g : Signature) (l : List Session) (bound n : ℕ) (ports held : List ℕ) (store : Contents) → IsBound n → bound ≡ n → ports ≡ held → p ≡ c → g ≡ signature14 c.decls
    → l ≡ c.entries.sessions → store ≡ first_store (signature14 c.decls) c.entries → (file : Option (List ℕ)) (end : Result (List ℕ) Stop) (sent sent' report report' : Option (Option (List ℕ)))
    → DeliversLine ran_word (reports_over (lines14 (set_up p g l bound)) (run_of (outcome14 (set_up p g l bound)) store) ports file) end sent sent' report report'
    → DeliversLine ran_word (capture_reports c n held file) end sent sent' report report'
delivers_so law p c g l bound n ports held store bounded bound_is ports_are program signature sessions first file end sent sent' report report' so =
    let under = subst (λ (x : ℕ). DeliversLine ran_word (reports_over (lines14 (set_up p g l x)) (run_of (outcome14 (set_up p g l x)) store) ports file) end sent sent' report report') bound_is so in
    subst (λ (x : List ℕ). DeliversLine ran_word (capture_reports c n x file) end sent sent' report report') ports_are
    (delivers_run law p c g l n bounded store program signature sessions first ports file end sent sent' report report' under)
