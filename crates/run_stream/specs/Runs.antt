-- The run of a program over packets that arrive one after another (this project's own).
use Rattle.std.specs.Prelude.{ℕ, ◌+◌, ◌≤◌, List, [], ◌∷◌, ◌++◌, length, map}
use Rattle.fabric.specs.declared.packets.Arrival.{Arrival}
use Rattle.fabric.specs.declared.packets.Out.{Out}
use Rattle.fabric.specs.declared.packets.Sent.{Sent}
use Rattle.fabric.specs.Numbers.{most_passes}

-- What comes of one arrival: the packets that leave in order, the store as it is left, how many items the bound on
-- passes cut, and how many statements and transitions began.
pub record Outcome (C : Type 0) : Type 0 where
  pub sent : List Out
  pub store : C
  pub cut : ℕ
  pub work : ℕ

-- the same of a run, whose packets have the numbers of the arrivals that they came from
pub record Ran (C : Type 0) : Type 0 where
  pub sent : List Sent
  pub store : C
  pub cut : ℕ
  pub work : ℕ

-- a packet that leaves, under the number of its arrival
abbrev pub numbered : ℕ → Out → Sent
numbered number out = record { arrival = number; port = out.port; octets = out.octets }

-- what comes of the arrival of this number, as a run of its own
abbrev pub ran_once : {C : Type 0} → ℕ → Outcome C → Ran C
ran_once number one =
    record { sent = map (numbered number) one.sent; store = one.store; cut = one.cut; work = one.work }

-- one run, and another behind it
abbrev pub followed : {C : Type 0} → Ran C → Ran C → Ran C
followed a b = record { sent = a.sent ++ b.sent; store = b.store; cut = a.cut + b.cut; work = a.work + b.work }

-- The run over arrivals that are numbered from a number on, from a store on: each arrival finds the store as the one
-- before it left it.
abbrev pub run_from : {C : Type 0} → (C → Arrival → Outcome C) → ℕ → C → List Arrival → Ran C
run_from outcome number store [] = record { sent = []; store = store; cut = 0; work = 0 }
run_from outcome number store (a ∷ arrivals) =
    followed (ran_once number (outcome store a)) (run_from outcome (number + 1) (outcome store a).store arrivals)

-- the run over arrivals from number 0 on
abbrev pub run_of : {C : Type 0} → (C → Arrival → Outcome C) → C → List Arrival → Ran C
run_of outcome store arrivals = run_from outcome 0 store arrivals

-- No arrival gives more packets than there are passes at most, since a pass sends at most one.
abbrev pub AreFew : {C : Type 0} → (C → Arrival → Outcome C) → Type 0
AreFew {C = C} outcome = (store : C) (a : Arrival) → length (outcome store a).sent ≤ most_passes
