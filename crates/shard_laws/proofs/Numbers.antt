-- The numbers of arrivals among what is sent are those of the arrivals.
use Rattle.std.proofs.Common.{◌≡◌, ℕ, suc, ◌+◌, ◌<◌, List, [], ◌∷◌, length, map, All, subst, arith}
use Rattle.std.specs.List.{AllByRecursion}
use Rattle.std.proofs.lemmas.List.Elements.{All-nil, All-cons}
use Rattle.state_store.specs.declared.ports.Session.{Session}
use Rattle.fabric.specs.declared.packets.Arrival.{Arrival}
use Rattle.fabric.specs.declared.packets.Out.{Out}
use Rattle.fabric.specs.declared.packets.Sent.{Sent}
use Rattle.fabric.specs.Fabric.{Machine, fabric, fabric_from, numbered}
use Rattle.fabric.proofs.OwnJobs.{all_append}
use Rattle.v1_core.specs.Runs.{machine16, before, Run16}
use Rattle.shard_laws.specs.Laws.{IsOneOf, ArrivalsAreNumbered}

one_below : (number most : ℕ) (outs : List Out) → number < most → AllByRecursion (IsOneOf most) (map (numbered number) outs)
one_below number most [] lt = tt
one_below number most (out ∷ outs) lt = (lt, one_below number most outs lt)

numbers_below : {S Q H : Type 0} (machine : Machine S Q H) (sessions : List Session) (bound number : ℕ) (state : S) (arrivals : List Arrival) → AllByRecursion (IsOneOf (number + length arrivals)) (fabric_from machine sessions bound number state arrivals).sent
numbers_below machine sessions bound number state [] = tt
numbers_below machine sessions bound number state (arrival ∷ arrivals) =
    let fate = fabric machine sessions bound state arrival in
    let rest = fabric_from machine sessions bound (number + 1) fate.state arrivals in
    let same : number + 1 + length arrivals ≡ number + suc (length arrivals) = omega arith in
    all_append (IsOneOf (number + suc (length arrivals))) (map (numbered number) fate.sent) rest.sent (one_below number (number + suc (length arrivals)) fate.sent (omega arith))
    (subst (λ (n : ℕ). AllByRecursion (IsOneOf n) rest.sent) same (numbers_below machine sessions bound (number + 1) fate.state arrivals))

all_of : (P : Sent → Type 0) (xs : List Sent) → AllByRecursion P xs → All P xs
all_of P [] all = All-nil P
all_of P (x ∷ xs) all = All-cons P x xs all.0 (all_of P xs all.1)

pub arrivals_are_numbered : ArrivalsAreNumbered
unfolding Run16
arrivals_are_numbered c bound arrivals =
    let sent : List Sent = (fabric_from (machine16 c) c.entries.sessions bound 0 (before c) arrivals).sent in
    let same : 0 + length arrivals ≡ length arrivals = omega arith in
    all_of (IsOneOf (length arrivals)) sent
    (subst (λ (n : ℕ). AllByRecursion (IsOneOf n) sent) same (numbers_below (machine16 c) c.entries.sessions bound 0 (before c) arrivals))
