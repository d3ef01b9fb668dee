-- Packets and their ports.
use Rattle.std.proofs.Common.{◌≡◌, ℕ, List, [], ◌∷◌, ◌++◌, drop, All, sym, ap, subst, ◌∙◌, arith, append_assoc}
use Rattle.std.proofs.lemmas.List.Elements.{All-push, All-drop}
use Rattle.fabric.specs.declared.packets.Arrival.{Arrival}
use Rattle.fabric.specs.Numbers.{IsArrival}
use Rattle.pcap_io.specs.declared.records.Record.{Record}
use Rattle.pcap_io.specs.Captures.{arrival_of, arrivals_of}

-- one more packet comes in
pub one_more_arrival : (ports more : List ℕ) (records rest : List Record) (one : Record) (all so_far now : List Arrival) (arrival : Arrival) →
    all ≡ so_far ++ arrivals_of ports records → records ≡ one ∷ rest → arrival ≡ arrival_of ports one → more ≡ drop 1 ports → now ≡ so_far ++ arrival ∷ [] →
    all ≡ now ++ arrivals_of more rest
one_more_arrival ports more records rest one all so_far now arrival all_is records_is arrival_is more_is now_is =
    all_is ∙ ap (λ (rs : List Record). so_far ++ arrivals_of ports rs) records_is
    ∙ ap (λ (a : Arrival). so_far ++ a ∷ arrivals_of (drop 1 ports) rest) (sym arrival_is)
    ∙ sym (append_assoc so_far (arrival ∷ []) (arrivals_of (drop 1 ports) rest))
    ∙ ap (λ (l : List Arrival). l ++ arrivals_of (drop 1 ports) rest) (sym now_is)
    ∙ ap (λ (ps : List ℕ). now ++ arrivals_of ps rest) (sym more_is)

pub arrivals_fit : (so_far now : List Arrival) (arrival : Arrival) → All IsArrival so_far → IsArrival arrival → now ≡ so_far ++ arrival ∷ [] → All IsArrival now
arrivals_fit so_far now arrival fits fit now_is = let P : List Arrival → Type 0 = λ l. All IsArrival l in subst P (sym now_is) (All-push IsArrival so_far arrival fits fit)

pub rest_fit : {X : Type 0} (P : X → Type 0) (n : ℕ) (all rest : List X) → All P all → rest ≡ drop n all → All P rest
rest_fit {X = X} P n all rest fits is = let Q : List X → Type 0 = λ l. All P l in subst Q (sym is) (All-drop P n all fits)

pub first_fits : {X : Type 0} (P : X → Type 0) (all rest : List X) (first : X) → All P all → all ≡ first ∷ rest → P first
first_fits {X = X} P all rest first fits is = let Q : List X → Type 0 = λ l. All P l in subst Q is fits 0 first (omega arith)
