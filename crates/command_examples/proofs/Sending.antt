-- The plain program's run over a list of packets.
use Rattle.std.proofs.Common.{◌≡◌, ℕ, suc, ◌+◌, ◌<◌, ◌≤◌, List, [], ◌∷◌, ◌++◌, length, map, drop, get_or, Option, Some, None, refl, sym, ◌∙◌, ap, arith, add-one, append_assoc}
use Rattle.std.proofs.lemmas.List.{append-nil, drop_all, get_or-map, get_or_default, map-append, length-map}
use Rattle.std.proofs.Math.Seq.{drop-cons}
use Rattle.state_store.specs.State.{Contents}
use Rattle.command_words.specs.Words.{default_passes}
use Rattle.p414_one_table.specs.declared.program.OneTable14.{OneTable14}
use Rattle.fabric.specs.declared.packets.Arrival.{Arrival}
use Rattle.fabric.specs.declared.packets.Sent.{Sent}
use Rattle.p4x_cmd.specs.Entries.{no_entries}
use Rattle.p4x_cmd.specs.Meaning14.{Run14, pass14, signature14}
use Rattle.run_stream.specs.Runs.{Ran, followed}
use Rattle.p4x_cmd.specs.Passes.{Pass, run_from, sent_from}
use Rattle.p4x_cmd.specs.internal.Plain.{no_store}
use Rattle.p4x_cmd.proofs.RunLaws.{once}
use Rattle.command_examples.specs.declared.plain.Leaving.{Leaving}
use Rattle.command_examples.specs.Plain.{IsProgram, IsRun14, sent_of}
use Rattle.command_examples.specs.internal.Passes.{IsPass14, end_of}

-- the pass of the program without entries
unfoldable pub own14 : OneTable14 → Arrival → Pass
own14 p a = pass14 p (no_entries (signature14 p)) a

-- the run over the arrivals from a number on, for any pass
abbrev run_left : (Arrival → Pass) → ℕ → List Arrival → Ran Contents
run_left f number arrivals = run_from f default_passes no_store number (drop number arrivals)

run_more : (f : Arrival → Pass) (number : ℕ) (arrivals : List Arrival) (a : Arrival) → number < length arrivals
    → a ≡ get_or arrivals number a → run_left f number arrivals ≡ followed (once f number a) (run_left f (number + 1) arrivals)
run_more f number arrivals a inside is =
    let cons : drop number arrivals ≡ a ∷ drop (number + 1) arrivals =
    drop-cons arrivals number a inside ∙ ap (λ (x : Arrival). x ∷ drop (suc number) arrivals) (sym is) ∙ ap (λ (n : ℕ). a ∷ drop n arrivals) (sym (add-one number)) in
    ap (run_from f default_passes no_store number) cons

run_done : (f : Arrival → Pass) (number : ℕ) (arrivals : List Arrival) → length arrivals ≤ number
    → run_left f number arrivals ≡ record { sent = []; store = no_store; cut = 0; work = 0 }
run_done f number arrivals past = ap (run_from f default_passes no_store number) (drop_all number arrivals past)

-- what is sent of the arrivals is what was sent, and what the arrivals from a number on send
abbrev pub Sending : (Arrival → Pass) → List Arrival → ℕ → List Leaving → Type 0
Sending f arrivals number sent = map sent_of sent ++ (run_left f number arrivals).sent ≡ (run_left f 0 arrivals).sent

abbrev pub leaving_from : ℕ → ℕ → Option (List ℕ) → List Leaving
leaving_from number port None = []
leaving_from number port (Some octets) = record { arrival = number; port = port; octets = octets } ∷ []

left_alike : (number port : ℕ) (r : Option (List ℕ)) → map sent_of (leaving_from number port r) ≡ sent_from number (end_of port r)
left_alike number port None = refl
left_alike number port (Some octets) = refl

sending_more : (f : Arrival → Pass) (arrivals : List Arrival) (number port : ℕ) (sent sent' : List Leaving) (r : Option (List ℕ)) (a : Arrival) → number < length arrivals → a ≡ get_or arrivals number a
    → (f a).end ≡ end_of port r → sent' ≡ sent ++ leaving_from number port r → Sending f arrivals number sent → Sending f arrivals (number + 1) sent'
sending_more f arrivals number port sent sent' r a inside is ends now so =
    let more = run_more f number arrivals a inside is in
    let rest = (run_left f (number + 1) arrivals).sent in
    let new : map sent_of sent' ≡ map sent_of sent ++ sent_from number (f a).end =
    ap (map sent_of) now ∙ map-append sent_of sent (leaving_from number port r) ∙ ap (λ (l : List Sent). map sent_of sent ++ l) (left_alike number port r ∙ ap (sent_from number) (sym ends)) in
    ap (λ (l : List Sent). l ++ rest) new ∙ append_assoc (map sent_of sent) (sent_from number (f a).end) rest ∙ ap (λ (x : Ran Contents). map sent_of sent ++ x.sent) (sym more) ∙ so

-- the same for every program with these widths and this port, and all arrivals with these octets
pub record AllSending (widths : List ℕ) (port : ℕ) (packets : List (List ℕ)) (number : ℕ) (sent : List Leaving) : Type 0 where
  pub all : (p : OneTable14) (arrivals : List Arrival) → IsProgram widths port p → map (λ a. a.octets) arrivals ≡ packets → Sending (own14 p) arrivals number sent

pub all_begins : (widths : List ℕ) (port : ℕ) (packets : List (List ℕ)) → AllSending widths port packets 0 []
all_begins widths port packets = record { all = λ p arrivals is same. refl }

abbrev nothing : Arrival
nothing = record { octets = []; port = 0; seconds = 0; fraction = 0 }

pub all_more : (widths : List ℕ) (port : ℕ) (packets : List (List ℕ)) (number : ℕ) (sent sent' : List Leaving) (octets : List ℕ) (r : Option (List ℕ)) → number < length packets → octets ≡ get_or packets number octets
    → IsPass14 widths port octets r → sent' ≡ sent ++ leaving_from number port r → AllSending widths port packets number sent → AllSending widths port packets (number + 1) sent'
unfolding own14
all_more widths port packets number sent sent' octets r inside is passes now so = record {
  all = λ p arrivals program same.
      let a = get_or arrivals number nothing in
      let size : length arrivals ≡ length packets = sym (length-map arrivals (λ (x : Arrival). x.octets)) ∙ ap (λ (l : List (List ℕ)). length l) same in
      let here : number < length arrivals = omega arith in
      let own : a.octets ≡ octets =
      sym (get_or-map (λ (x : Arrival). x.octets) arrivals number nothing octets here) ∙ ap (λ (l : List (List ℕ)). get_or l number octets) same ∙ sym is in
      sending_more (own14 p) arrivals number port sent sent' r a here (get_or_default arrivals number nothing a here) (passes p a program own) now (so.all p arrivals program same);
}

pub all_ends : (widths : List ℕ) (port : ℕ) (packets : List (List ℕ)) (number : ℕ) (sent : List Leaving) → length packets ≤ number → AllSending widths port packets number sent → IsRun14 widths port packets sent
unfolding Run14 own14
all_ends widths port packets number sent past so p arrivals program same =
    let size : length arrivals ≡ length packets = sym (length-map arrivals (λ (x : Arrival). x.octets)) ∙ ap (λ (l : List (List ℕ)). length l) same in
    let done = run_done (own14 p) number arrivals (omega arith) in
    sym (so.all p arrivals program same) ∙ ap (λ (x : Ran Contents). map sent_of sent ++ x.sent) done ∙ append-nil (map sent_of sent)
