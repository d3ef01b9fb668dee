-- What one packet adds to a run.
use Rattle.std.proofs.Common.{◌≡◌, ℕ, ◌+◌, ◌%◌, ◌^◌, ◌<◌, ◌≤◌, List, [], ◌∷◌, ◌++◌, length, take, drop, get_or, sym, ◌∙◌, ap, append_assoc}
use Rattle.std.specs.List.{flat_map}
use Rattle.std.proofs.lemmas.List.{append-nil, take_all, take_more}
use Rattle.std.proofs.lemmas.List.Concat.{flat_map-append}
use Rattle.std.proofs.Math.Nat.{add-mod-mod}
use Rattle.fabric.specs.declared.packets.Arrival.{Arrival}
use Rattle.fabric.specs.declared.packets.Out.{Out}
use Rattle.pcap_io.specs.declared.records.Record.{Record}
use Rattle.pcap_io.specs.Captures.{arrival_of}
use Rattle.run_stream.specs.Runs.{Outcome}
use Rattle.run_stream.specs.internal.Streams.{Held, View, out_record, out_line, with_out, with_written, with_outs, with_arrival, with_outcome, after_one}

abbrev wrote : Held → List ℕ → List ℕ → Held
wrote h sent report = record h { sent = sent; report = report }

pub written_none : (a : Arrival) (h : Held) → h ≡ with_written a [] h
written_none a h =
    ap (λ (l : List ℕ). wrote h l h.report) (sym (append-nil h.sent)) ∙ ap (λ (l : List ℕ). wrote h (h.sent ++ []) l) (sym (append-nil h.report))

-- one more of a list, behind those that were written
behind : (f : Out → List ℕ) (outs : List Out) (out : Out) (front : List ℕ) → (front ++ flat_map f outs) ++ f out ≡ front ++ flat_map f (outs ++ out ∷ [])
behind f outs out front =
    append_assoc front (flat_map f outs) (f out)
    ∙ ap (λ (l : List ℕ). front ++ l) (ap (λ (l : List ℕ). flat_map f outs ++ l) (sym (append-nil (f out))) ∙ sym (flat_map-append f outs (out ∷ [])))

pub written_more : (a : Arrival) (outs : List Out) (out : Out) (h old new : Held) → old ≡ with_written a outs h → new ≡ with_out a out old → new ≡ with_written a (outs ++ out ∷ []) h
written_more a outs out h old new before now =
    now ∙ ap (with_out a out) before
    ∙ ap (λ (l : List ℕ). wrote h l ((h.report ++ flat_map out_line outs) ++ out_line out)) (behind (out_record a) outs out h.sent)
    ∙ ap (λ (l : List ℕ). wrote h (h.sent ++ flat_map (out_record a) (outs ++ out ∷ [])) l) (behind out_line outs out h.report)

-- the same of the packets at a slice's front
pub written_next : (a : Arrival) (outs : List Out) (i : ℕ) (out : Out) (h old new : Held) → i < length outs → out ≡ get_or outs i out → old ≡ with_written a (take i outs) h → new ≡ with_out a out old
    → new ≡ with_written a (take (i + 1) outs) h
written_next a outs i out h old new inside is before now =
    written_more a (take i outs) out h old new before now
    ∙ ap (λ (l : List Out). with_written a l h) (sym (take_more outs i out inside ∙ ap (λ (o : Out). take i outs ++ o ∷ []) (sym is)))

-- so many are counted
abbrev pub counted : ℕ → Held → Held
counted more h = record h { departures = (h.departures + more) % 2 ^ 64 }

pub written_all : (a : Arrival) (outs : List Out) (i : ℕ) (h now : Held) → length outs ≤ i → now ≡ with_written a (take i outs) h → counted (length outs) now ≡ with_outs a outs h
written_all a outs i h now past is = ap (counted (length outs)) (is ∙ ap (λ (l : List Out). with_written a l h) (take_all i outs past))

-- a packet came in on the first of these ports, and so many items were cut
abbrev pub came : Held → List ℕ → ℕ → Held
came h ports cut = record h { ports = ports; arrivals = (h.arrivals + 1) % 2 ^ 64; cut = cut }

abbrev viewed : {C : Type 0} → Held → C → ℕ → View C
viewed h store work = record { held = h; store = store; work = work }

-- the times alone are told of the packet that these came from
same_times : (a later : Arrival) (outs : List Out) (h : Held) → later.seconds ≡ a.seconds → later.fraction ≡ a.fraction → with_outs later outs h ≡ with_outs a outs h
same_times a later outs h seconds fraction =
    let F : ℕ → ℕ → Held = λ s f. with_outs (record { octets = []; port = 0; seconds = s; fraction = f }) outs h in
    ap (λ (s : ℕ). F s later.fraction) seconds ∙ ap (F a.seconds) fraction

-- what a runner gives is what comes of the packet; behind it the packet has its times as before
pub ran_one : {C : Type 0} → (outcome : C → Arrival → Outcome C) (one : Record) (old : View C) (a later : Arrival) (ports : List ℕ) (outs : List Out) (cut work : ℕ) (store : C) (new : Held)
    → a ≡ arrival_of old.held.ports one → later.seconds ≡ a.seconds → later.fraction ≡ a.fraction → ports ≡ drop 1 old.held.ports → outs ≡ (outcome old.store a).sent → cut ≡ (outcome old.store a).cut % 2 ^ 64
    → store ≡ (outcome old.store a).store → work ≡ (old.work + (outcome old.store a).work) % 2 ^ 64 → new ≡ with_outs later outs (came old.held ports ((old.held.cut + cut) % 2 ^ 64))
    → viewed new store work ≡ after_one outcome one old
ran_one {C = C} outcome one old a later ports outs cut work store new a_is seconds fraction ports_are outs_are cut_is store_is work_is later_is =
    let o = outcome old.store a in
    let new_is = later_is ∙ same_times a later outs (came old.held ports ((old.held.cut + cut) % 2 ^ 64)) seconds fraction in
    let cut_same : (old.held.cut + cut) % 2 ^ 64 ≡ (old.held.cut + o.cut) % 2 ^ 64 =
    ap (λ (n : ℕ). (old.held.cut + n) % 2 ^ 64) cut_is ∙ add-mod-mod old.held.cut o.cut (2 ^ 64) in
    ap (λ (h : Held). viewed h store work) new_is
    ∙ ap (λ (l : List Out). viewed (with_outs a l (came old.held ports ((old.held.cut + cut) % 2 ^ 64))) store work) outs_are
    ∙ ap (λ (n : ℕ). viewed (with_outs a o.sent (came old.held ports n)) store work) cut_same
    ∙ ap (λ (l : List ℕ). viewed (with_outs a o.sent (came old.held l ((old.held.cut + o.cut) % 2 ^ 64))) store work) ports_are
    ∙ ap (λ (s : C). viewed (with_outs a o.sent (with_arrival o.cut old.held)) s work) store_is
    ∙ ap (λ (n : ℕ). viewed (with_outs a o.sent (with_arrival o.cut old.held)) o.store n) work_is
    ∙ ap (λ (b : Arrival). with_outcome b (outcome old.store b) old) a_is

-- A line of the report is put behind those that are there in two parts: its word, and its numbers with the line feed.
pub line_is : (report worded whole word numbers port size : List ℕ) → numbers ≡ port ++ 32 ∷ (size ++ 10 ∷ []) → worded ≡ report ++ word → whole ≡ worded ++ numbers
    → whole ≡ report ++ ((word ++ port) ++ (32 ∷ size) ++ 10 ∷ [])
line_is report worded whole word numbers port size is one two =
    two ∙ ap (λ (l : List ℕ). l ++ numbers) one ∙ ap (λ (l : List ℕ). (report ++ word) ++ l) is
    ∙ append_assoc report word (port ++ 32 ∷ (size ++ 10 ∷ []))
    ∙ ap (λ (l : List ℕ). report ++ l) (sym (append_assoc word port (32 ∷ (size ++ 10 ∷ []))) ∙ sym (append_assoc (word ++ port) (32 ∷ size) (10 ∷ [])))
