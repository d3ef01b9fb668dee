-- Runs over captures that come in pieces.
use Rattle.std.proofs.Common.{◌≡◌, ◌<◌, ℕ, Bool, true, false, nat_lt, All, List, [], ◌∷◌, ◌++◌, length, drop, Option, Some, None, Result, Ok, Err, refl, sym, ◌∙◌, ap, subst, arith, append_assoc}
use Rattle.std.specs.List.{flat_map}
use Rattle.std.proofs.lemmas.List.{append-nil}
use Rattle.std.proofs.lemmas.List.Elements.{All-cons}
use Rattle.std.proofs.lemmas.Bool.Decides.{nat_tests}
use Rattle.p4x_fault.specs.declared.Fault.{Fault as Refusal}
use Rattle.fabric.specs.declared.packets.Arrival.{Arrival}
use Rattle.fabric.specs.declared.packets.Out.{Out}
use Rattle.pcap_io.specs.declared.head.Head.{Head}
use Rattle.pcap_io.specs.declared.records.Record.{Record}
use Rattle.pcap_io.specs.Captures.{Reading, reading_of, records_in, head_of, opened, behind, IsRecord, arrival_of}
use Rattle.pcap_io.specs.Reader.{fed, fed_by, read_on, rest_of}
use Rattle.pcap_io.specs.Sent.{file_header_of}
use Rattle.pcap_io.proofs.Feeding.{fed_more}
use Rattle.pcap_io.proofs.Growing.{records_head}
use Rattle.pcap_io.proofs.Opening.{unread, is_opened}
use Rattle.run_stream.specs.Runs.{Outcome}
use Rattle.run_stream.specs.internal.Streams.{Held, View, start, with_header, headed_by, begun, out_record, out_line, with_outs, with_arrival, after_one, after_all, run_view, emptied, drained}

-- the packets of more records
pub after_append : {C : Type 0} → (outcome : C → Arrival → Outcome C) (a b : List Record) (v : View C) → after_all outcome (a ++ b) v ≡ after_all outcome b (after_all outcome a v)
unfolding after_all
after_append outcome [] b v = refl
after_append outcome (one ∷ a) b v = after_append outcome a b (after_one outcome one v)

-- What was written before stays in front.

abbrev pub with_held : {C : Type 0} → View C → Held → View C
with_held v h = record v { held = h }

abbrev pub fronted : List ℕ → List ℕ → Held → Held
fronted sent report h = record h { sent = sent ++ h.sent; report = report ++ h.report }

abbrev pub preceded : {C : Type 0} → List ℕ → List ℕ → View C → View C
preceded sent report v = with_held v (fronted sent report v.held)

abbrev with_sent : Held → List ℕ → List ℕ → Held
with_sent h sent report = record h { sent = sent; report = report }

header_fronted : (written : Bool) (head : Head) (s r : List ℕ) (h : Held) → with_header written head (fronted s r h) ≡ fronted s r (with_header written head h)
header_fronted true head s r h = refl
header_fronted false head s r h =
    ap (λ (l : List ℕ). let w : Held = record h { headed = true; sent = l; report = r ++ h.report } in w) (append_assoc s h.sent (file_header_of head.link head.nano))

headed_fronted : (head : Option Head) (s r : List ℕ) (h : Held) → headed_by head (fronted s r h) ≡ fronted s r (headed_by head h)
headed_fronted None s r h = refl
headed_fronted (Some head) s r h = header_fronted h.headed head s r h

begun_preceded : {C : Type 0} → (head : Option Head) (s r : List ℕ) (v : View C) → begun head (preceded s r v) ≡ preceded s r (begun head v)
begun_preceded head s r v = ap (with_held v) (headed_fronted head s r v.held)

outs_fronted : (a : Arrival) (outs : List Out) (s r : List ℕ) (h : Held) → with_outs a outs (fronted s r h) ≡ fronted s r (with_outs a outs h)
outs_fronted a outs s r h =
    ap (λ (l : List ℕ). with_sent (with_outs a outs h) l ((r ++ h.report) ++ flat_map out_line outs)) (append_assoc s h.sent (flat_map (out_record a) outs))
    ∙ ap (λ (l : List ℕ). with_sent (with_outs a outs h) (s ++ (h.sent ++ flat_map (out_record a) outs)) l) (append_assoc r h.report (flat_map out_line outs))

one_preceded : {C : Type 0} → (outcome : C → Arrival → Outcome C) (one : Record) (s r : List ℕ) (v : View C) → after_one outcome one (preceded s r v) ≡ preceded s r (after_one outcome one v)
one_preceded outcome one s r v =
    let a = arrival_of v.held.ports one in
    let o = outcome v.store a in
    ap (with_held (after_one outcome one v)) (outs_fronted a o.sent s r (with_arrival o.cut v.held))

all_preceded : {C : Type 0} → (outcome : C → Arrival → Outcome C) (records : List Record) (s r : List ℕ) (v : View C) → after_all outcome records (preceded s r v) ≡ preceded s r (after_all outcome records v)
unfolding after_all
all_preceded outcome [] s r v = refl
all_preceded outcome (one ∷ records) s r v =
    ap (after_all outcome records) (one_preceded outcome one s r v) ∙ all_preceded outcome records s r (after_one outcome one v)

-- what was appended is in front of what is still to be appended
pub emptied_again : {C : Type 0} → (v : View C) → preceded v.held.sent v.held.report (emptied v) ≡ v
emptied_again v =
    ap (λ (l : List ℕ). with_held v (with_sent v.held l (v.held.report ++ []))) (append-nil v.held.sent)
    ∙ ap (λ (l : List ℕ). with_held v (with_sent v.held v.held.sent l)) (append-nil v.held.report)

-- The file header is written once.

all_headed : {C : Type 0} → (outcome : C → Arrival → Outcome C) (records : List Record) (v : View C) → (after_all outcome records v).held.headed ≡ v.held.headed
unfolding after_all
all_headed outcome [] v = refl
all_headed outcome (one ∷ records) v = all_headed outcome records (after_one outcome one v)

-- octets without a file header have no records

opened_none : (records : List ℕ) (head : Result Head Refusal) → (opened records head).head ≡ None → (opened records head).records ≡ []
opened_none records (Err fault) none = refl
opened_none records (Ok head) none = let some : (records_in head records 0).head ≡ Some head = records_head head records 0 in let both : Some head ≡ None = sym some ∙ none in absurd (cc both)

pub no_records : (octets : List ℕ) → (reading_of octets).head ≡ None → (reading_of octets).records ≡ []
no_records octets none = by_size (nat_lt (length octets) 24) refl
  where
    by_size : (short : Bool) → nat_lt (length octets) 24 ≡ short → (reading_of octets).records ≡ []
    by_size true e = ap (λ (r : Reading). r.records) (unread octets (grind (arith, nat_tests)))
    by_size false e =
        let whole : reading_of octets ≡ opened (drop 24 octets) (head_of octets) = is_opened octets (grind (arith, nat_tests)) in
        ap (λ (r : Reading). r.records) whole ∙ opened_none (drop 24 octets) (head_of octets) (sym (ap (λ (r : Reading). r.head) whole) ∙ none)

-- the same, of the header that is known once more was read
begun_later : {C : Type 0} → (outcome : C → Arrival → Outcome C) (store : C) (ports : List ℕ) (old new : Option Head) (records : List Record)
    → (old ≡ None → records ≡ []) → ((head : Head) → old ≡ Some head → new ≡ Some head)
    → after_all outcome records (begun new (start ports store)) ≡ begun new (after_all outcome records (begun old (start ports store)))
unfolding after_all
begun_later outcome store ports None new records none same =
    ap (λ (l : List Record). after_all outcome l (begun new (start ports store))) (none refl)
    ∙ sym (ap (λ (l : List Record). begun new (after_all outcome l (start ports store))) (none refl))
begun_later outcome store ports (Some head) new records none same =
    let is = same head refl in
    let whole = after_all outcome records (begun (Some head) (start ports store)) in
    let headed : whole.held.headed ≡ true = all_headed outcome records (begun (Some head) (start ports store)) in
    ap (λ (h : Option Head). after_all outcome records (begun h (start ports store))) is
    ∙ sym (ap (λ (b : Bool). with_held whole (with_header b head whole.held)) headed)
    ∙ sym (ap (λ (h : Option Head). begun h whole) is)

read_on_head : (head : Head) (old : Option Head) (octets : List ℕ) → old ≡ Some head → (read_on old octets).head ≡ Some head
read_on_head head old octets is = ap (λ (h : Option Head). (read_on h octets).head) is ∙ records_head head octets 0

-- what a run has come to once a further piece was read
module _ {C : Type 0} (outcome : C → Arrival → Outcome C) (store : C) (ports octets piece : List ℕ) where
  abbrev pub before : Reading
  before = reading_of octets

  abbrev pub more : Reading
  more = read_on before.head (before.left ++ piece)

  view_more : before.fault ≡ None
      → run_view outcome store ports (reading_of (octets ++ piece)) ≡ after_all outcome more.records (begun more.head (run_view outcome store ports before))
  view_more unbroken =
      ap (run_view outcome store ports) (fed_more octets piece ∙ ap (λ (f : Option Refusal). fed_by f before piece) unbroken)
      ∙ after_append outcome before.records more.records (begun more.head (start ports store))
      ∙ ap (after_all outcome more.records)
      (begun_later outcome store ports before.head more.head before.records (no_records octets) (λ head is. read_on_head head before.head (before.left ++ piece) is))

  pub next_view : before.fault ≡ None → (whole : View C) → whole ≡ run_view outcome store ports before
      → run_view outcome store ports (reading_of (octets ++ piece))
      ≡ preceded whole.held.sent whole.held.report (after_all outcome (fed (drained before) piece).records (begun (fed (drained before) piece).head (emptied whole)))
  next_view unbroken whole is =
      view_more unbroken
      ∙ ap (λ (v : View C). after_all outcome more.records (begun more.head v)) (sym is ∙ sym (emptied_again whole))
      ∙ ap (after_all outcome more.records) (begun_preceded more.head whole.held.sent whole.held.report (emptied whole))
      ∙ all_preceded outcome more.records whole.held.sent whole.held.report (begun more.head (emptied whole))
      ∙ ap (λ (f : Option Refusal). preceded whole.held.sent whole.held.report (after_all outcome (fed_by f (drained before) piece).records (begun (fed_by f (drained before) piece).head (emptied whole)))) (sym unbroken)

-- What a loop over the records of a reader keeps.

pub turn_ran : {C : Type 0} → (outcome : C → Arrival → Outcome C) (old new : Reading) (one : Record) (v w : View C) → rest_of old ≡ behind (one ∷ []) (rest_of new) → w ≡ after_one outcome one v
    → after_all outcome (rest_of new).records w ≡ after_all outcome (rest_of old).records v
unfolding after_all
turn_ran outcome old new one v w taken ran =
    ap (after_all outcome (rest_of new).records) ran ∙ sym (ap (λ (r : Reading). after_all outcome r.records v) taken)

pub turn_rest : (old new : Reading) (one : Record) → rest_of old ≡ behind (one ∷ []) (rest_of new) → drained (rest_of new) ≡ drained (rest_of old)
turn_rest old new one taken = sym (ap drained taken)

pub turn_known : (old new : Reading) (one : Record) → rest_of old ≡ behind (one ∷ []) (rest_of new) → IsRecord one → All IsRecord (rest_of new).records → All IsRecord (rest_of old).records
turn_known old new one taken is known = subst (λ (r : Reading). All IsRecord r.records) (sym taken) (All-cons IsRecord one (rest_of new).records is known)

pub turn_falls : (old new : Reading) (one : Record) → rest_of old ≡ behind (one ∷ []) (rest_of new) → length (rest_of new).records < length (rest_of old).records
turn_falls old new one taken = omega (arith, ap (λ (r : Reading). length r.records) taken)

-- no record is left
pub none_left : {C : Type 0} → (outcome : C → Arrival → Outcome C) (old new : Reading) (v : View C) → rest_of old ≡ new → new.records ≡ [] → after_all outcome (rest_of old).records v ≡ v
unfolding after_all
none_left outcome old new v left none = ap (λ (l : List Record). after_all outcome l v) (ap (λ (r : Reading). r.records) left ∙ none)

pub left_known : (old new : Reading) → rest_of old ≡ new → new.records ≡ [] → All IsRecord (rest_of old).records
left_known old new left none =
    let P : List Record → Type 0 = λ l. All IsRecord l in
    subst P (sym (ap (λ (r : Reading). r.records) left ∙ none)) (λ k d inside. absurd (omega arith))

pub left_drained : (first old new : Reading) → drained (rest_of old) ≡ drained (rest_of first) → rest_of old ≡ new → new.records ≡ [] → new ≡ drained (rest_of first)
left_drained first old new rest left none =
    ap (λ (l : List Record). let r : Reading = record new { records = l } in r) none ∙ ap drained (sym left) ∙ rest

-- what a further piece comes to, by what the reader holds once it was fed
pub fed_ran : {C : Type 0} → (outcome : C → Arrival → Outcome C) (read : Reading) (whole : Reading) (head : Option Head) (v w x : View C)
    → rest_of read ≡ whole → head ≡ whole.head → w ≡ begun head v → x ≡ after_all outcome (rest_of read).records w → x ≡ after_all outcome whole.records (begun whole.head v)
fed_ran outcome read whole head v w x is head_is begins ran =
    ran ∙ ap (λ (r : Reading). after_all outcome r.records w) is ∙ ap (after_all outcome whole.records) begins ∙ ap (λ (h : Option Head). after_all outcome whole.records (begun h v)) head_is
