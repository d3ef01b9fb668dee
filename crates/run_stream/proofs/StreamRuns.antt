-- What a run over a capture that comes in pieces has come to, beside the run over its packets.
use Rattle.std.proofs.Common.{◌≡◌, ℕ, zero, suc, ◌+◌, ◌*◌, ◌%◌, ◌^◌, ◌≤◌, ◌<◌, Bool, true, false, cond, nat_lt, List, [], ◌∷◌, ◌++◌, length, map, drop, slice_get, Option, Some, None, Result, Ok, Err, refl, sym, ◌∙◌, ap, arith, append_assoc, length-append, length-drop, add-zero, zero-add, add_assoc}
use Rattle.std.specs.List.{flat_map}
use Rattle.std.proofs.lemmas.List.{append-nil, length-map}
use Rattle.std.proofs.lemmas.List.Concat.{flat_map-append}
use Rattle.std.proofs.lemmas.Bool.Decides.{nat_tests}
use Rattle.std.proofs.Math.Nat.{mod-add-mod, mod-eq_of_lt, mod-lt}
use Rattle.p4x_fault.specs.declared.Fault.{Fault as Refusal}
use Rattle.p4x_fault.specs.declared.Rule.TheVariants.{K}
use Rattle.fabric.specs.declared.packets.Arrival.{Arrival}
use Rattle.fabric.specs.declared.packets.Out.{Out}
use Rattle.fabric.specs.declared.packets.Sent.{Sent}
use Rattle.pcap_io.specs.declared.head.Head.{Head}
use Rattle.pcap_io.specs.declared.records.Record.{Record}
use Rattle.pcap_io.specs.Captures.{Reading, reading_of, records_in, head_of, opened, behind, ending, is_whole, is_too_long, record_of, captured_length, arrivals_of, arrival_of}
use Rattle.pcap_io.specs.Sent.{record_header_of, sent_record, seconds_of, fraction_of}
use Rattle.pcap_io.proofs.Opening.{unread, is_opened}
use Rattle.run_stream.specs.Captured.{sent_file, capture_limit}
use Rattle.run_stream.specs.Reports.{sent_line, sent_lines}
use Rattle.run_stream.specs.Runs.{Outcome, Ran, numbered, run_from, run_of, AreFew}
use Rattle.run_stream.specs.internal.Streams.{View, start, begun, out_record, out_line, after_one, after_all, run_view}
use Rattle.run_stream.proofs.Streams.{no_records}

-- What the packets that one arrival gives add.

outs_lines : (number : ℕ) (outs : List Out) → flat_map out_line outs ≡ flat_map sent_line (map (numbered number) outs)
outs_lines number [] = refl
outs_lines number (out ∷ outs) = ap (λ (l : List ℕ). out_line out ++ l) (outs_lines number outs)

get_here : (front rest : List Arrival) (a : Arrival) → slice_get (front ++ a ∷ rest) (length front) ≡ Some a
get_here [] rest a = refl
get_here (b ∷ front) rest a = get_here front rest a

record_is : (front rest : List Arrival) (a : Arrival) (out : Out) → out_record a out ≡ sent_record (front ++ a ∷ rest) (numbered (length front) out)
record_is front rest a out =
    ap (λ (found : Option Arrival). record_header_of (seconds_of found) (fraction_of found) (length out.octets % 2 ^ 32) ++ out.octets) (sym (get_here front rest a))

outs_records : (front rest : List Arrival) (a : Arrival) (outs : List Out) → flat_map (out_record a) outs ≡ flat_map (sent_record (front ++ a ∷ rest)) (map (numbered (length front)) outs)
outs_records front rest a [] = refl
outs_records front rest a (out ∷ outs) =
    ap (λ (l : List ℕ). out_record a out ++ l) (outs_records front rest a outs)
    ∙ ap (λ (l : List ℕ). l ++ flat_map (sent_record (front ++ a ∷ rest)) (map (numbered (length front)) outs)) (record_is front rest a out)

outs_many : (number : ℕ) (outs : List Out) (rest : List Sent) → length outs + length rest ≡ length (map (numbered number) outs ++ rest)
outs_many number outs rest = omega (arith, length-append (map (numbered number) outs) rest, length-map outs (numbered number))

module _ {C : Type 0} (outcome : C → Arrival → Outcome C) where
  abbrev run : ℕ → C → List Arrival → Ran C
  run number store arrivals = run_from outcome number store arrivals

  -- What all records add.

  sent_all : (front : List Arrival) (records : List Record) (v : View C)
      → (after_all outcome records v).held.sent ≡ v.held.sent ++ flat_map (sent_record (front ++ arrivals_of v.held.ports records)) (run (length front) v.store (arrivals_of v.held.ports records)).sent
  unfolding after_all
  sent_all front [] v = sym (append-nil v.held.sent)
  sent_all front (one ∷ records) v =
      let a = arrival_of v.held.ports one in
      let o = outcome v.store a in
      let rest = arrivals_of (drop 1 v.held.ports) records in
      let later = after_one outcome one v in
      let number : length (front ++ a ∷ []) ≡ length front + 1 = length-append front (a ∷ []) in
      sent_all (front ++ a ∷ []) records later
      ∙ ap (λ (all : List Arrival). later.held.sent ++ flat_map (sent_record all) (run (length (front ++ a ∷ [])) o.store rest).sent) (append_assoc front (a ∷ []) rest)
      ∙ ap (λ (n : ℕ). later.held.sent ++ flat_map (sent_record (front ++ a ∷ rest)) (run n o.store rest).sent) number
      ∙ append_assoc v.held.sent (flat_map (out_record a) o.sent) (flat_map (sent_record (front ++ a ∷ rest)) (run (length front + 1) o.store rest).sent)
      ∙ ap (λ (l : List ℕ). v.held.sent ++ (l ++ flat_map (sent_record (front ++ a ∷ rest)) (run (length front + 1) o.store rest).sent)) (outs_records front rest a o.sent)
      ∙ ap (λ (l : List ℕ). v.held.sent ++ l) (sym (flat_map-append (sent_record (front ++ a ∷ rest)) (map (numbered (length front)) o.sent) (run (length front + 1) o.store rest).sent))

  report_all : (number : ℕ) (records : List Record) (v : View C)
      → (after_all outcome records v).held.report ≡ v.held.report ++ flat_map sent_line (run number v.store (arrivals_of v.held.ports records)).sent
  unfolding after_all
  report_all number [] v = sym (append-nil v.held.report)
  report_all number (one ∷ records) v =
      let a = arrival_of v.held.ports one in
      let o = outcome v.store a in
      let rest = arrivals_of (drop 1 v.held.ports) records in
      report_all (number + 1) records (after_one outcome one v)
      ∙ append_assoc v.held.report (flat_map out_line o.sent) (flat_map sent_line (run (number + 1) o.store rest).sent)
      ∙ ap (λ (l : List ℕ). v.held.report ++ (l ++ flat_map sent_line (run (number + 1) o.store rest).sent)) (outs_lines number o.sent)
      ∙ ap (λ (l : List ℕ). v.held.report ++ l) (sym (flat_map-append sent_line (map (numbered number) o.sent) (run (number + 1) o.store rest).sent))

  arrivals_all : (records : List Record) (v : View C) → (after_all outcome records v).held.arrivals % 2 ^ 64 ≡ (v.held.arrivals + length records) % 2 ^ 64
  unfolding after_all
  arrivals_all [] v = ap (λ (n : ℕ). n % 2 ^ 64) (sym (add-zero v.held.arrivals))
  arrivals_all (one ∷ records) v =
      let sum : v.held.arrivals + 1 + length records ≡ v.held.arrivals + length (one ∷ records) = omega arith in
      arrivals_all records (after_one outcome one v)
      ∙ mod-add-mod (v.held.arrivals + 1) (2 ^ 64) (length records)
      ∙ ap (λ (n : ℕ). n % 2 ^ 64) sum

  cut_all : (number : ℕ) (records : List Record) (v : View C)
      → (after_all outcome records v).held.cut % 2 ^ 64 ≡ (v.held.cut + (run number v.store (arrivals_of v.held.ports records)).cut) % 2 ^ 64
  unfolding after_all
  cut_all number [] v = ap (λ (n : ℕ). n % 2 ^ 64) (sym (add-zero v.held.cut))
  cut_all number (one ∷ records) v =
      let o = outcome v.store (arrival_of v.held.ports one) in
      let rest = run (number + 1) o.store (arrivals_of (drop 1 v.held.ports) records) in
      cut_all (number + 1) records (after_one outcome one v)
      ∙ mod-add-mod (v.held.cut + o.cut) (2 ^ 64) rest.cut
      ∙ ap (λ (n : ℕ). n % 2 ^ 64) (add_assoc v.held.cut o.cut rest.cut)

  work_all : (number : ℕ) (records : List Record) (v : View C)
      → (after_all outcome records v).work % 2 ^ 64 ≡ (v.work + (run number v.store (arrivals_of v.held.ports records)).work) % 2 ^ 64
  unfolding after_all
  work_all number [] v = ap (λ (n : ℕ). n % 2 ^ 64) (sym (add-zero v.work))
  work_all number (one ∷ records) v =
      let o = outcome v.store (arrival_of v.held.ports one) in
      let rest = run (number + 1) o.store (arrivals_of (drop 1 v.held.ports) records) in
      work_all (number + 1) records (after_one outcome one v)
      ∙ mod-add-mod (v.work + o.work) (2 ^ 64) rest.work
      ∙ ap (λ (n : ℕ). n % 2 ^ 64) (add_assoc v.work o.work rest.work)

  store_all : (number : ℕ) (records : List Record) (v : View C) → (after_all outcome records v).store ≡ (run number v.store (arrivals_of v.held.ports records)).store
  unfolding after_all
  store_all number [] v = refl
  store_all number (one ∷ records) v = store_all (number + 1) records (after_one outcome one v)

  departures_all : (number : ℕ) (records : List Record) (v : View C)
      → (after_all outcome records v).held.departures % 2 ^ 64 ≡ (v.held.departures + length (run number v.store (arrivals_of v.held.ports records)).sent) % 2 ^ 64
  unfolding after_all
  departures_all number [] v = ap (λ (n : ℕ). n % 2 ^ 64) (sym (add-zero v.held.departures))
  departures_all number (one ∷ records) v =
      let o = outcome v.store (arrival_of v.held.ports one) in
      let rest = (run (number + 1) o.store (arrivals_of (drop 1 v.held.ports) records)).sent in
      departures_all (number + 1) records (after_one outcome one v)
      ∙ mod-add-mod (v.held.departures + length o.sent) (2 ^ 64) (length rest)
      ∙ ap (λ (n : ℕ). n % 2 ^ 64) (add_assoc v.held.departures (length o.sent) (length rest))
      ∙ ap (λ (n : ℕ). (v.held.departures + n) % 2 ^ 64) (outs_many number o.sent rest)

  -- how many packets leave at most
  pub sent_few : AreFew outcome → (number : ℕ) (store : C) (arrivals : List Arrival) → length (run number store arrivals).sent ≤ 65536 * length arrivals
  sent_few few number store [] = omega arith
  sent_few few number store (a ∷ arrivals) =
      let o = outcome store a in
      let rest = (run (number + 1) o.store arrivals).sent in
      let one_few : length o.sent ≤ 65536 = few store a in
      omega (arith, one_few, sent_few few (number + 1) o.store arrivals, outs_many number o.sent rest)

-- Counts stay below 2^64.

record Small {C : Type 0} (v : View C) : Type 0 where
  arrivals : v.held.arrivals < 2 ^ 64
  departures : v.held.departures < 2 ^ 64
  cut : v.held.cut < 2 ^ 64
  work : v.work < 2 ^ 64

some : 0 < 2 ^ 64
some = omega arith

all_small : {C : Type 0} → (outcome : C → Arrival → Outcome C) (records : List Record) (v : View C) → Small v → Small (after_all outcome records v)
unfolding after_all
all_small outcome [] v small = small
all_small outcome (one ∷ records) v small =
    let o = outcome v.store (arrival_of v.held.ports one) in
    all_small outcome records (after_one outcome one v) (record {
      arrivals = mod-lt (v.held.arrivals + 1) some;
      departures = mod-lt (v.held.departures + length o.sent) some;
      cut = mod-lt (v.held.cut + o.cut) some;
      work = mod-lt (v.work + o.work) some;
    })

-- How many records there can be.

few_by : (whole : Bool) (one : Record) (rest end : Reading) (n : ℕ) → length rest.records ≤ n → length end.records ≤ n → length (cond whole (behind (one ∷ []) rest) end).records ≤ suc n
few_by true one rest end n rest_few end_few = omega arith
few_by false one rest end n rest_few end_few = omega arith

by_long : Head → List ℕ → Bool → Reading
by_long head octets long =
    cond long (record { head = Some head; records = []; left = []; fault = Some (record { rule = K 5; place = None }) }) (record { head = Some head; records = []; left = octets; fault = None })

long_none : (head : Head) (octets : List ℕ) (long : Bool) → (by_long head octets long).records ≡ []
unfolding by_long
long_none head octets true = refl
long_none head octets false = refl

ending_none : (head : Head) (octets : List ℕ) → (ending head octets).records ≡ []
unfolding by_long
ending_none head octets = long_none head octets (is_too_long head.order octets)

records_few : (head : Head) (octets : List ℕ) (owed : ℕ) → length (records_in head octets owed).records ≤ length octets
unfolding records_in
records_few head [] owed = omega arith
records_few head (o ∷ octets) (suc owed) = omega (arith, records_few head octets owed)
records_few head (o ∷ octets) zero =
    few_by (is_whole head.order (o ∷ octets)) (record_of head.order (o ∷ octets)) (records_in head octets (15 + captured_length head.order (o ∷ octets))) (ending head (o ∷ octets)) (length octets)
    (records_few head octets (15 + captured_length head.order (o ∷ octets)))
    (omega (arith, ap length (ending_none head (o ∷ octets))))

opened_few : (octets : List ℕ) (head : Result Head Refusal) → length (opened octets head).records ≤ length octets
opened_few octets (Err fault) = omega arith
opened_few octets (Ok head) = records_few head octets 0

pub reading_few : (octets : List ℕ) → length (reading_of octets).records ≤ length octets
reading_few octets = by_size (nat_lt (length octets) 24) refl
  where
    by_size : (short : Bool) → nat_lt (length octets) 24 ≡ short → length (reading_of octets).records ≤ length octets
    by_size true e = omega (arith, ap (λ (r : Reading). length r.records) (unread octets (grind (arith, nat_tests))))
    by_size false e =
        omega (arith, ap (λ (r : Reading). length r.records) (is_opened octets (grind (arith, nat_tests))), opened_few (drop 24 octets) (head_of octets), length-drop 24 octets)

pub arrivals_many : (ports : List ℕ) (records : List Record) → length (arrivals_of ports records) ≡ length records
arrivals_many ports [] = refl
arrivals_many ports (one ∷ records) = ap (λ (n : ℕ). suc n) (arrivals_many (drop 1 ports) records)

-- What a run has come to is the run over the packets so far: so many came in and were sent, so many items were cut, with this work and
-- store, and these octets are those of the sent file and of the records' part of the report.
pub record IsRunOf {C : Type 0} (ran : Ran C) (head : Option Head) (packets : List Arrival) (v : View C) : Type 0 where
  pub sent : v.held.sent ≡ sent_file head packets ran.sent
  pub report : v.held.report ≡ sent_lines ran.sent
  pub arrivals : v.held.arrivals ≡ length packets
  pub departures : v.held.departures ≡ length ran.sent
  pub cut : v.held.cut ≡ ran.cut % 2 ^ 64
  pub work : v.work ≡ ran.work % 2 ^ 64
  pub store : v.store ≡ ran.store

module _ {C : Type 0} (outcome : C → Arrival → Outcome C) (store : C) (ports : List ℕ) where
  abbrev run_over : List Record → Ran C
  run_over records = run_of outcome store (arrivals_of ports records)

  abbrev view_after : Option Head → List Record → View C
  view_after head records = after_all outcome records (begun head (start ports store))

  sent_by : (head : Option Head) (records : List Record) → (head ≡ None → records ≡ [])
      → (view_after head records).held.sent ≡ sent_file head (arrivals_of ports records) (run_over records).sent
  unfolding after_all
  sent_by None records none = ap (λ (l : List Record). (after_all outcome l (start ports store)).held.sent) (none refl)
  sent_by (Some head) records none = sent_all outcome [] records (begun (Some head) (start ports store))

  report_by : (head : Option Head) (records : List Record) → (view_after head records).held.report ≡ sent_lines (run_over records).sent
  report_by None records = report_all outcome 0 records (start ports store)
  report_by (Some head) records = report_all outcome 0 records (begun (Some head) (start ports store))

  arrivals_by : (head : Option Head) (records : List Record) → (view_after head records).held.arrivals % 2 ^ 64 ≡ length records % 2 ^ 64
  arrivals_by None records = arrivals_all outcome records (start ports store) ∙ ap (λ (n : ℕ). n % 2 ^ 64) (zero-add (length records))
  arrivals_by (Some head) records = arrivals_all outcome records (begun (Some head) (start ports store)) ∙ ap (λ (n : ℕ). n % 2 ^ 64) (zero-add (length records))

  departures_by : (head : Option Head) (records : List Record) → (view_after head records).held.departures % 2 ^ 64 ≡ length (run_over records).sent % 2 ^ 64
  departures_by None records = departures_all outcome 0 records (start ports store) ∙ ap (λ (n : ℕ). n % 2 ^ 64) (zero-add (length (run_over records).sent))
  departures_by (Some head) records = departures_all outcome 0 records (begun (Some head) (start ports store)) ∙ ap (λ (n : ℕ). n % 2 ^ 64) (zero-add (length (run_over records).sent))

  cut_by : (head : Option Head) (records : List Record) → (view_after head records).held.cut % 2 ^ 64 ≡ (run_over records).cut % 2 ^ 64
  cut_by None records = cut_all outcome 0 records (start ports store) ∙ ap (λ (n : ℕ). n % 2 ^ 64) (zero-add (run_over records).cut)
  cut_by (Some head) records = cut_all outcome 0 records (begun (Some head) (start ports store)) ∙ ap (λ (n : ℕ). n % 2 ^ 64) (zero-add (run_over records).cut)

  work_by : (head : Option Head) (records : List Record) → (view_after head records).work % 2 ^ 64 ≡ (run_over records).work % 2 ^ 64
  work_by None records = work_all outcome 0 records (start ports store) ∙ ap (λ (n : ℕ). n % 2 ^ 64) (zero-add (run_over records).work)
  work_by (Some head) records = work_all outcome 0 records (begun (Some head) (start ports store)) ∙ ap (λ (n : ℕ). n % 2 ^ 64) (zero-add (run_over records).work)

  store_by : (head : Option Head) (records : List Record) → (view_after head records).store ≡ (run_over records).store
  store_by None records = store_all outcome 0 records (start ports store)
  store_by (Some head) records = store_all outcome 0 records (begun (Some head) (start ports store))

  start_small : (head : Option Head) → Small (begun head (start ports store))
  start_small None = record { arrivals = some; departures = some; cut = some; work = some }
  start_small (Some head) = record { arrivals = some; departures = some; cut = some; work = some }

below : (a b : ℕ) → a < 2 ^ 64 → b < 2 ^ 64 → a % 2 ^ 64 ≡ b % 2 ^ 64 → a ≡ b
below a b a_small b_small same = sym (mod-eq_of_lt a_small) ∙ same ∙ mod-eq_of_lt b_small

pub is_run_of : {C : Type 0} → (outcome : C → Arrival → Outcome C) (store : C) (ports octets : List ℕ) → AreFew outcome → length octets ≤ capture_limit
    → IsRunOf (run_of outcome store (arrivals_of ports (reading_of octets).records)) (reading_of octets).head (arrivals_of ports (reading_of octets).records) (run_view outcome store ports (reading_of octets))
is_run_of outcome store ports octets few short =
    let reading = reading_of octets in
    let arrivals = arrivals_of ports reading.records in
    let small = all_small outcome reading.records (begun reading.head (start ports store)) (start_small outcome store ports reading.head) in
    let many = arrivals_many ports reading.records in
    let limit : length octets ≤ 1073741824 = short in
    let held_few = reading_few octets in
    let packets_few = sent_few outcome few 0 store arrivals in
    record {
      sent = sent_by outcome store ports reading.head reading.records (no_records octets);
      report = report_by outcome store ports reading.head reading.records;
      arrivals = below _ _ small.arrivals (omega arith) (arrivals_by outcome store ports reading.head reading.records) ∙ sym many;
      departures = below _ _ small.departures (omega arith) (departures_by outcome store ports reading.head reading.records);
      cut = sym (mod-eq_of_lt small.cut) ∙ cut_by outcome store ports reading.head reading.records;
      work = sym (mod-eq_of_lt small.work) ∙ work_by outcome store ports reading.head reading.records;
      store = store_by outcome store ports reading.head reading.records;
    }
