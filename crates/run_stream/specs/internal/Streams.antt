-- What a run over a capture that comes in pieces has come to: the run's code beside its meaning.
use Rattle.std.specs.Prelude.{◌≡◌, ◌⊎◌, ℕ, ◌+◌, ◌%◌, ◌^◌, ◌≤◌, Bool, true, false, All, List, [], ◌∷◌, ◌++◌, length, drop, Option, Some, None, Result, Ok, Err, IsErrAnd}
use Rattle.std.specs.List.{flat_map}
use Rattle.p4x_fault.specs.declared.Fault.{Fault as Refusal}
use Rattle.p4x_io.specs.Desk.{grown}
use Rattle.fabric.specs.declared.packets.Arrival.{Arrival}
use Rattle.fabric.specs.declared.packets.Out.{Out}
use Rattle.pcap_io.specs.declared.head.Head.{Head}
use Rattle.pcap_io.specs.declared.records.Record.{Record}
use Rattle.pcap_io.specs.Captures.{Reading, reading_of, arrival_of, IsRecord}
use Rattle.pcap_io.specs.Sent.{file_header_of, record_header_of}
use Rattle.file_work.specs.declared.stop.Stop.{Stop}
use Rattle.file_work.specs.declared.stop.Stop.TheVariants.{Fault, Refused, Memory}
use Rattle.file_work.specs.Phases.{Told, GrownByFront}
use Rattle.run_stream.specs.declared.stream.Stream.{Stream}
use Rattle.run_stream.specs.Captured.{capture_limit}
use Rattle.run_stream.specs.Reports.{sent_line}
use Rattle.run_stream.specs.Runs.{Outcome, numbered}

-- The ports of the packets that are still to come; whether the file header was written; how many packets came in and
-- were sent, and how many items were cut, each modulo 2^64; and octets of the sent file and of the report.
pub record Held : Type 0 where
  pub ports : List ℕ
  pub headed : Bool
  pub arrivals : ℕ
  pub departures : ℕ
  pub cut : ℕ
  pub sent : List ℕ
  pub report : List ℕ

-- the same with the store of the runner, and its work modulo 2^64
pub record View (C : Type 0) : Type 0 where
  pub held : Held
  pub store : C
  pub work : ℕ

-- a run that goes on, as contracts see it
abbrev pub held_of : Stream → Held
held_of s = record {
  ports = s.ports.now;
  headed = s.headed;
  arrivals = s.counts.arrivals;
  departures = s.counts.sent;
  cut = s.counts.cut;
  sent = s.sent.items;
  report = s.report.items;
}

-- the same with what its runner has come to
abbrev pub view_of : {C : Type 0} → Stream → C → ℕ → View C
view_of s store work = record { held = held_of s; store = store; work = work }

-- a run before its first packet
abbrev pub empty : List ℕ → Held
empty ports = record { ports = ports; headed = false; arrivals = 0; departures = 0; cut = 0; sent = []; report = [] }

abbrev pub start : {C : Type 0} → List ℕ → C → View C
start ports store = record { held = empty ports; store = store; work = 0 }

-- the file header is written once
abbrev pub with_header : Bool → Head → Held → Held
with_header true head h = h
with_header false head h = record h { headed = true; sent = h.sent ++ file_header_of head.link head.nano }

-- it is written as soon as that of the capture is known
abbrev pub headed_by : Option Head → Held → Held
headed_by None h = h
headed_by (Some head) h = with_header h.headed head h

abbrev pub begun : {C : Type 0} → Option Head → View C → View C
begun head v = record v { held = headed_by head v.held }

-- the record of a packet that leaves, with the times of the packet that it came from
abbrev pub out_record : Arrival → Out → List ℕ
out_record a out = record_header_of a.seconds a.fraction (length out.octets % 2 ^ 32) ++ out.octets

-- its line of the report
abbrev pub out_line : Out → List ℕ
out_line out = sent_line (numbered 0 out)

-- what packets that leave add to the sent file and the report
abbrev pub with_outs : Arrival → List Out → Held → Held
with_outs a outs h = record h {
  departures = (h.departures + length outs) % 2 ^ 64;
  sent = h.sent ++ flat_map (out_record a) outs;
  report = h.report ++ flat_map out_line outs;
}

-- the same of one packet that isn't counted yet
abbrev pub with_out : Arrival → Out → Held → Held
with_out a out h = record h { sent = h.sent ++ out_record a out; report = h.report ++ out_line out }

-- the same of packets that aren't counted yet
abbrev pub with_written : Arrival → List Out → Held → Held
with_written a outs h =
    record h { sent = h.sent ++ flat_map (out_record a) outs; report = h.report ++ flat_map out_line outs }

-- a packet comes in on the first port, and so many items are cut of what comes of it
abbrev pub with_arrival : ℕ → Held → Held
with_arrival cut h = record h {
  ports = drop 1 h.ports;
  arrivals = (h.arrivals + 1) % 2 ^ 64;
  cut = (h.cut + cut) % 2 ^ 64;
}

-- a packet comes in, and this comes of it
abbrev pub with_outcome : {C : Type 0} → Arrival → Outcome C → View C → View C
with_outcome a one v = record {
  held = with_outs a one.sent (with_arrival one.cut v.held);
  store = one.store;
  work = (v.work + one.work) % 2 ^ 64;
}

-- the packet of a record comes in on the next port
abbrev pub after_one : {C : Type 0} → (C → Arrival → Outcome C) → Record → View C → View C
after_one outcome one v =
    let a = arrival_of v.held.ports one in
    with_outcome a (outcome v.store a) v

-- the packets of records come in, one after another
unfoldable pub after_all : {C : Type 0} → (C → Arrival → Outcome C) → List Record → View C → View C
after_all outcome [] v = v
after_all outcome (one ∷ records) v = after_all outcome records (after_one outcome one v)

-- what a run over the packets of octets that are read as this comes to, where nothing is appended
abbrev pub run_view : {C : Type 0} → (C → Arrival → Outcome C) → C → List ℕ → Reading → View C
run_view outcome store ports reading = after_all outcome reading.records (begun reading.head (start ports store))

-- what was written so far is appended to its files
abbrev pub cleared : Held → Held
cleared h = record h { sent = []; report = [] }

abbrev pub emptied : {C : Type 0} → View C → View C
emptied v = record v { held = cleared v.held }

-- the records were taken
abbrev pub drained : Reading → Reading
drained reading = record reading { records = [] }

-- what is read as no octets
abbrev pub nothing_read : Reading
nothing_read = record { head = None; records = []; left = []; fault = None }

-- The octets were read and run, and what came of that was appended to the sent file and the report. The numbers of each
-- record fit the words that hold them.
pub record Streamed {C : Type 0} (outcome : C → Arrival → Outcome C) (store : C) (ports octets : List ℕ)
    (sent report sent' report' : Told) (reader : Reading) (stream : View C) : Type 0 where
  pub reader_is : reader ≡ drained (reading_of octets)
  pub stream_is : stream ≡ emptied (run_view outcome store ports (reading_of octets))
  pub sent_is : sent' ≡ grown sent (run_view outcome store ports (reading_of octets)).held.sent
  pub report_is : report' ≡ grown report (run_view outcome store ports (reading_of octets)).held.report
  pub known : All IsRecord (reading_of octets).records

-- A fault or want of memory ended it: the files have grown by fronts of what was to be appended.
abbrev pub Cut : {C : Type 0} → View C → Told → Told → Told → Told → Stop → Type 0
Cut whole sent report sent' report' stop = ((stop ≡ Fault) ⊎ (stop ≡ Memory))
    × GrownByFront sent whole.held.sent sent' × GrownByFront report whole.held.report report'

-- these octets break the rule of this refusal, and what stands before it was run
abbrev pub Refuses : {C : Type 0} → (C → Arrival → Outcome C) → C → List ℕ → List ℕ → Told → Told → Told → Told → Stop
    → Type 0
Refuses outcome store ports octets sent report sent' report' stop =
    (fault : Refusal) × (stop ≡ Refused fault) × ((reading_of octets).fault ≡ Some fault)
    × (sent' ≡ grown sent (run_view outcome store ports (reading_of octets)).held.sent)
    × (report' ≡ grown report (run_view outcome store ports (reading_of octets)).held.report)

-- how the run of a piece ends, with which these octets were read
abbrev pub PieceEnds : {C : Type 0} → (C → Arrival → Outcome C) → C → List ℕ → List ℕ → Told → Told → Told → Told
    → Reading → View C → Result (Unit {0}) Stop → Type 0
PieceEnds outcome store ports octets sent report sent' report' reader stream (Ok u) =
    ((reading_of octets).fault ≡ None) × Streamed outcome store ports octets sent report sent' report' reader stream
PieceEnds outcome store ports octets sent report sent' report' reader stream (Err stop) =
    Refuses outcome store ports octets sent report sent' report' stop
    ⊎ Cut (run_view outcome store ports (reading_of octets)) sent report sent' report' stop

-- how the run of all pieces of a file ends that isn't over its limit
abbrev pub PiecesEnd : {C : Type 0} → (C → Arrival → Outcome C) → C → List ℕ → Option (List ℕ) → Told → Told → Told
    → Told → Reading → View C → Result (Unit {0}) Stop → Type 0
PiecesEnd outcome store ports None sent report sent' report' reader stream end =
    IsErrAnd end (λ stop. ((stop ≡ Fault) ⊎ (stop ≡ Memory)) × (sent' ≡ sent) × (report' ≡ report))
PiecesEnd outcome store ports (Some text) sent report sent' report' reader stream end =
    length text ≤ capture_limit → PieceEnds outcome store ports text sent report sent' report' reader stream end
