-- What a capture comes to that a program is run over (this project's own).
use Rattle.std.specs.Prelude.{◌≡◌, ◌⊎◌, ◌<◌, ◌≤◌, ℕ, ◌%◌, ◌^◌, nat_lt, if◌then◌else◌, List, [], length, Option, Some, None, Result, Ok, Err}
use Rattle.p4x_fault.specs.declared.Fault.{Fault as Refusal}
use Rattle.p4x_io.specs.Desk.{grown}
use Rattle.fabric.specs.declared.packets.Arrival.{Arrival}
use Rattle.fabric.specs.declared.packets.Sent.{Sent}
use Rattle.pcap_io.specs.declared.head.Head.{Head}
use Rattle.pcap_io.specs.Captures.{Reading, reading_of, refused, refusal, refusal_in, arrivals_of}
use Rattle.pcap_io.specs.Sent.{sent_bytes_of}
use Rattle.file_work.specs.declared.stop.Limited.TheVariants as limited
use Rattle.file_work.specs.declared.stop.Stop.{Stop}
use Rattle.file_work.specs.declared.stop.Stop.TheVariants.{Fault, Refused, Limit, Memory}
use Rattle.file_work.specs.Phases.{Told, GrownByFront}
use Rattle.file_work.specs.Works as works
use Rattle.run_stream.specs.declared.counts.Counts.{Counts}
use Rattle.run_stream.specs.Runs.{Ran}
use Rattle.run_stream.specs.Reports.{sent_lines, report_of, run_line}

-- the greatest length in octets of a capture
abbrev pub capture_limit : ℕ
capture_limit = 1073741824

-- what a capture comes to: the sent file, the report, and how many packets came and left or why the run stops
pub record Reports : Type 0 where
  pub sent : List ℕ
  pub report : List ℕ
  pub end : Result Counts Stop

-- the sent file of a capture with this file header; an empty one where no file header is taken
abbrev pub sent_file : Option Head → List Arrival → List Sent → List ℕ
sent_file None arrivals sent = []
sent_file (Some head) arrivals sent = sent_bytes_of head.link head.nano arrivals sent

-- the lines that a runner ends its report with, by the store that it leaves and its work
abbrev pub EndLines : Type 0 → Type 0
EndLines C = C → ℕ → List ℕ

-- A run over the packets of a capture that is whole, or over those in front of what is refused: then the report has no
-- end part.
abbrev pub run_reports : {C : Type 0} → EndLines C → Option Refusal → Option Head → List Arrival → Ran C → Reports
run_reports lines None head arrivals run = record {
  sent = sent_file head arrivals run.sent;
  report = report_of (length arrivals) run.sent (run.cut % 2 ^ 64) (lines run.store (run.work % 2 ^ 64));
  end = Ok (record { arrivals = length arrivals; sent = length run.sent; cut = run.cut % 2 ^ 64 });
}
run_reports lines (Some fault) head arrivals run = record {
  sent = sent_file head arrivals run.sent;
  report = sent_lines run.sent;
  end = Err (Refused fault);
}

-- what octets come to that are read as this, with packets on these ports
abbrev pub reading_reports : {C : Type 0} → EndLines C → (List Arrival → Ran C) → List ℕ → Reading → Reports
reading_reports lines run ports reading =
    let arrivals = arrivals_of ports reading.records in
    run_reports lines (refusal_in reading) reading.head arrivals (run arrivals)

-- nothing was sent
abbrev pub stopped : Stop → Reports
stopped stop = record { sent = []; report = []; end = Err stop }

-- what the file of a capture comes to whose packets run so
abbrev pub reports_over : {C : Type 0} → EndLines C → (List Arrival → Ran C) → List ℕ → Option (List ℕ) → Reports
reports_over lines run ports None = stopped Fault
reports_over lines run ports (Some octets) =
    if nat_lt capture_limit (length octets) then stopped (Limit limited.Capture)
    else reading_reports lines run ports (reading_of octets)

-- what stops a run over a capture: a fault, want of memory, a rule that the capture breaks, or its limit
abbrev pub StopsRun : Stop → Type 0
StopsRun stop =
    (stop ≡ Fault) ⊎ (stop ≡ Memory) ⊎ ((fault : Refusal) × (stop ≡ Refused fault)) ⊎ (stop ≡ Limit limited.Capture)

-- a fault or want of memory, which may stand in the place of what is due
abbrev pub IsLoose : Result Counts Stop → Type 0
IsLoose end = (end ≡ Err Fault) ⊎ (end ≡ Err Memory)

-- The sent file and the report have grown by what the capture comes to, and the run ended as that says; or it ended
-- with a fault or want of memory, and they have grown by fronts of that.
abbrev pub Delivers : Reports → Result Counts Stop → Told → Told → Told → Told → Type 0
Delivers r end sent sent' report report' =
    ((end ≡ r.end) × (sent' ≡ grown sent r.sent) × (report' ≡ grown report r.report))
    ⊎ (IsLoose end × GrownByFront sent r.sent sent' × GrownByFront report r.report report')

-- the end of a command by that of its run: the line with the command's word
abbrev pub lined : List ℕ → Result Counts Stop → Result (List ℕ) Stop
lined word (Ok counts) = Ok (run_line word counts.arrivals counts.sent counts.cut)
lined word (Err stop) = Err stop

-- the same of a command
abbrev pub DeliversLine : List ℕ → Reports → Result (List ℕ) Stop → Told → Told → Told → Told → Type 0
DeliversLine word r end sent sent' report report' =
    ((end ≡ lined word r.end) × (sent' ≡ grown sent r.sent) × (report' ≡ grown report r.report))
    ⊎ (works.IsLoose end × GrownByFront sent r.sent sent' × GrownByFront report r.report report')

-- the capture is there, not over its limit, and this is the first of its K rules that holds, if any
abbrev pub CaptureIs : Option (List ℕ) → Option Refusal → Type 0
CaptureIs None found = ⊥
CaptureIs (Some octets) found = (length octets ≤ capture_limit) × (refusal octets ≡ found)

-- the capture is there, and over its limit
abbrev pub IsOver : Option (List ℕ) → Type 0
IsOver None = ⊥
IsOver (Some octets) = capture_limit < length octets

-- nothing of the capture is run: one of the rules K1 to K3 is the first that holds of it, or it is over its limit
abbrev pub GivesNothing : Option (List ℕ) → Type 0
GivesNothing file = ((rule : ℕ) × (rule ≤ 3) × CaptureIs file (Some (refused rule))) ⊎ IsOver file
