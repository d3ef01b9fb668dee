-- What a call of `run14` says of its statuses, its line and its files (this project's own).
use Rattle.std.specs.Prelude.{◌≡◌, ◌⊎◌, ◌≤◌, ◌%◌, ◌^◌, ℕ, Bool, List, [], All, length, Some, None, Result, Ok, Err, OnOk}
use Rattle.state_store.specs.State.{Contents}
use Rattle.p4x_fault.specs.declared.Fault.{Fault as Refusal}
use Rattle.p4x_io.specs.Desk.{DeskView, SinkView, put, said}
use Rattle.match_core.specs.Fits.{Fits}
use Rattle.match_core.specs.Signatures.{IsSignature}
use Rattle.match_core.specs.declared.entries.Entries.{Entries}
use Rattle.fabric.specs.Numbers.{IsArrival, IsBound}
use Rattle.fabric.specs.declared.packets.Arrival.{Arrival}
use Rattle.pcap_io.specs.Captures.{IsCapture, reading_of, arrivals_of}
use Rattle.pcap_io.specs.Sent.{sent_bytes_of}
use Rattle.command_words.specs.Words.{Run14Files, run14_inputs, run14_outputs}
use Rattle.file_work.specs.declared.stop.Limited.TheVariants as limited
use Rattle.file_work.specs.declared.stop.Stop.{Stop}
use Rattle.file_work.specs.declared.stop.Stop.TheVariants.{Unfit, Refused, Limit}
use Rattle.file_work.specs.Clauses.{ComesWhere, ComesFirst, Fronts, AsDue}
use Rattle.file_work.specs.Works.{Held, Works, AllKept, Tells}
use Rattle.command_inputs.specs.PortsFile.{ports_end}
use Rattle.run_stream.specs.Captured.{capture_limit, CaptureIs, IsOver, GivesNothing}
use Rattle.run_stream.specs.Reports.{report_of, run_line}
use Rattle.run_stream.specs.Runs.{Ran}
use Rattle.p414_syntax.specs.declared.syntax.Syntax14.{Syntax14}
use Rattle.p414_reader.specs.Reading.{Reads14}
use Rattle.p414_sem.specs.Expanded.{Expanded, IsExpanded}
use Rattle.p414_sem.specs.Signatures.{signature14}
use Rattle.program_commands.specs.Commands.{RefusesText, OverText}
use Rattle.program_commands.specs.Programs.{ProgramIs, ReadsOnce}
use Rattle.run14_cmd.specs.Run14.{HasProgram, Begins, StopsAtProgram, StopsAtEntries, StopsBefore, TakesProgram, TakesEntries, TakesPorts, InOrder, KeepsInOrder, Run14Due, program_read, entries_read, ports_read, filled, setting_for, this_run, own_lines, capture_reports, ran_word}

-- The program ran. It is the one program that its file reads as, and breaks no rule. The entries fit its signature, which
-- is well formed. The capture is a whole one, with these packets on the ports that were named. The sent file, the report
-- and the line that was printed are those of the run of the program over them, under the rule and the bound that were
-- given.
pub record RanSo (f : Run14Files) (files : Held) (new : DeskView) (before after : SinkView) : Type 0 where
  pub syntax : Syntax14
  pub entries : Entries
  pub ports : List ℕ
  pub expanded : Expanded
  pub begins : Begins f files syntax entries ports
  pub only : (read : List ℕ) (other : Syntax14) → files f.program ≡ Some read → Reads14 read other → other ≡ syntax
  pub comes_to : IsExpanded syntax.decls expanded
  pub only_to : (x : Expanded) → IsExpanded syntax.decls x → x ≡ expanded
  pub formed : IsSignature (signature14 syntax.decls)
  pub given : Fits entries (signature14 syntax.decls)
  pub octets : List ℕ
  pub link : ℕ
  pub nano : Bool
  pub arrivals : List Arrival
  pub capture : files f.capture ≡ Some octets
  pub fits : length octets ≤ capture_limit
  pub whole : IsCapture octets ports link nano arrivals
  pub packets : All IsArrival arrivals
  pub bound : IsBound f.passes
  pub ran : Ran Contents
  pub runs : ran ≡ this_run (setting_for f syntax entries expanded) f.passes arrivals
  pub sent_is : new.told f.sent ≡ Some (Some (sent_bytes_of link nano arrivals ran.sent))
  pub report_is : new.told f.report
      ≡ Some (Some (report_of (length arrivals) ran.sent (ran.cut % 2 ^ 64)
      (own_lines (setting_for f syntax entries expanded) ran.store 0)))
  pub line_is : after.printed
      ≡ said before.printed (run_line ran_word (length arrivals) (length ran.sent) (ran.cut % 2 ^ 64))

-- The causes of the statuses.

-- the program is taken, and the entries break an E rule
abbrev pub RefusesEntries : Run14Files → Held → Type 0
RefusesEntries f files =
    (s : Syntax14) × ProgramIs (files f.program) (Ok s) × ((fault : Refusal) × (filled f files s ≡ Err (Unfit fault)))

-- the program is taken, and the entries file is over its limit
abbrev pub OverEntries : Run14Files → Held → Type 0
OverEntries f files =
    (s : Syntax14) × ProgramIs (files f.program) (Ok s) × (filled f files s ≡ Err (Limit limited.Entries))

-- the program and the entries are taken, and a P rule holds of the ports
abbrev pub RefusesPorts : Run14Files → Held → Type 0
RefusesPorts f files =
    (s : Syntax14) × (e : Entries) × HasProgram f files s e
    × ((fault : Refusal) × (ports_end files f.ports ≡ Err (Refused fault)))

-- the program and the entries are taken, and the ports file is over its limit
abbrev pub OverPorts : Run14Files → Held → Type 0
OverPorts f files =
    (s : Syntax14) × (e : Entries) × HasProgram f files s e × (ports_end files f.ports ≡ Err (Limit limited.Ports))

-- the files before the capture are taken, and a K rule holds of it
abbrev pub RefusesCapture : Run14Files → Held → Type 0
RefusesCapture f files =
    (s : Syntax14) × (e : Entries) × (ports : List ℕ) × Begins f files s e ports
    × ((fault : Refusal) × CaptureIs (files f.capture) (Some fault))

-- the files before the capture are taken, and it is over its limit
abbrev pub OverCapture : Run14Files → Held → Type 0
OverCapture f files =
    (s : Syntax14) × (e : Entries) × (ports : List ℕ) × Begins f files s e ports × IsOver (files f.capture)

-- all are taken
abbrev pub Accepts : Run14Files → Held → Type 0
Accepts f files =
    (s : Syntax14) × (e : Entries) × (ports : List ℕ) × Begins f files s e ports
    × CaptureIs (files f.capture) None

-- The statuses that come of the program, whatever the other files hold. Where 6 doesn't come of it, it is taken, and 6
-- comes of them.
pub record FirstStatuses (f : Run14Files) (files : Held) (status : ℕ) : Type 0 where
  pub refused : ComesWhere status 3 (RefusesText f.program files)
  pub limit : ComesFirst status 6 (OverText f.program files) (TakesProgram f files)

-- The statuses that come of the entries, or 6 of the program, whatever the ports and the capture hold.
pub record EntriesStatuses (f : Run14Files) (files : Held) (status : ℕ) : Type 0 where
  pub refused : ComesWhere status 4 (RefusesEntries f files)
  pub limit : ComesFirst status 6 (OverText f.program files ⊎ OverEntries f files) (TakesEntries f files)

-- The statuses that come of the ports, or 6 of the program or the entries, whatever the capture holds. Where 5 or 6
-- doesn't come of them, they are taken, and it comes of the capture.
pub record PortStatuses (f : Run14Files) (files : Held) (status : ℕ) : Type 0 where
  pub refused : ComesFirst status 5 (RefusesPorts f files) (TakesPorts f files)
  pub limit : ComesFirst status 6 (OverText f.program files ⊎ OverEntries f files ⊎ OverPorts f files) (TakesPorts f files)

-- the statuses that `run14` can have
abbrev pub IsRun14Status : ℕ → Type 0
IsRun14Status status =
    (status ≡ 0) ⊎ (status ≡ 1) ⊎ (status ≡ 3) ⊎ (status ≡ 4) ⊎ (status ≡ 5) ⊎ (status ≡ 6) ⊎ (status ≡ 7)

-- The statuses of `run14`, each with its cause: the first in the order of the work. A cause asks of the desk only that
-- it tells the files that are read until it is found. It has no others, whatever the desk tells.
pub record Run14Statuses (f : Run14Files) (old : DeskView) (files : Held) (status : ℕ) : Type 0 where
  pub program : Tells (program_read f) old files → FirstStatuses f files status
  pub entries : Tells (entries_read f) old files → EntriesStatuses f files status
  pub ports : Tells (ports_read f) old files → PortStatuses f files status
  pub refused : Tells (run14_inputs f) old files → ComesWhere status 5 (RefusesPorts f files ⊎ RefusesCapture f files)
  pub limit : Tells (run14_inputs f) old files
      → ComesWhere status 6 (OverText f.program files ⊎ OverEntries f files ⊎ OverPorts f files ⊎ OverCapture f files)
  pub accepted : Tells (run14_inputs f) old files → ComesWhere status 0 (Accepts f files)
  pub only : IsRun14Status status

-- The capture was refused: the sent file and the report hold what the whole records before the refused one give. They are
-- empty where nothing of the capture is run.
pub record RanBefore (f : Run14Files) (files : Held) (old new : DeskView) : Type 0 where
  pub syntax : Syntax14
  pub entries : Entries
  pub ports : List ℕ
  pub expanded : Expanded
  pub begins : Begins f files syntax entries ports
  pub comes_to : IsExpanded syntax.decls expanded
  pub sent_is : new.told f.sent
      ≡ put (old.told f.sent)
      (capture_reports (setting_for f syntax entries expanded) f.passes ports (files f.capture)).sent
  pub report_is : new.told f.report
      ≡ put (old.told f.report)
      (capture_reports (setting_for f syntax entries expanded) f.passes ports (files f.capture)).report
  pub empty : GivesNothing (files f.capture)
      → (new.told f.sent ≡ put (old.told f.sent) []) × (new.told f.report ≡ put (old.told f.report) [])

-- No output file of `run14` is made or changed with status 3 or 4; nor with any status where the program, the entries or
-- the ports aren't taken. Each asks of the desk only that it tells the files that are read until then.
pub record Run14Kept (f : Run14Files) (files : Held) (old new : DeskView) (status : ℕ) : Type 0 where
  pub refused : (status ≡ 3) ⊎ (status ≡ 4) → AllKept (run14_outputs f) old new
  pub program : Tells (program_read f) old files → (stop : Stop) → StopsAtProgram f files stop
      → AllKept (run14_outputs f) old new
  pub entries : Tells (entries_read f) old files → (stop : Stop) → StopsAtEntries f files stop
      → AllKept (run14_outputs f) old new
  pub ports : Tells (ports_read f) old files → (stop : Stop) → StopsBefore f files stop
      → AllKept (run14_outputs f) old new

-- What the output files of `run14` hold. Where the capture isn't taken they hold what the whole records in front give.
-- With every status each is as it was, or holds a front of its content; but for 1 and 7 it is exactly as it is due.
pub record Run14Left (f : Run14Files) (files : Held) (old new : DeskView) (status : ℕ) : Type 0 where
  pub before : RefusesCapture f files ⊎ OverCapture f files → (status ≡ 5) ⊎ (status ≡ 6)
      → RanBefore f files old new
  pub fronts : Fronts (run14_outputs f) (Run14Due f files) old new
  pub as_due : AsDue (Run14Due f files) old new status

-- the packets of a capture that was run to its end are such as come in
abbrev pub PacketsFit : Run14Files → DeskView → Result (List ℕ) Stop → Type 0
PacketsFit f old end = OnOk end ((files : Held) (octets ports : List ℕ) → Tells (run14_inputs f) old files
    → files f.capture ≡ Some octets → ports_end files f.ports ≡ Ok ports
    → All IsArrival (arrivals_of ports (reading_of octets).records))

-- the signature of a program that was run is well formed, and its entries fit it
abbrev pub EntriesFit : Run14Files → DeskView → Result (List ℕ) Stop → Type 0
EntriesFit f old end = OnOk end ((files : Held) (s : Syntax14) (e : Entries) → Tells (run14_inputs f) old files
    → HasProgram f files s e → IsSignature (signature14 s.decls) × Fits e (signature14 s.decls))

-- The work of `run14`.
pub record Run14Works (f : Run14Files) (old new : DeskView) (end : Result (List ℕ) Stop) : Type 0 where
  pub works : Works (run14_inputs f) (run14_outputs f) (Run14Due f) old new end
  pub packets : PacketsFit f old end
  pub filling : EntriesFit f old end
  pub order : InOrder f old end
  pub kept : KeepsInOrder f old new end
  pub once : OnOk end ((text : List ℕ) → old.told f.program ≡ Some (Some text) → ReadsOnce text)
  pub bound : IsBound f.passes
