-- What the clauses of `p4x` say, by its words (this project's own).
use Rattle.std.specs.Prelude.{◌≡◌, ◌⊎◌, ◌≤◌, ◌%◌, ◌^◌, ℕ, Bool, List, [], ◌∷◌, All, length, Option, Some, None, Result, Ok, Err, IfErr, OnOk}
use Rattle.state_store.specs.State.{Contents}
use Rattle.p416_syntax.specs.declared.program.Syntax16.{Syntax16}
use Rattle.p4x_fault.specs.declared.Fault.{Fault as Refusal}
use Rattle.p4x_io.specs.Desk.{DeskView, SinkView, Rose, put, said}
use Rattle.command_words.specs.Words.{CarryFiles, Command, carry, check, order, run14, run16, carry_inputs, carry_outputs, inputs_of, outputs_of}
use Rattle.file_work.specs.declared.stop.Limited.TheVariants as limited
use Rattle.file_work.specs.declared.stop.Stop.{Stop}
use Rattle.file_work.specs.declared.stop.Stop.TheVariants.{Usage, Program, Unfit, Refused, Limit}
use Rattle.file_work.specs.Clauses.{ComesWhere, ComesFirst, EndsAsDue, OnlyThese, Fronts, AsDue}
use Rattle.file_work.specs.Works.{Held, Due, Works, AllKept, Tells}
use Rattle.run14_cmd.specs.Calls as ran14
use Rattle.run14_cmd.specs.Calls.{Run14Statuses, Run14Kept, Run14Left, Run14Works}
use Rattle.run14_cmd.specs.Run14 as due14
use Rattle.run14_cmd.specs.Run14.{Run14Due}
use Rattle.run16_cmd.specs.Calls as ran16
use Rattle.run16_cmd.specs.Calls.{Run16Statuses, Run16Kept, Run16Left, Run16Works}
use Rattle.run16_cmd.specs.Run16 as due16
use Rattle.run16_cmd.specs.Run16.{Run16Due}
use Rattle.p414_syntax.specs.declared.syntax.Syntax14.{Syntax14}
use Rattle.p414_reader.specs.Reading.{Reads14}
use Rattle.program_commands.specs.Programs.{IsProgramStop, ReadsOnce}
use Rattle.program_commands.specs.Programs as programs
use Rattle.program_commands.specs.Lines.{PrintsAccepted, PrintsOrder}
use Rattle.program_commands.specs.Commands.{ProgramDue, CheckDue, OrderDue, EndsByFile, RefusesText, OverText, TakesText}
use Rattle.fabric.specs.Numbers.{IsArrival, IsBound}
use Rattle.fabric.specs.declared.packets.Arrival.{Arrival}
use Rattle.pcap_io.specs.Captures.{IsCapture, reading_of, arrivals_of}
use Rattle.pcap_io.specs.Sent.{sent_bytes_of}
use Rattle.match_core.specs.Signatures.{IsSignature}
use Rattle.match_core.specs.Fits.{Fits}
use Rattle.p414_one_table.specs.declared.program.OneTable14.{OneTable14}
use Rattle.p414_one_table.specs.Form.{one_table_of}
use Rattle.p4x_cmd.specs.Carries.{SameRuns}
use Rattle.run_stream.specs.Captured.{capture_limit, CaptureIs, IsOver, GivesNothing}
use Rattle.command_inputs.specs.PortsFile.{ports_end}
use Rattle.p4x_cmd.specs.Carry.{CarryDue, ProgramIs, HasProgram, Begins, StopsBefore, StopsAtProgram, StopsAtEntries, TakesProgram, TakesPorts, InOrder, KeepsInOrder, Written, entries_stop, not_taken, carried_word, program_read, entries_read, ports_read, capture_reports}
use Rattle.p4x_cmd.specs.Entries.{no_entries}
use Rattle.p4x_cmd.specs.Meaning16.{signature16}
use Rattle.run_stream.specs.Runs.{Ran}
use Rattle.run_stream.specs.Reports.{work_line, report_of, run_line}
use Rattle.p4x_cmd.specs.Runs.{this_run, this_run14}

-- The premise of what is said of content: the words are a form of this command, and the desk tells what its input files
-- hold.
abbrev pub OnTold : Option Command → DeskView → (Command → Held → Type 0) → Type 0
OnTold found old P = (c : Command) (files : Held) → found ≡ Some c → Tells (inputs_of c) old files → P c files

-- The premise where each fact says by itself which files the desk has to tell: the words are a form of this command.
abbrev pub OnForm : Option Command → (Command → Held → Type 0) → Type 0
OnForm found P = (c : Command) (files : Held) → found ≡ Some c → P c files

-- the desk tells of these files whether they are there, and what they hold
abbrev pub AreTold : List (List ℕ) → DeskView → Type 0
AreTold [] desk = Unit {0}
AreTold (name ∷ names) desk = (desk.told name ≡ None → ⊥) × AreTold names desk

-- The clause `carried`.

-- The program was carried. It is of the one-table form, breaks no rule, and is the one program that its file reads as. The
-- text that stands in its file reads as one well-typed program of P4_16 which does with every packet, on all entries and under every bound, what the program of
-- P4_14 does. The capture is a whole one, with these packets on the ports that were named. The sent file, the report and
-- the line that was printed are those of the written program's run over them, with entries that fit its signature, which
-- is well formed; and this run is the one that the program of P4_14 makes of them.
pub record Carried (f : CarryFiles) (files : Held) (new : DeskView) (before after : SinkView) : Type 0 where
  pub syntax : Syntax14
  pub source : OneTable14
  pub ports : List ℕ
  pub text : List ℕ
  pub program : Syntax16
  pub begins : Begins f files source ports
  pub taken : programs.ProgramIs (files f.program) (Ok syntax)
  pub only : (read : List ℕ) (other : Syntax14) → files f.program ≡ Some read → Reads14 read other → other ≡ syntax
  pub form : one_table_of syntax ≡ Some source
  pub written : Written source text program
  pub octets : List ℕ
  pub link : ℕ
  pub nano : Bool
  pub arrivals : List Arrival
  pub capture : files f.capture ≡ Some octets
  pub fits : length octets ≤ capture_limit
  pub whole : IsCapture octets ports link nano arrivals
  pub packets : All IsArrival arrivals
  pub formed : IsSignature (signature16 program)
  pub given : Fits (no_entries (signature16 program)) (signature16 program)
  pub ran : Ran Contents
  pub bound : IsBound f.passes
  pub runs : ran ≡ this_run program f.passes arrivals
  pub same : SameRuns (this_run14 source f.passes arrivals) ran
  pub text_is : new.told f.text ≡ Some (Some text)
  pub sent_is : new.told f.sent ≡ Some (Some (sent_bytes_of link nano arrivals ran.sent))
  pub report_is : new.told f.report
      ≡ Some (Some (report_of (length arrivals) ran.sent (ran.cut % 2 ^ 64) (work_line (ran.work % 2 ^ 64))))
  pub line_is : after.printed
      ≡ said before.printed (run_line carried_word (length arrivals) (length ran.sent) (ran.cut % 2 ^ 64))

-- The program was taken: its file reads as it and as no other, within the limit, and it breaks no rule. What was printed
-- is what the command prints of it.
pub record Printed (Prints : Syntax14 → List ℕ → Type 0) (program : List ℕ) (files : Held) (before after : SinkView)
    : Type 0 where
  pub source : Syntax14
  pub line : List ℕ
  pub taken : programs.ProgramIs (files program) (Ok source)
  pub only : (read : List ℕ) (other : Syntax14) → files program ≡ Some read → Reads14 read other → other ≡ source
  pub prints : Prints source line
  pub line_is : after.printed ≡ said before.printed line

-- what status 0 says of a command
abbrev pub Done : Command → Held → DeskView → SinkView → SinkView → Type 0
Done (carry f) files new before after = Carried f files new before after
Done (check program) files new before after = Printed PrintsAccepted program files before after
Done (order program) files new before after = Printed PrintsOrder program files before after
Done (run14 f) files new before after = ran14.RanSo f files new before after
Done (run16 f) files new before after = ran16.RanSo f files new before after

-- The clauses `statuses` and `complete`: the cause of each status.

-- the program is refused, or it isn't of the one-table form
abbrev pub RefusesProgram : CarryFiles → Held → Type 0
RefusesProgram f files = RefusesText f.program files ⊎ ProgramIs (files f.program) (Err Program)

-- the program is taken, and the entries aren't
abbrev pub RefusesEntries : CarryFiles → Held → Type 0
RefusesEntries f files =
    (p : OneTable14) × ProgramIs (files f.program) (Ok p) × (entries_stop (files f.entries) ≡ Some (Unfit not_taken))

-- the program and the entries are taken, and a P rule holds of the ports
abbrev pub RefusesPorts : CarryFiles → Held → Type 0
RefusesPorts f files =
    (p : OneTable14) × HasProgram f files p × ((fault : Refusal) × (ports_end files f.ports ≡ Err (Refused fault)))

-- the program and the entries are taken, and the ports file is over its limit
abbrev pub OverPorts : CarryFiles → Held → Type 0
OverPorts f files = (p : OneTable14) × HasProgram f files p × (ports_end files f.ports ≡ Err (Limit limited.Ports))

-- the files before the capture are taken, and a K rule holds of it
abbrev pub RefusesCapture : CarryFiles → Held → Type 0
RefusesCapture f files =
    (p : OneTable14) × (ports : List ℕ) × Begins f files p ports
    × ((fault : Refusal) × CaptureIs (files f.capture) (Some fault))

-- the files before the capture are taken, and it is over its limit
abbrev pub OverCapture : CarryFiles → Held → Type 0
OverCapture f files = (p : OneTable14) × (ports : List ℕ) × Begins f files p ports × IsOver (files f.capture)

-- all are taken
abbrev pub Accepts : CarryFiles → Held → Type 0
Accepts f files = (p : OneTable14) × (ports : List ℕ) × Begins f files p ports × CaptureIs (files f.capture) None

-- The statuses that come of the program, whatever the other files hold. Where 6 doesn't come of it, it is taken, and 6
-- comes of them.
pub record FirstStatuses (f : CarryFiles) (files : Held) (status : ℕ) : Type 0 where
  pub refused : ComesWhere status 3 (RefusesProgram f files)
  pub limit : ComesFirst status 6 (OverText f.program files) (TakesProgram f files)

-- The statuses that come of the ports, or 6 of the program, whatever the capture holds. Where 5 or 6 doesn't come of
-- them, they are taken, and it comes of the capture.
pub record PortStatuses (f : CarryFiles) (files : Held) (status : ℕ) : Type 0 where
  pub refused : ComesFirst status 5 (RefusesPorts f files) (TakesPorts f files)
  pub limit : ComesFirst status 6 (OverText f.program files ⊎ OverPorts f files) (TakesPorts f files)

-- the statuses that `carry` can have
abbrev pub IsCarryStatus : ℕ → Type 0
IsCarryStatus status =
    (status ≡ 0) ⊎ (status ≡ 1) ⊎ (status ≡ 3) ⊎ (status ≡ 4) ⊎ (status ≡ 5) ⊎ (status ≡ 6) ⊎ (status ≡ 7)

-- The statuses of `carry`, each with its cause: the first in the order of the work. A cause asks of the desk only that
-- it tells the files that are read until it is found. It has no others, whatever the desk tells.
pub record CarryStatuses (f : CarryFiles) (old : DeskView) (files : Held) (status : ℕ) : Type 0 where
  pub program : Tells (program_read f) old files → FirstStatuses f files status
  pub entries : Tells (entries_read f) old files → ComesWhere status 4 (RefusesEntries f files)
  pub ports : Tells (ports_read f) old files → PortStatuses f files status
  pub refused : Tells (carry_inputs f) old files
      → ComesWhere status 5 (RefusesPorts f files ⊎ RefusesCapture f files)
  pub limit : Tells (carry_inputs f) old files
      → ComesWhere status 6 (OverText f.program files ⊎ OverPorts f files ⊎ OverCapture f files)
  pub accepted : Tells (carry_inputs f) old files → ComesWhere status 0 (Accepts f files)
  pub only : IsCarryStatus status

-- the statuses that a command which reads a program and writes no file can have
abbrev pub IsProgramStatus : ℕ → Type 0
IsProgramStatus status = (status ≡ 0) ⊎ (status ≡ 1) ⊎ (status ≡ 3) ⊎ (status ≡ 6) ⊎ (status ≡ 7)

-- The statuses of such a command, each with its cause, where the desk tells the program's file. It has no others,
-- whatever the desk tells.
pub record ProgramStatuses (program : List ℕ) (old : DeskView) (files : Held) (status : ℕ) : Type 0 where
  pub accepted : Tells (program ∷ []) old files → ComesWhere status 0 (TakesText program files)
  pub refused : Tells (program ∷ []) old files → ComesWhere status 3 (RefusesText program files)
  pub limit : Tells (program ∷ []) old files → ComesWhere status 6 (OverText program files)
  pub only : IsProgramStatus status

-- the table of a command's statuses
abbrev pub Statuses : Command → DeskView → Held → ℕ → Type 0
Statuses (carry f) old files status = CarryStatuses f old files status
Statuses (check program) old files status = ProgramStatuses program old files status
Statuses (order program) old files status = ProgramStatuses program old files status
Statuses (run14 f) old files status = Run14Statuses f old files status
Statuses (run16 f) old files status = Run16Statuses f old files status

-- all input files of a command are taken
abbrev pub AcceptsAll : Command → Held → Type 0
AcceptsAll (carry f) files = Accepts f files
AcceptsAll (check program) files = TakesText program files
AcceptsAll (order program) files = TakesText program files
AcceptsAll (run14 f) files = ran14.Accepts f files
AcceptsAll (run16 f) files = ran16.Accepts f files

-- The clauses `usage` and `fault`.

-- the files that words name as inputs and as outputs; none where they are no form
abbrev pub inputs_in : Option Command → List (List ℕ)
inputs_in None = []
inputs_in (Some c) = inputs_of c

abbrev pub outputs_in : Option Command → List (List ℕ)
outputs_in None = []
outputs_in (Some c) = outputs_of c

-- Words that are no form have status 2, or 1 where the sink failed, and the desk is as it was. No others have status 2.
abbrev pub Usages : Option Command → DeskView → DeskView → SinkView → SinkView → ℕ → Type 0
Usages None old new before after status =
    ((status ≡ 2) ⊎ ((status ≡ 1) × Rose before.writes after.writes)) × (new ≡ old)
Usages (Some c) old new before after status = status ≡ 2 → ⊥

-- The clause `files`.

-- The text was written and the capture refused: the text is whole, and the sent file and the report hold what the whole
-- records before the refused one give. They are empty where nothing of the capture is run.
pub record Translated (f : CarryFiles) (files : Held) (old new : DeskView) : Type 0 where
  pub source : OneTable14
  pub ports : List ℕ
  pub text : List ℕ
  pub program : Syntax16
  pub begins : Begins f files source ports
  pub written : Written source text program
  pub text_is : new.told f.text ≡ put (old.told f.text) text
  pub sent_is : new.told f.sent ≡ put (old.told f.sent) (capture_reports program f.passes ports (files f.capture)).sent
  pub report_is : new.told f.report ≡ put (old.told f.report) (capture_reports program f.passes ports (files f.capture)).report
  pub empty : GivesNothing (files f.capture)
      → (new.told f.sent ≡ put (old.told f.sent) []) × (new.told f.report ≡ put (old.told f.report) [])

-- No output file of `carry` is made or changed with status 3 or 4; nor with any status where the program, the entries or
-- the ports aren't taken. Each asks of the desk only that it tells the files that are read until then.
pub record CarryKept (f : CarryFiles) (files : Held) (old new : DeskView) (status : ℕ) : Type 0 where
  pub refused : (status ≡ 3) ⊎ (status ≡ 4) → AllKept (carry_outputs f) old new
  pub program : Tells (program_read f) old files → (stop : Stop) → StopsAtProgram f files stop
      → AllKept (carry_outputs f) old new
  pub entries : Tells (entries_read f) old files → (stop : Stop) → StopsAtEntries f files stop
      → AllKept (carry_outputs f) old new
  pub ports : Tells (ports_read f) old files → (stop : Stop) → StopsBefore f files stop
      → AllKept (carry_outputs f) old new

-- What the output files of `carry` hold. Where the capture isn't taken, the text is whole, and the others hold what the
-- whole records in front give. With every status each is as it was, or holds a front of its content; but for 1 and 7 it
-- is exactly as it is due.
pub record CarryLeft (f : CarryFiles) (files : Held) (old new : DeskView) (status : ℕ) : Type 0 where
  pub translated : RefusesCapture f files ⊎ OverCapture f files → (status ≡ 5) ⊎ (status ≡ 6)
      → Translated f files old new
  pub fronts : Fronts (carry_outputs f) (CarryDue f files) old new
  pub as_due : AsDue (CarryDue f files) old new status

-- the output files of a command, if it has any
abbrev pub Left : Command → Held → DeskView → DeskView → ℕ → Type 0
Left (carry f) files old new status = CarryLeft f files old new status
Left (check program) files old new status = AsDue (CheckDue program files) old new status
Left (order program) files old new status = AsDue (OrderDue program files) old new status
Left (run14 f) files old new status = Run14Left f files old new status
Left (run16 f) files old new status = Run16Left f files old new status

-- the output files of a command that are kept
abbrev pub Kept : Command → Held → DeskView → DeskView → ℕ → Type 0
Kept (carry f) files old new status = CarryKept f files old new status
Kept (check program) files old new status = Unit {0}
Kept (order program) files old new status = Unit {0}
Kept (run14 f) files old new status = Run14Kept f files old new status
Kept (run16 f) files old new status = Run16Kept f files old new status

-- No file but the outputs changes. These are kept where the work stops before it writes; and where the inputs are told,
-- they hold this.
pub record FilesLeft (found : Option Command) (old new : DeskView) (status : ℕ) : Type 0 where
  pub only : OnlyThese (outputs_in found) old new
  pub kept : OnForm found (λ c files. Kept c files old new status)
  pub outputs : OnTold found old (λ c files. Left c files old new status)

-- The clauses `line` and `outcome`.

-- what is due for what the input files of a command hold
abbrev pub DueOf : Command → Held → Due → Type 0
DueOf (carry f) files d = CarryDue f files d
DueOf (check program) files d = CheckDue program files d
DueOf (order program) files d = OrderDue program files d
DueOf (run14 f) files d = Run14Due f files d
DueOf (run16 f) files d = Run16Due f files d

-- how the work of a command ends by the files that it reads first, and what can stop it; where it reads a program alone, what can stop it
abbrev pub EndsInOrder : Command → DeskView → Result (List ℕ) Stop → Type 0
EndsInOrder (carry f) old end = InOrder f old end
EndsInOrder (check program) old end = IfErr end IsProgramStop
EndsInOrder (order program) old end = IfErr end IsProgramStop
EndsInOrder (run14 f) old end = due14.InOrder f old end
EndsInOrder (run16 f) old end = due16.InOrder f old end

-- How the work of any words ends: as it is due, or with a fault or want of memory. Where the desk tells only files that
-- are read first, it ends as these say.
abbrev pub IsEnd : Option Command → DeskView → Result (List ℕ) Stop → Type 0
IsEnd None old end = end ≡ Err Usage
IsEnd (Some c) old end =
    ((files : Held) → Tells (inputs_of c) old files → EndsAsDue (DueOf c files) end) × EndsInOrder c old end

-- the packets of a capture that was run to its end are such as come in
abbrev pub PacketsFit : CarryFiles → DeskView → Result (List ℕ) Stop → Type 0
PacketsFit f old end = OnOk end ((files : Held) (octets ports : List ℕ) → Tells (carry_inputs f) old files
    → files f.capture ≡ Some octets → ports_end files f.ports ≡ Ok ports
    → All IsArrival (arrivals_of ports (reading_of octets).records))

-- The work of a command that reads a program, prints of it and writes no file.
pub record WorksOnProgram (Prints : Syntax14 → List ℕ → Type 0) (program : List ℕ) (old new : DeskView)
    (end : Result (List ℕ) Stop) : Type 0 where
  pub works : Works (program ∷ []) [] (ProgramDue Prints program) old new end
  pub by_file : (files : Held) → Tells (program ∷ []) old files → EndsByFile Prints program files end
  pub once : OnOk end ((text : List ℕ) → old.told program ≡ Some (Some text) → ReadsOnce text)
  pub only : IfErr end IsProgramStop

-- The work of `carry`.
pub record CarryWorks (f : CarryFiles) (old new : DeskView) (end : Result (List ℕ) Stop) : Type 0 where
  pub works : Works (carry_inputs f) (carry_outputs f) (CarryDue f) old new end
  pub packets : PacketsFit f old end
  pub order : InOrder f old end
  pub kept : KeepsInOrder f old new end
  pub once : OnOk end ((text : List ℕ) → old.told f.program ≡ Some (Some text) → ReadsOnce text)
  pub bound : IsBound f.passes

-- the work of any words: that of a command, or words that are no form
abbrev pub WorksFor : Option Command → DeskView → DeskView → Result (List ℕ) Stop → Type 0
WorksFor None old new end = (end ≡ Err Usage) × (new ≡ old)
WorksFor (Some (carry f)) old new end = CarryWorks f old new end
WorksFor (Some (check program)) old new end = WorksOnProgram PrintsAccepted program old new end
WorksFor (Some (order program)) old new end = WorksOnProgram PrintsOrder program old new end
WorksFor (Some (run14 f)) old new end = Run14Works f old new end
WorksFor (Some (run16 f)) old new end = Run16Works f old new end
