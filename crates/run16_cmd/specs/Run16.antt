-- The command `run16`: what is due for what its input files hold (this project's own).
use Rattle.std.specs.Prelude.{◌≡◌, ◌⊎◌, ℕ, List, [], ◌∷◌, ◌++◌, codes, Option, Some, None, option_to_list, Result, Ok, Err, IfErr}
use Rattle.p4x_fault.specs.declared.Fault.{Fault as Refusal}
use Rattle.p4x_io.specs.Desk.{DeskView}
use Rattle.match_core.specs.declared.entries.Entries.{Entries}
use Rattle.fabric.specs.declared.packets.Arrival.{Arrival}
use Rattle.command_words.specs.Words.{Run16Files, run16_outputs}
use Rattle.file_work.specs.declared.stop.Limited.TheVariants as limited
use Rattle.file_work.specs.declared.stop.Stop.{Stop}
use Rattle.file_work.specs.declared.stop.Stop.TheVariants.{Text, Unfit, Limit}
use Rattle.file_work.specs.Phases.{Unless, StopsOrGoesOn}
use Rattle.file_work.specs.Works.{Held, Due, Tells, AllKept}
use Rattle.command_inputs.specs.EntriesFile.{entries_in}
use Rattle.command_inputs.specs.PortsFile.{ports_end}
use Rattle.run_stream.specs.Captured.{EndLines, Reports, reports_over, lined, StopsRun}
use Rattle.run_stream.specs.Reports.{work_line}
use Rattle.run_stream.specs.Runs.{Ran}
use Rattle.cell_lines.specs.Lines.{cell_lines}
use Rattle.p416_syntax.specs.declared.program.Syntax16.{Syntax16}
use Rattle.program16_file.specs.Answers.{ComesOnce}
use Rattle.program16_file.specs.Programs.{ProgramIs}
use Rattle.v1_core.specs.Surroundings.{Setting}
use Rattle.v1_core.specs.Passes.{Between}
use Rattle.v1_core.specs.Runs.{Run16}
use Rattle.v1_core.specs.Signatures.{signature16}

-- what the entries file comes to for a program
abbrev pub filled : Run16Files → Held → Syntax16 → Result Entries Stop
filled f files s = entries_in (signature16 s) (files f.entries)

-- the command has a program, and entries that fit its signature
abbrev pub HasProgram : Run16Files → Held → Syntax16 → Entries → Type 0
HasProgram f files s e = ProgramIs (files f.text) (Ok s) × (filled f files s ≡ Ok e)

-- the command stops at the program; at the program or at the entries; or at these or at the ports, before it writes
abbrev pub StopsAtProgram : Run16Files → Held → Stop → Type 0
StopsAtProgram f files stop = ProgramIs (files f.text) (Err stop)

abbrev pub StopsAtEntries : Run16Files → Held → Stop → Type 0
StopsAtEntries f files stop =
    StopsAtProgram f files stop ⊎ ((s : Syntax16) × ProgramIs (files f.text) (Ok s) × (filled f files s ≡ Err stop))

abbrev pub StopsBefore : Run16Files → Held → Stop → Type 0
StopsBefore f files stop =
    StopsAtEntries f files stop
    ⊎ ((s : Syntax16) × (e : Entries) × HasProgram f files s e × (ports_end files f.ports ≡ Err stop))

-- the command has a program, entries for it, and these ports
abbrev pub Begins : Run16Files → Held → Syntax16 → Entries → List ℕ → Type 0
Begins f files s e ports = HasProgram f files s e × (ports_end files f.ports ≡ Ok ports)

-- The files that the command reads up to the program, up to the entries and up to the ports, in the order of the work.
-- Behind them it reads the capture.
abbrev pub program_read : Run16Files → List (List ℕ)
program_read f = f.text ∷ []

abbrev pub entries_read : Run16Files → List (List ℕ)
entries_read f = f.text ∷ f.entries ∷ []

abbrev pub ports_read : Run16Files → List (List ℕ)
ports_read f = f.text ∷ f.entries ∷ option_to_list f.ports

-- what they hold is taken
abbrev pub TakesProgram : Run16Files → Held → Type 0
TakesProgram f files = (s : Syntax16) × ProgramIs (files f.text) (Ok s)

abbrev pub TakesEntries : Run16Files → Held → Type 0
TakesEntries f files = (s : Syntax16) × (e : Entries) × HasProgram f files s e

abbrev pub TakesPorts : Run16Files → Held → Type 0
TakesPorts f files = (s : Syntax16) × (e : Entries) × (ports : List ℕ) × Begins f files s e ports

-- what stops the command at these files and nowhere behind them
abbrev pub OfProgram : Stop → Type 0
OfProgram stop =
    ((fault : Refusal) × (stop ≡ Text fault)) ⊎ (stop ≡ Limit limited.Text)

abbrev pub OfEntries : Stop → Type 0
OfEntries stop = OfProgram stop ⊎ ((fault : Refusal) × (stop ≡ Unfit fault)) ⊎ (stop ≡ Limit limited.Entries)

abbrev pub OfPorts : Stop → Type 0
OfPorts stop = OfEntries stop ⊎ (stop ≡ Limit limited.Ports)

-- what can stop the command at all: these; or what stops a run of the capture, among it a refusal of the ports
abbrev pub OfRun16 : Stop → Type 0
OfRun16 stop = OfPorts stop ⊎ StopsRun stop

-- How the work ends by the files that it reads first, whatever the desk tells of the others: it stops at them, or they
-- are taken and it goes on. The program's file comes to one thing only. Whatever the desk tells, nothing else stops it.
pub record InOrder {A : Type 0} (f : Run16Files) (old : DeskView) (end : Result A Stop) : Type 0 where
  pub once : (files : Held) → Tells (program_read f) old files → Unless (ComesOnce (files f.text)) end
  pub program : (files : Held) → Tells (program_read f) old files
      → StopsOrGoesOn (StopsAtProgram f files) (TakesProgram f files) OfProgram end
  pub entries : (files : Held) → Tells (entries_read f) old files
      → StopsOrGoesOn (StopsAtEntries f files) (TakesEntries f files) OfEntries end
  pub ports : (files : Held) → Tells (ports_read f) old files
      → StopsOrGoesOn (StopsBefore f files) (TakesPorts f files) OfPorts end
  pub only : IfErr end OfRun16

-- No output is made or changed where the work stops before it writes: by how it ends, or by the files that it reads
-- first, whatever the desk tells of the others.
pub record KeepsInOrder (f : Run16Files) (old new : DeskView) (end : Result (List ℕ) Stop) : Type 0 where
  pub own : (stop : Stop) → end ≡ Err stop → OfPorts stop → AllKept (run16_outputs f) old new
  pub program : (files : Held) → Tells (program_read f) old files → (stop : Stop) → StopsAtProgram f files stop
      → AllKept (run16_outputs f) old new
  pub entries : (files : Held) → Tells (entries_read f) old files → (stop : Stop) → StopsAtEntries f files stop
      → AllKept (run16_outputs f) old new
  pub ports : (files : Held) → Tells (ports_read f) old files → (stop : Stop) → StopsBefore f files stop
      → AllKept (run16_outputs f) old new

-- what the program runs with
abbrev pub setting_for : Syntax16 → Entries → Setting
setting_for s e = record { syntax = s; entries = e }

-- The run of a program over these arrivals, under this bound on passes. The count of work stands with the store.
abbrev pub this_run : Setting → ℕ → List Arrival → Ran Between
this_run c bound arrivals =
    let whole = Run16 c bound arrivals in
    record { sent = whole.sent; store = whole.state; cut = whole.cut; work = 0 }

-- the report ends with the lines of the program's counters and registers, and with that of its work
abbrev pub own_lines : Setting → EndLines Between
own_lines c left none = cell_lines (signature16 c.syntax) left.store ++ work_line left.work

-- what the file of the capture comes to, under this bound on passes, with packets on these ports
abbrev pub capture_reports : Setting → ℕ → List ℕ → Option (List ℕ) → Reports
capture_reports c passes ports file = reports_over (own_lines c) (this_run c passes) ports file

-- the word of the command's line
abbrev pub ran_word : List ℕ
ran_word = codes "ran"

-- nothing is written
abbrev pub untouched : Run16Files → Stop → Due
untouched f stop = record { outs = (f.sent, None) ∷ (f.report, None) ∷ []; end = Err stop }

-- what the capture comes to is written
abbrev pub delivered : Run16Files → Reports → Due
delivered f r = record { outs = (f.sent, Some r.sent) ∷ (f.report, Some r.report) ∷ []; end = lined ran_word r.end }

-- What is due: the first cause in the order of the work, or the files of the program's run.
abbrev pub Run16Due : Run16Files → Held → Due → Type 0
Run16Due f files d =
    ((stop : Stop) × StopsBefore f files stop × (d ≡ untouched f stop))
    ⊎ ((s : Syntax16) × (e : Entries) × (ports : List ℕ) × Begins f files s e ports
    × (d ≡ delivered f (capture_reports (setting_for s e) f.passes ports (files f.capture))))
