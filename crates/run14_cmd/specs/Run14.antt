-- The command `run14`: what is due for what its input files hold (this project's own).
use Rattle.std.specs.Prelude.{◌≡◌, ◌⊎◌, ℕ, List, [], ◌∷◌, codes, Option, Some, None, option_to_list, Result, Ok, Err, IfErr}
use Rattle.state_store.specs.State.{Contents}
use Rattle.p4x_fault.specs.declared.Fault.{Fault as Refusal}
use Rattle.p4x_io.specs.Desk.{DeskView}
use Rattle.match_core.specs.declared.entries.Entries.{Entries}
use Rattle.fabric.specs.declared.packets.Arrival.{Arrival}
use Rattle.command_words.specs.Words.{Run14Files, run14_outputs}
use Rattle.file_work.specs.declared.stop.Limited.TheVariants as limited
use Rattle.file_work.specs.declared.stop.Stop.{Stop}
use Rattle.file_work.specs.declared.stop.Stop.TheVariants.{Program, Judged, Unfit, Limit}
use Rattle.file_work.specs.Phases.{Unless, StopsOrGoesOn}
use Rattle.file_work.specs.Works.{Held, Due, Tells, AllKept}
use Rattle.command_inputs.specs.EntriesFile.{entries_in}
use Rattle.command_inputs.specs.PortsFile.{ports_end}
use Rattle.run_stream.specs.Captured.{EndLines, Reports, reports_over, lined, StopsRun}
use Rattle.run_stream.specs.Runs.{Ran}
use Rattle.cell_lines.specs.Lines.{cell_lines}
use Rattle.p414_syntax.specs.declared.syntax.Syntax14.{Syntax14}
use Rattle.program_commands.specs.Answers.{ComesOnce}
use Rattle.program_commands.specs.Programs.{ProgramIs}
use Rattle.p414_sem.specs.Controls.{Setting}
use Rattle.p414_sem.specs.Expanded.{Expanded, IsExpanded}
use Rattle.p414_sem.specs.Runs.{Run14}
use Rattle.p414_sem.specs.Signatures.{signature14}

-- what the entries file comes to for a program
abbrev pub filled : Run14Files → Held → Syntax14 → Result Entries Stop
filled f files s = entries_in (signature14 s.decls) (files f.entries)

-- the command has a program, and entries that fit its signature
abbrev pub HasProgram : Run14Files → Held → Syntax14 → Entries → Type 0
HasProgram f files s e = ProgramIs (files f.program) (Ok s) × (filled f files s ≡ Ok e)

-- the command stops at the program; at the program or at the entries; or at these or at the ports, before it writes
abbrev pub StopsAtProgram : Run14Files → Held → Stop → Type 0
StopsAtProgram f files stop = ProgramIs (files f.program) (Err stop)

abbrev pub StopsAtEntries : Run14Files → Held → Stop → Type 0
StopsAtEntries f files stop =
    StopsAtProgram f files stop ⊎ ((s : Syntax14) × ProgramIs (files f.program) (Ok s) × (filled f files s ≡ Err stop))

abbrev pub StopsBefore : Run14Files → Held → Stop → Type 0
StopsBefore f files stop =
    StopsAtEntries f files stop
    ⊎ ((s : Syntax14) × (e : Entries) × HasProgram f files s e × (ports_end files f.ports ≡ Err stop))

-- the command has a program, entries for it, and these ports
abbrev pub Begins : Run14Files → Held → Syntax14 → Entries → List ℕ → Type 0
Begins f files s e ports = HasProgram f files s e × (ports_end files f.ports ≡ Ok ports)

-- The files that the command reads up to the program, up to the entries and up to the ports, in the order of the work.
-- Behind them it reads the capture.
abbrev pub program_read : Run14Files → List (List ℕ)
program_read f = f.program ∷ []

abbrev pub entries_read : Run14Files → List (List ℕ)
entries_read f = f.program ∷ f.entries ∷ []

abbrev pub ports_read : Run14Files → List (List ℕ)
ports_read f = f.program ∷ f.entries ∷ option_to_list f.ports

-- what they hold is taken
abbrev pub TakesProgram : Run14Files → Held → Type 0
TakesProgram f files = (s : Syntax14) × ProgramIs (files f.program) (Ok s)

abbrev pub TakesEntries : Run14Files → Held → Type 0
TakesEntries f files = (s : Syntax14) × (e : Entries) × HasProgram f files s e

abbrev pub TakesPorts : Run14Files → Held → Type 0
TakesPorts f files = (s : Syntax14) × (e : Entries) × (ports : List ℕ) × Begins f files s e ports

-- what stops the command at these files and nowhere behind them
abbrev pub OfProgram : Stop → Type 0
OfProgram stop =
    (stop ≡ Program) ⊎ ((fault : Refusal) × (stop ≡ Judged fault)) ⊎ (stop ≡ Limit limited.Program)

abbrev pub OfEntries : Stop → Type 0
OfEntries stop = OfProgram stop ⊎ ((fault : Refusal) × (stop ≡ Unfit fault)) ⊎ (stop ≡ Limit limited.Entries)

abbrev pub OfPorts : Stop → Type 0
OfPorts stop = OfEntries stop ⊎ (stop ≡ Limit limited.Ports)

-- what can stop the command at all: these; or what stops a run of the capture, among it a refusal of the ports
abbrev pub OfRun14 : Stop → Type 0
OfRun14 stop = OfPorts stop ⊎ StopsRun stop

-- How the work ends by the files that it reads first, whatever the desk tells of the others: it stops at them, or they
-- are taken and it goes on. The program's file comes to one thing only. Whatever the desk tells, nothing else stops it.
pub record InOrder {A : Type 0} (f : Run14Files) (old : DeskView) (end : Result A Stop) : Type 0 where
  pub once : (files : Held) → Tells (program_read f) old files → Unless (ComesOnce (files f.program)) end
  pub program : (files : Held) → Tells (program_read f) old files
      → StopsOrGoesOn (StopsAtProgram f files) (TakesProgram f files) OfProgram end
  pub entries : (files : Held) → Tells (entries_read f) old files
      → StopsOrGoesOn (StopsAtEntries f files) (TakesEntries f files) OfEntries end
  pub ports : (files : Held) → Tells (ports_read f) old files
      → StopsOrGoesOn (StopsBefore f files) (TakesPorts f files) OfPorts end
  pub only : IfErr end OfRun14

-- No output is made or changed where the work stops before it writes: by how it ends, or by the files that it reads
-- first, whatever the desk tells of the others.
pub record KeepsInOrder (f : Run14Files) (old new : DeskView) (end : Result (List ℕ) Stop) : Type 0 where
  pub own : (stop : Stop) → end ≡ Err stop → OfPorts stop → AllKept (run14_outputs f) old new
  pub program : (files : Held) → Tells (program_read f) old files → (stop : Stop) → StopsAtProgram f files stop
      → AllKept (run14_outputs f) old new
  pub entries : (files : Held) → Tells (entries_read f) old files → (stop : Stop) → StopsAtEntries f files stop
      → AllKept (run14_outputs f) old new
  pub ports : (files : Held) → Tells (ports_read f) old files → (stop : Stop) → StopsBefore f files stop
      → AllKept (run14_outputs f) old new

-- what the program runs with, where it comes to x when its calls are replaced
abbrev pub setting_for : Run14Files → Syntax14 → Entries → Expanded → Setting
setting_for f s e x = record { decls = s.decls; expanded = x; rule = f.rule; entries = e }

-- the run of a program over these arrivals, under this bound on passes; no work is counted
abbrev pub this_run : Setting → ℕ → List Arrival → Ran Contents
this_run c bound arrivals =
    let whole = Run14 c bound arrivals in
    record { sent = whole.sent; store = whole.state.store; cut = whole.cut; work = 0 }

-- the report ends with the lines of the program's counters and registers
abbrev pub own_lines : Setting → EndLines Contents
own_lines c store work = cell_lines (signature14 c.decls) store

-- what the file of the capture comes to, under this bound on passes, with packets on these ports
abbrev pub capture_reports : Setting → ℕ → List ℕ → Option (List ℕ) → Reports
capture_reports c passes ports file = reports_over (own_lines c) (this_run c passes) ports file

-- the word of the command's line
abbrev pub ran_word : List ℕ
ran_word = codes "ran"

-- nothing is written
abbrev pub untouched : Run14Files → Stop → Due
untouched f stop = record { outs = (f.sent, None) ∷ (f.report, None) ∷ []; end = Err stop }

-- what the capture comes to is written
abbrev pub delivered : Run14Files → Reports → Due
delivered f r = record { outs = (f.sent, Some r.sent) ∷ (f.report, Some r.report) ∷ []; end = lined ran_word r.end }

-- What is due: the first cause in the order of the work, or the files of the program's run. All that a program's
-- declarations come to is equal, so this is one run.
abbrev pub Run14Due : Run14Files → Held → Due → Type 0
Run14Due f files d =
    ((stop : Stop) × StopsBefore f files stop × (d ≡ untouched f stop))
    ⊎ ((s : Syntax14) × (e : Entries) × (ports : List ℕ) × (x : Expanded) × Begins f files s e ports
    × IsExpanded s.decls x × (d ≡ delivered f (capture_reports (setting_for f s e x) f.passes ports (files f.capture))))
