-- The command `carry`: what is due for what its input files hold (this project's own).
use Rattle.std.specs.Prelude.{◌≡◌, ◌⊎◌, ℕ, true, List, [], ◌∷◌, codes, Option, Some, None, option_to_list, Result, Ok, Err, IfErr}
use Rattle.state_store.specs.State.{Contents}
use Rattle.p416_syntax.specs.declared.program.Syntax16.{Syntax16}
use Rattle.p416_reader.specs.Reading.{Reads16}
use Rattle.p416_syntax.specs.Breaks.{BreaksNone, program_rules}
use Rattle.p4x_fault.specs.declared.Fault.{Fault as Refusal}
use Rattle.p4x_fault.specs.declared.Rule.TheVariants.{E}
use Rattle.p4x_io.specs.Desk.{DeskView}
use Rattle.p414_syntax.specs.declared.syntax.Syntax14.{Syntax14}
use Rattle.p414_one_table.specs.declared.program.OneTable14.{OneTable14}
use Rattle.p414_one_table.specs.Form.{one_table_of}
use Rattle.program_commands.specs.Programs as programs
use Rattle.file_work.specs.declared.stop.Limited.TheVariants as limited
use Rattle.file_work.specs.declared.stop.Stop.{Stop}
use Rattle.file_work.specs.declared.stop.Stop.TheVariants.{Fault, Program, Judged, Unfit, Limit}
use Rattle.p4x_cmd.specs.Carries.{Carries}
use Rattle.p4x_cmd.specs.FirstCut.{is_first_cut}
use Rattle.file_work.specs.Phases.{Unless, StopsOrGoesOn}
use Rattle.file_work.specs.Works.{Held, Due, Tells, AllKept}
use Rattle.run_stream.specs.Captured.{EndLines, Reports, reports_over, lined, StopsRun}
use Rattle.run_stream.specs.Reports.{work_line}
use Rattle.command_inputs.specs.PortsFile.{ports_end}
use Rattle.p4x_cmd.specs.Runs.{this_run}
use Rattle.command_words.specs.Words.{CarryFiles, carry_outputs}

-- What the file of the program comes to: a program of the one-table form, which breaks no rule; or why there is none.
-- A program that breaks no rule and isn't of the form is refused too.
abbrev pub ProgramIs : Option (List ℕ) → Result OneTable14 Stop → Type 0
ProgramIs file (Ok p) = (s : Syntax14) × programs.ProgramIs file (Ok s) × (one_table_of s ≡ Some p)
ProgramIs file (Err Program) = (s : Syntax14) × programs.ProgramIs file (Ok s) × (one_table_of s ≡ None)
ProgramIs file (Err stop) = programs.ProgramIs file (Err stop)

-- it comes to one thing only
abbrev pub ComesOnce : Option (List ℕ) → Type 0
ComesOnce file = (a b : Result OneTable14 Stop) → ProgramIs file a → ProgramIs file b → a ≡ b

-- the refusal of entries that aren't taken: E1 at the first line
abbrev pub not_taken : Refusal
not_taken = record { rule = E 1; place = Some (record { line = 1; column = 1 }) }

-- what stops the command at the entries file: one with at least one octet isn't taken
abbrev pub entries_stop : Option (List ℕ) → Option Stop
entries_stop None = Some Fault
entries_stop (Some []) = None
entries_stop (Some (b ∷ octets)) = Some (Unfit not_taken)

-- the command has a program, and entries that are taken
abbrev pub HasProgram : CarryFiles → Held → OneTable14 → Type 0
HasProgram f files p = ProgramIs (files f.program) (Ok p) × (entries_stop (files f.entries) ≡ None)

-- the command stops before it writes anything: at the program, at the entries or at the ports
abbrev pub StopsBefore : CarryFiles → Held → Stop → Type 0
StopsBefore f files stop =
    ProgramIs (files f.program) (Err stop)
    ⊎ ((p : OneTable14) × ProgramIs (files f.program) (Ok p) × (entries_stop (files f.entries) ≡ Some stop))
    ⊎ ((p : OneTable14) × HasProgram f files p × (ports_end files f.ports ≡ Err stop))

-- the command has a program, entries that are taken, and these ports
abbrev pub Begins : CarryFiles → Held → OneTable14 → List ℕ → Type 0
Begins f files p ports = HasProgram f files p × (ports_end files f.ports ≡ Ok ports)

-- The files that the command reads up to the program, up to the entries and up to the ports, in the order of the work.
-- Behind them it reads the capture.
abbrev pub program_read : CarryFiles → List (List ℕ)
program_read f = f.program ∷ []

abbrev pub entries_read : CarryFiles → List (List ℕ)
entries_read f = f.program ∷ f.entries ∷ []

abbrev pub ports_read : CarryFiles → List (List ℕ)
ports_read f = f.program ∷ f.entries ∷ option_to_list f.ports

-- what they hold is taken
abbrev pub TakesProgram : CarryFiles → Held → Type 0
TakesProgram f files = (p : OneTable14) × ProgramIs (files f.program) (Ok p)

abbrev pub TakesEntries : CarryFiles → Held → Type 0
TakesEntries f files = (p : OneTable14) × HasProgram f files p

abbrev pub TakesPorts : CarryFiles → Held → Type 0
TakesPorts f files = (p : OneTable14) × (ports : List ℕ) × Begins f files p ports

-- the command stops at the program; at the program or at the entries
abbrev pub StopsAtProgram : CarryFiles → Held → Stop → Type 0
StopsAtProgram f files stop = ProgramIs (files f.program) (Err stop)

abbrev pub StopsAtEntries : CarryFiles → Held → Stop → Type 0
StopsAtEntries f files stop =
    StopsAtProgram f files stop
    ⊎ ((p : OneTable14) × ProgramIs (files f.program) (Ok p) × (entries_stop (files f.entries) ≡ Some stop))

-- what stops the command at these files and nowhere behind them
abbrev pub OfProgram : Stop → Type 0
OfProgram stop =
    (stop ≡ Program) ⊎ ((fault : Refusal) × (stop ≡ Judged fault)) ⊎ (stop ≡ Limit limited.Program)

abbrev pub OfEntries : Stop → Type 0
OfEntries stop = OfProgram stop ⊎ ((fault : Refusal) × (stop ≡ Unfit fault))

abbrev pub OfPorts : Stop → Type 0
OfPorts stop = OfEntries stop ⊎ (stop ≡ Limit limited.Ports)

-- what can stop the command at all: these; or what stops a run of the capture, among it a refusal of the ports
abbrev pub OfCarry : Stop → Type 0
OfCarry stop = OfPorts stop ⊎ StopsRun stop

-- How the work ends by the files that it reads first, whatever the desk tells of the others: it stops at them, or they
-- are taken and it goes on. The program's file comes to one thing only. Whatever the desk tells, nothing else stops it.
pub record InOrder {A : Type 0} (f : CarryFiles) (old : DeskView) (end : Result A Stop) : Type 0 where
  pub once : (files : Held) → Tells (program_read f) old files → Unless (ComesOnce (files f.program)) end
  pub program : (files : Held) → Tells (program_read f) old files
      → StopsOrGoesOn (StopsAtProgram f files) (TakesProgram f files) OfProgram end
  pub entries : (files : Held) → Tells (entries_read f) old files
      → StopsOrGoesOn (StopsAtEntries f files) (TakesEntries f files) OfEntries end
  pub ports : (files : Held) → Tells (ports_read f) old files
      → StopsOrGoesOn (StopsBefore f files) (TakesPorts f files) OfPorts end
  pub only : IfErr end OfCarry

-- No output is made or changed where the work stops before it writes: by how it ends, or by the files that it reads
-- first, whatever the desk tells of the others.
pub record KeepsInOrder (f : CarryFiles) (old new : DeskView) (end : Result (List ℕ) Stop) : Type 0 where
  pub own : (stop : Stop) → end ≡ Err stop → OfPorts stop → AllKept (carry_outputs f) old new
  pub program : (files : Held) → Tells (program_read f) old files → (stop : Stop) → StopsAtProgram f files stop
      → AllKept (carry_outputs f) old new
  pub entries : (files : Held) → Tells (entries_read f) old files → (stop : Stop) → StopsAtEntries f files stop
      → AllKept (carry_outputs f) old new
  pub ports : (files : Held) → Tells (ports_read f) old files → (stop : Stop) → StopsBefore f files stop
      → AllKept (carry_outputs f) old new

-- By the grammar of the whole of P4_16 the text reads as this program, and as no other; the program breaks none of the rules
-- T1 to T12, it is one on which the meaning is whole, and it carries the program of P4_14.
pub record Written (p : OneTable14) (text : List ℕ) (s : Syntax16) : Type 0 where
  pub reads : Reads16 text s
  pub only : (other : Syntax16) → Reads16 text other → other ≡ s
  pub typed : BreaksNone s program_rules
  pub whole : is_first_cut s ≡ true
  pub carries : Carries p s

-- the report ends with the work, since the program has no counters and no registers
abbrev pub carry_lines : EndLines Contents
carry_lines store work = work_line work

-- what the file of the capture comes to, under this bound on passes, with packets on these ports
abbrev pub capture_reports : Syntax16 → ℕ → List ℕ → Option (List ℕ) → Reports
capture_reports s passes ports file = reports_over carry_lines (this_run s passes) ports file

-- the word of the command's line
abbrev pub carried_word : List ℕ
carried_word = codes "carried"

-- nothing is written
abbrev pub untouched : CarryFiles → Stop → Due
untouched f stop = record { outs = (f.text, None) ∷ (f.sent, None) ∷ (f.report, None) ∷ []; end = Err stop }

-- the text is written, and with it what the capture comes to
abbrev pub delivered : CarryFiles → List ℕ → Reports → Due
delivered f text r = record {
  outs = (f.text, Some text) ∷ (f.sent, Some r.sent) ∷ (f.report, Some r.report) ∷ [];
  end = lined carried_word r.end;
}

-- What is due: the first cause in the order of the work, or a text that reads as one program, with the files of this
-- program's run.
abbrev pub CarryDue : CarryFiles → Held → Due → Type 0
CarryDue f files d =
    ((stop : Stop) × StopsBefore f files stop × (d ≡ untouched f stop))
    ⊎ ((p : OneTable14) × (ports : List ℕ) × (text : List ℕ) × (s : Syntax16) × Begins f files p ports
    × Written p text s × (d ≡ delivered f text (capture_reports s f.passes ports (files f.capture))))
