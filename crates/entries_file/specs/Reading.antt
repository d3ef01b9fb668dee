-- What an entries file says (this project's own): its lines are judged one by one, each by those before.
use Rattle.std.specs.Prelude.{◌≡◌, ℕ, ◌+◌, List, [], ◌∷◌, filter_map, unwrap_or, if◌then◌else◌, Option, Some, None, Result, Ok, Err}
use Rattle.std.specs.Str.Lines.{lines}
use Rattle.p4x_fault.specs.declared.Rule.TheVariants.{E}
use Rattle.p4x_fault.specs.declared.Fault.{Fault}
use Rattle.state_store.specs.Ports.{greatest_port, greatest_session}
use Rattle.match_core.specs.declared.signatures.Signature.{Signature}
use Rattle.match_core.specs.declared.entries.Entries.{Entries}
use Rattle.entries_file.specs.declared.calls.Call.{Call}
use Rattle.entries_file.specs.declared.fault.EntryFault.{EntryFault}
use Rattle.entries_file.specs.declared.fault.EntryFault.TheVariants.{Memory, Refused}
use Rattle.text_lines.specs.Words.{Word, words_of, is_comment}
use Rattle.text_lines.specs.Places.{at_line}
use Rattle.entries_file.specs.Numbers.{number_up_to}
use Rattle.entries_file.specs.Forms.{Form, AddEntry, SetDefault, AddSession, AddColours, form_of}
use Rattle.entries_file.specs.Filling.{nothing, table_at, fill_at, with_entry, with_default, with_session, with_colours}
use Rattle.entries_file.specs.Rules.{Tests, least_broken, call_of, meter_of, widths_of, entry_tests, default_tests, session_tests, colours_tests, arguments_of, entry_of}

-- what was read with the line, or the number of the least rule that it breaks
abbrev pub Judgement : Type 0
Judgement = Result Entries ℕ

-- a line that breaks no rule adds what it says
abbrev pub judged : Option ℕ → Entries → Judgement
judged None next = Ok next
judged (Some rule) next = Err rule

-- the least of these rules that is broken, and else what was read then
abbrev pub judged_by : Tests → Entries → Judgement
judged_by tests next = judged (least_broken tests) next

-- a line whose table and action are known is judged further
abbrev pub judge_call : Result Call ℕ → (Call → Judgement) → Judgement
judge_call (Ok call) next = next call
judge_call (Err rule) next = Err rule

-- `table_add`: one more entry of the table
abbrev pub judge_entry : Signature → Entries → List Word → List Word → Call → Judgement
judge_entry g read keys behind call =
    judged_by (entry_tests (table_at g call.table) (widths_of g call) (fill_at read call.table) keys behind)
    (with_entry read call.table (entry_of (table_at g call.table).keys (widths_of g call) call.action keys behind))

-- `table_set_default`: the table's default, in place of one before
abbrev pub judge_default : Signature → Entries → List Word → Call → Judgement
judge_default g read arguments call =
    judged_by (default_tests (widths_of g call) arguments)
    (with_default read call.table
    (record { action = call.action; arguments = arguments_of (widths_of g call) arguments }))

-- `mirroring_add`: one more session
abbrev pub judge_session : Entries → Word → Word → Judgement
judge_session read session port =
    judged_by (session_tests read.sessions session port)
    (with_session read (record {
      number = unwrap_or (number_up_to greatest_session session) 0;
      port = unwrap_or (number_up_to greatest_port port) 0;
    }))

-- `meter_colours`: more colours of the meter
abbrev pub judge_colours : Signature → Entries → Word → List Word → Judgement
judge_colours g read meter colours =
    judged_by (colours_tests (meter_of g meter) colours)
    (with_colours read (unwrap_or (meter_of g meter) 0) (filter_map (number_up_to 2) colours))

-- E1: the line is of none of the four forms. Each other rule is asked of the lines of its form.
abbrev pub judge_form : Signature → Entries → Option Form → Judgement
judge_form g read None = Err 1
judge_form g read (Some (AddEntry table action keys behind)) =
    judge_call (call_of g table action) (judge_entry g read keys behind)
judge_form g read (Some (SetDefault table action arguments)) =
    judge_call (call_of g table action) (judge_default g read arguments)
judge_form g read (Some (AddSession session port)) = judge_session read session port
judge_form g read (Some (AddColours meter colours)) = judge_colours g read meter colours

-- a line without words says nothing, and neither does a comment
abbrev pub judge_words : Signature → Entries → List Word → Judgement
judge_words g read [] = Ok read
judge_words g read (first ∷ words) = if is_comment first then Ok read else judge_form g read (form_of first words)

-- a line by its words
unfoldable pub judge_line : Signature → Entries → List ℕ → Judgement
judge_line g read line = judge_words g read (words_of line)

-- a broken rule by its number, and the line that breaks it
abbrev pub fault_at : ℕ → ℕ → Fault
fault_at line rule = at_line (E rule) line

-- the first broken line is told, and no line behind it is judged
abbrev pub read_on : ℕ → Judgement → (Entries → Result Entries Fault) → Result Entries Fault
read_on line (Ok next) rest = rest next
read_on line (Err rule) rest = Err (fault_at line rule)

-- the lines from the one with this number on, with what was read before them
abbrev pub read_lines : Signature → Entries → ℕ → List (List ℕ) → Result Entries Fault
read_lines g read line [] = Ok read
read_lines g read line (one ∷ more) = read_on line (judge_line g read one) (λ next. read_lines g next (line + 1) more)

-- What the text says: the entries of its lines, or the least rule that the first broken line breaks. A line
-- ends before LF or CR LF, and the last one ends with the text.
abbrev pub entries_of : List ℕ → Signature → Result Entries Fault
entries_of text g = read_lines g (nothing g) 1 (lines text)

-- the answer is what the text says, unless memory ran out
abbrev pub EntriesText : List ℕ → Signature → Result Entries EntryFault → Type 0
EntriesText text g (Ok entries) = entries_of text g ≡ Ok entries
EntriesText text g (Err (Refused fault)) = entries_of text g ≡ Err fault
EntriesText text g (Err Memory) = Unit {0}
