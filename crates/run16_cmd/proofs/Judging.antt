-- Which status comes of the files that `run16` reads first.
use Rattle.std.proofs.Common.{◌≡◌, ◌⊎◌, inl, inr, ℕ, List, Option, Result, Err, refl, subst, arith}
use Rattle.p4x_io.specs.Desk.{SinkView}
use Rattle.p4x_io.specs.Files.{Says}
use Rattle.p4x_fault.specs.declared.Fault.{Fault as Refusal}
use Rattle.match_core.specs.declared.entries.Entries.{Entries as Filling}
use Rattle.command_words.specs.Words.{Run16Files}
use Rattle.file_work.specs.declared.stop.Limited.{Limited}
use Rattle.file_work.specs.declared.stop.Limited.TheVariants.{Text as TheText, Entries, Ports, Capture, Program as TheProgram}
use Rattle.file_work.specs.declared.stop.Stop.{Stop}
use Rattle.file_work.specs.declared.stop.Stop.TheVariants.{Text, Unfit, Refused, Limit}
use Rattle.file_work.specs.Phases.{StopsOrGoesOn}
use Rattle.file_work.specs.Stops.{code_of, line_of, stop_code}
use Rattle.file_work.proofs.Ends.{is_text, is_unfit, is_refused, is_limit}
use Rattle.file_work.proofs.Order.{due_status, status_here, stops_or_on, stops_by_own}
use Rattle.command_inputs.proofs.Ends.{EntriesEnd, entries_ends, PortsEnd, ports_ends}
use Rattle.p416_syntax.specs.declared.program.Syntax16.{Syntax16}
use Rattle.v1_core.specs.Signatures.{signature16}
use Rattle.program16_file.specs.Answers.{ComesOnce}
use Rattle.program16_file.specs.Causes.{RefusesText, OverText}
use Rattle.program16_file.specs.Programs.{ProgramIs}
use Rattle.program16_file.proofs.Stops.{taken_goes_on, stops_alike}
use Rattle.run16_cmd.specs.Calls.{FirstStatuses, EntriesStatuses, PortStatuses, RefusesEntries, OverEntries, RefusesPorts, OverPorts}
use Rattle.run16_cmd.specs.Run16.{StopsBefore, StopsAtProgram, StopsAtEntries, TakesProgram, TakesEntries, TakesPorts, OfProgram, OfEntries, OfPorts, filled}
use Rattle.run16_cmd.proofs.Ranks.{not_here}
use Rattle.run16_cmd.proofs.Statuses.{filled_not, stops_once, begins_not}

module _ (f : Run16Files) (files : List ℕ → Option (List ℕ)) where
  -- the entries aren't taken where they stop the command
  pub entries_not : ComesOnce (files f.text) → TakesEntries f files → (stop : Stop) → StopsAtEntries f files stop → ⊥
  entries_not once taken stop (inl program) = taken_goes_on (files f.text) once taken.0 stop taken.2.0 program
  entries_not once taken stop (inr entries) = filled_not f files once taken.0 entries.0 taken.2.0 entries.1 taken.1 stop taken.2.1 entries.2

  -- what the entries come to for a program
  entries_end : (s : Syntax16) (r : Result Filling Stop) → filled f files s ≡ r → EntriesEnd r
  entries_end s r is = subst EntriesEnd is (entries_ends (signature16 s) (files f.entries))

  refuses_entries : (fault : Refusal) → StopsAtEntries f files (Unfit fault) → RefusesEntries f files
  refuses_entries fault (inl program) = absurd (not_here (files f.text) (Unfit fault) program (λ is. cc is) (λ is. omega arith))
  refuses_entries fault (inr entries) = (entries.0, entries.1, (fault, entries.2))

  text_of : StopsAtEntries f files (Limit TheText) → OverText f.text files
  text_of (inl program) = program
  text_of (inr entries) = absurd (entries_end entries.0 (Err (Limit TheText)) entries.2)

  over_entries : StopsAtEntries f files (Limit Entries) → OverEntries f files
  over_entries (inl program) = absurd (not_here (files f.text) (Limit Entries) program (λ is. cc is) (λ is. omega arith))
  over_entries (inr entries) = entries

  no_ports : StopsAtEntries f files (Limit Ports) → ⊥
  no_ports (inl program) = not_here (files f.text) (Limit Ports) program (λ is. cc is) (λ is. omega arith)
  no_ports (inr entries) = entries_end entries.0 (Err (Limit Ports)) entries.2

  no_capture : StopsAtEntries f files (Limit Capture) → ⊥
  no_capture (inl program) = not_here (files f.text) (Limit Capture) program (λ is. cc is) (λ is. omega arith)
  no_capture (inr entries) = entries_end entries.0 (Err (Limit Capture)) entries.2

  no_program : StopsAtEntries f files (Limit TheProgram) → ⊥
  no_program (inl program) = not_here (files f.text) (Limit TheProgram) program (λ is. cc is) (λ is. omega arith)
  no_program (inr entries) = entries_end entries.0 (Err (Limit TheProgram)) entries.2

  no_refusal : (fault : Refusal) → StopsAtEntries f files (Refused fault) → ⊥
  no_refusal fault (inl program) = not_here (files f.text) (Refused fault) program (λ is. cc is) (λ is. omega arith)
  no_refusal fault (inr entries) = entries_end entries.0 (Err (Refused fault)) entries.2

  refuses_ports : (fault : Refusal) → StopsBefore f files (Refused fault) → RefusesPorts f files
  refuses_ports fault (inl entries) = absurd (no_refusal fault entries)
  refuses_ports fault (inr ports) = (ports.0, ports.1, ports.2, (fault, ports.3))

  over_before : (file : Limited) → StopsBefore f files (Limit file) → OverText f.text files ⊎ OverEntries f files ⊎ OverPorts f files
  over_before TheText (inl entries) = inl (text_of entries)
  over_before Entries (inl entries) = inr (inl (over_entries entries))
  over_before Ports (inl entries) = absurd (no_ports entries)
  over_before Capture (inl entries) = absurd (no_capture entries)
  over_before TheProgram (inl entries) = absurd (no_program entries)
  over_before TheText (inr ports) = absurd (subst PortsEnd ports.3 (ports_ends files f.ports))
  over_before Entries (inr ports) = absurd (subst PortsEnd ports.3 (ports_ends files f.ports))
  over_before Ports (inr ports) = inr (inr ports)
  over_before Capture (inr ports) = absurd (subst PortsEnd ports.3 (ports_ends files f.ports))
  over_before TheProgram (inr ports) = absurd (subst PortsEnd ports.3 (ports_ends files f.ports))

  over_at_entries : (file : Limited) → StopsAtEntries f files (Limit file) → OverText f.text files ⊎ OverEntries f files
  over_at_entries TheText is = inl (text_of is)
  over_at_entries Entries is = inr (over_entries is)
  over_at_entries Ports is = absurd (no_ports is)
  over_at_entries Capture is = absurd (no_capture is)
  over_at_entries TheProgram is = absurd (no_program is)

  over_at_program : (file : Limited) → StopsAtProgram f files (Limit file) → OverText f.text files
  over_at_program TheText is = is
  over_at_program Entries is = absurd (not_here (files f.text) (Limit Entries) is (λ so. cc so) (λ so. omega arith))
  over_at_program Ports is = absurd (not_here (files f.text) (Limit Ports) is (λ so. cc so) (λ so. omega arith))
  over_at_program Capture is = absurd (not_here (files f.text) (Limit Capture) is (λ so. cc so) (λ so. omega arith))
  over_at_program TheProgram is = absurd (not_here (files f.text) (Limit TheProgram) is (λ so. cc so) (λ so. omega arith))

  module _ (once : ComesOnce (files f.text)) (status : ℕ) (before after : SinkView) (end : Result (List ℕ) Stop) (says : Says (line_of end) (code_of end) status before after) where
    due : (code : ℕ) → (code ≡ 1 → ⊥) → status ≡ code → code_of end ≡ code
    due code other is = due_status (line_of end) (code_of end) status code before after says other is

    module _ (so : StopsOrGoesOn (StopsAtProgram f files) (TakesProgram f files) OfProgram end) where
      -- what stops the command at the program gives its status
      program_status : (stop : Stop) → ProgramIs (files f.text) (Err stop) → (status ≡ stop_code stop) ⊎ (status ≡ 1) ⊎ (status ≡ 7)
      program_status stop is =
          status_here (StopsAtProgram f files) (TakesProgram f files) OfProgram end so status before after says stop
          (λ other stops. stops_alike (files f.text) once other stop stops is) (λ taken. taken_goes_on (files f.text) once taken.0 stop taken.1 is)

      at_program : (stop : Stop) → end ≡ Err stop → StopsOrGoesOn {A = List ℕ} (StopsAtProgram f files) (TakesProgram f files) OfProgram (Err stop)
      at_program stop is = subst (λ (e : Result (List ℕ) Stop). StopsOrGoesOn (StopsAtProgram f files) (TakesProgram f files) OfProgram e) is so

      refused_eight : status ≡ 8 → RefusesText f.text files
      refused_eight eight =
          let stopped = is_text end (due 8 (λ e. omega arith) eight) in
          (stopped.0, stops_by_own (StopsAtProgram f files) (TakesProgram f files) OfProgram (Text stopped.0) (λ e. cc e) (λ e. cc e) (inl (stopped.0, refl)) (at_program (Text stopped.0) stopped.1))

      text_six : status ≡ 6 → OverText f.text files ⊎ TakesProgram f files
      text_six six =
          let file = is_limit end (due 6 (λ e. omega arith) six) in
          elim (stops_or_on (StopsAtProgram f files) (TakesProgram f files) OfProgram (Limit file.0) (λ e. cc e) (λ e. cc e) (at_program (Limit file.0) file.1)) [
            | inl is ↦ inl (over_at_program file.0 is)
            | inr on ↦ inr on.0
          ]

      pub program_first : FirstStatuses f files status
      program_first = record {
        refused = (refused_eight, (λ is. program_status (Text is.0) is.1));
        limit = (text_six, program_status (Limit TheText));
      }

    module _ (so : StopsOrGoesOn (StopsAtEntries f files) (TakesEntries f files) OfEntries end) where
      -- what stops the command at the entries gives its status
      entries_status : (stop : Stop) → StopsAtEntries f files stop → (status ≡ stop_code stop) ⊎ (status ≡ 1) ⊎ (status ≡ 7)
      entries_status stop is =
          status_here (StopsAtEntries f files) (TakesEntries f files) OfEntries end so status before after says stop
          (λ other stops. stops_once f files once other stop (inl stops) (inl is)) (λ taken. entries_not once taken stop is)

      at_entries : (stop : Stop) → end ≡ Err stop → StopsOrGoesOn {A = List ℕ} (StopsAtEntries f files) (TakesEntries f files) OfEntries (Err stop)
      at_entries stop is = subst (λ (e : Result (List ℕ) Stop). StopsOrGoesOn (StopsAtEntries f files) (TakesEntries f files) OfEntries e) is so

      refused_four : status ≡ 4 → RefusesEntries f files
      refused_four four =
          let stopped = is_unfit end (due 4 (λ e. omega arith) four) in
          refuses_entries stopped.0 (stops_by_own (StopsAtEntries f files) (TakesEntries f files) OfEntries (Unfit stopped.0) (λ e. cc e) (λ e. cc e) (inr (inl (stopped.0, refl))) (at_entries (Unfit stopped.0) stopped.1))

      entries_six : status ≡ 6 → (OverText f.text files ⊎ OverEntries f files) ⊎ TakesEntries f files
      entries_six six =
          let file = is_limit end (due 6 (λ e. omega arith) six) in
          elim (stops_or_on (StopsAtEntries f files) (TakesEntries f files) OfEntries (Limit file.0) (λ e. cc e) (λ e. cc e) (at_entries (Limit file.0) file.1)) [
            | inl is ↦ inl (over_at_entries file.0 is)
            | inr on ↦ inr on.0
          ]

      over_entries_status : OverText f.text files ⊎ OverEntries f files → (status ≡ 6) ⊎ (status ≡ 1) ⊎ (status ≡ 7)
      over_entries_status (inl is) = entries_status (Limit TheText) (inl is)
      over_entries_status (inr is) = entries_status (Limit Entries) (inr is)

      pub entries_first : EntriesStatuses f files status
      entries_first = record {
        refused = (refused_four, (λ is. entries_status (Unfit is.2.0) (inr (is.0, is.1, is.2.1))));
        limit = (entries_six, over_entries_status);
      }

    module _ (so : StopsOrGoesOn (StopsBefore f files) (TakesPorts f files) OfPorts end) where
      -- what stops the command at the ports gives its status
      ports_status : (stop : Stop) → StopsBefore f files stop → (status ≡ stop_code stop) ⊎ (status ≡ 1) ⊎ (status ≡ 7)
      ports_status stop is =
          status_here (StopsBefore f files) (TakesPorts f files) OfPorts end so status before after says stop
          (λ other stops. stops_once f files once other stop stops is) (λ taken. begins_not f files once taken.0 taken.1 taken.2 stop taken.3 is)

      at_ports : (stop : Stop) → end ≡ Err stop → StopsOrGoesOn {A = List ℕ} (StopsBefore f files) (TakesPorts f files) OfPorts (Err stop)
      at_ports stop is = subst (λ (e : Result (List ℕ) Stop). StopsOrGoesOn (StopsBefore f files) (TakesPorts f files) OfPorts e) is so

      refused_five : status ≡ 5 → RefusesPorts f files ⊎ TakesPorts f files
      refused_five five =
          let stopped = is_refused end (due 5 (λ e. omega arith) five) in
          elim (stops_or_on (StopsBefore f files) (TakesPorts f files) OfPorts (Refused stopped.0) (λ e. cc e) (λ e. cc e) (at_ports (Refused stopped.0) stopped.1)) [
            | inl is ↦ inl (refuses_ports stopped.0 is)
            | inr on ↦ inr on.0
          ]

      ports_six : status ≡ 6 → (OverText f.text files ⊎ OverEntries f files ⊎ OverPorts f files) ⊎ TakesPorts f files
      ports_six six =
          let file = is_limit end (due 6 (λ e. omega arith) six) in
          elim (stops_or_on (StopsBefore f files) (TakesPorts f files) OfPorts (Limit file.0) (λ e. cc e) (λ e. cc e) (at_ports (Limit file.0) file.1)) [
            | inl is ↦ inl (over_before file.0 is)
            | inr on ↦ inr on.0
          ]

      over_ports_status : OverText f.text files ⊎ OverEntries f files ⊎ OverPorts f files → (status ≡ 6) ⊎ (status ≡ 1) ⊎ (status ≡ 7)
      over_ports_status (inl is) = ports_status (Limit TheText) (inl (inl is))
      over_ports_status (inr (inl is)) = ports_status (Limit Entries) (inl (inr is))
      over_ports_status (inr (inr is)) = ports_status (Limit Ports) (inr is)

      pub ports_first : PortStatuses f files status
      ports_first = record {
        refused = (refused_five, (λ is. ports_status (Refused is.3.0) (inr (is.0, is.1, is.2, is.3.1))));
        limit = (ports_six, over_ports_status);
      }
