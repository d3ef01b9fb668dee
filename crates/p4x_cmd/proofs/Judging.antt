-- Which status comes of the files that `carry` reads first.
use Rattle.std.proofs.Common.{◌≡◌, ◌⊎◌, inl, inr, ℕ, List, Option, Some, Result, Err, refl, ◌∙◌, ap, subst, arith}
use Rattle.p4x_io.specs.Desk.{SinkView}
use Rattle.p4x_io.specs.Files.{Says}
use Rattle.p4x_fault.specs.declared.Fault.{Fault as Refusal}
use Rattle.command_words.specs.Words.{CarryFiles}
use Rattle.file_work.specs.declared.stop.Limited.{Limited}
use Rattle.file_work.specs.declared.stop.Limited.TheVariants.{Program as TheProgram, Entries, Ports, Capture, Text as TheText}
use Rattle.file_work.specs.declared.stop.Stop.{Stop}
use Rattle.file_work.specs.declared.stop.Stop.TheVariants.{Fault, Program, Judged, Unfit, Refused, Limit, Memory}
use Rattle.file_work.specs.Clauses.{ComesWhere}
use Rattle.file_work.specs.Phases.{StopsOrGoesOn}
use Rattle.file_work.specs.Stops.{code_of, line_of, stop_code}
use Rattle.file_work.proofs.Ends.{is_program, is_unfit, is_refused, is_limit}
use Rattle.file_work.proofs.Order.{due_status, status_here, stops_or_on, stops_by_own}
use Rattle.p4x_cmd.specs.Calls.{FirstStatuses, PortStatuses, RefusesProgram, RefusesEntries, RefusesPorts, OverPorts}
use Rattle.program_commands.specs.Commands.{OverText}
use Rattle.p4x_cmd.specs.Carry.{ProgramIs, ComesOnce, StopsBefore, StopsAtProgram, StopsAtEntries, TakesProgram, TakesEntries, TakesPorts, OfProgram, OfEntries, OfPorts, not_taken}
use Rattle.p4x_cmd.proofs.Programs.{not_here, taken_goes_on, stops_alike}
use Rattle.p4x_cmd.proofs.Statuses.{stops_once, begins_not, entries_not_both, EntriesEnd, entries_ends}
use Rattle.command_inputs.proofs.Ends.{PortsEnd, ports_ends}

module _ (f : CarryFiles) (files : List ℕ → Option (List ℕ)) where
  entries_before : (stop : Stop) → StopsAtEntries f files stop → StopsBefore f files stop
  entries_before stop (inl program) = inl program
  entries_before stop (inr entries) = inr (inl entries)

  -- the entries aren't taken where they stop the command
  pub entries_not : ComesOnce (files f.program) → TakesEntries f files → (stop : Stop) → StopsAtEntries f files stop → ⊥
  entries_not once taken stop (inl program) = taken_goes_on (files f.program) once taken.0 stop taken.1.0 program
  entries_not once taken stop (inr entries) = entries_not_both f files stop entries.2 taken.1.1

  refuses_entries : (fault : Refusal) → StopsAtEntries f files (Unfit fault) → RefusesEntries f files
  refuses_entries fault (inl program) = absurd (not_here (files f.program) (Unfit fault) program (λ is. cc is) (λ is. omega arith))
  refuses_entries fault (inr entries) =
      let same : fault ≡ not_taken = subst EntriesEnd entries.2 (entries_ends (files f.entries)) in
      (entries.0, entries.1, entries.2 ∙ ap (λ (x : Refusal). Some (Unfit x)) same)

  refuses_ports : (fault : Refusal) → StopsBefore f files (Refused fault) → RefusesPorts f files
  refuses_ports fault (inl program) = absurd (not_here (files f.program) (Refused fault) program (λ is. cc is) (λ is. omega arith))
  refuses_ports fault (inr (inl entries)) = absurd (subst EntriesEnd entries.2 (entries_ends (files f.entries)))
  refuses_ports fault (inr (inr ports)) = (ports.0, ports.1, (fault, ports.2))

  over_ports : StopsBefore f files (Limit Ports) → OverPorts f files
  over_ports (inl program) = absurd (not_here (files f.program) (Limit Ports) program (λ is. cc is) (λ is. omega arith))
  over_ports (inr (inl entries)) = absurd (subst EntriesEnd entries.2 (entries_ends (files f.entries)))
  over_ports (inr (inr ports)) = ports

  over_text : StopsBefore f files (Limit TheProgram) → OverText f.program files
  over_text (inl program) = program
  over_text (inr (inl entries)) = absurd (subst EntriesEnd entries.2 (entries_ends (files f.entries)))
  over_text (inr (inr ports)) = absurd (subst PortsEnd ports.2 (ports_ends files f.ports))

  over_entries : StopsBefore f files (Limit Entries) → ⊥
  over_entries (inl program) = not_here (files f.program) (Limit Entries) program (λ is. cc is) (λ is. omega arith)
  over_entries (inr (inl entries)) = subst EntriesEnd entries.2 (entries_ends (files f.entries))
  over_entries (inr (inr ports)) = subst PortsEnd ports.2 (ports_ends files f.ports)

  over_not : StopsBefore f files (Limit Capture) → ⊥
  over_not (inl program) = not_here (files f.program) (Limit Capture) program (λ is. cc is) (λ is. omega arith)
  over_not (inr (inl entries)) = subst EntriesEnd entries.2 (entries_ends (files f.entries))
  over_not (inr (inr ports)) = subst PortsEnd ports.2 (ports_ends files f.ports)

  over_other : StopsBefore f files (Limit TheText) → ⊥
  over_other (inl program) = not_here (files f.program) (Limit TheText) program (λ is. cc is) (λ is. omega arith)
  over_other (inr (inl entries)) = subst EntriesEnd entries.2 (entries_ends (files f.entries))
  over_other (inr (inr ports)) = subst PortsEnd ports.2 (ports_ends files f.ports)

  -- a limit that is passed is that of the program or of the ports, or these are taken
  over_or_on : (file : Limited) → StopsOrGoesOn {A = List ℕ} (StopsBefore f files) (TakesPorts f files) OfPorts (Err (Limit file)) → (OverText f.program files ⊎ OverPorts f files) ⊎ TakesPorts f files
  over_or_on TheProgram so =
      inl (inl (over_text (stops_by_own (StopsBefore f files) (TakesPorts f files) OfPorts (Limit TheProgram) (λ is. cc is) (λ is. cc is) (inl (inl (inr (inr refl)))) so)))
  over_or_on Entries so = elim (stops_or_on (StopsBefore f files) (TakesPorts f files) OfPorts (Limit Entries) (λ is. cc is) (λ is. cc is) so) [
    | inl is ↦ absurd (over_entries is)
    | inr on ↦ inr on.0
  ]
  over_or_on Ports so = inl (inr (over_ports (stops_by_own (StopsBefore f files) (TakesPorts f files) OfPorts (Limit Ports) (λ is. cc is) (λ is. cc is) (inr refl) so)))
  over_or_on Capture so = elim (stops_or_on (StopsBefore f files) (TakesPorts f files) OfPorts (Limit Capture) (λ is. cc is) (λ is. cc is) so) [
    | inl is ↦ absurd (over_not is)
    | inr on ↦ inr on.0
  ]
  over_or_on TheText so = elim (stops_or_on (StopsBefore f files) (TakesPorts f files) OfPorts (Limit TheText) (λ is. cc is) (λ is. cc is) so) [
    | inl is ↦ absurd (over_other is)
    | inr on ↦ inr on.0
  ]

  text_or_on : (file : Limited) → StopsOrGoesOn {A = List ℕ} (StopsAtProgram f files) (TakesProgram f files) OfProgram (Err (Limit file)) → OverText f.program files ⊎ TakesProgram f files
  text_or_on TheProgram so = inl (stops_by_own (StopsAtProgram f files) (TakesProgram f files) OfProgram (Limit TheProgram) (λ is. cc is) (λ is. cc is) (inr (inr refl)) so)
  text_or_on Entries so = elim (stops_or_on (StopsAtProgram f files) (TakesProgram f files) OfProgram (Limit Entries) (λ is. cc is) (λ is. cc is) so) [
    | inl is ↦ absurd (not_here (files f.program) (Limit Entries) is (λ is. cc is) (λ is. omega arith))
    | inr on ↦ inr on.0
  ]
  text_or_on Ports so = elim (stops_or_on (StopsAtProgram f files) (TakesProgram f files) OfProgram (Limit Ports) (λ is. cc is) (λ is. cc is) so) [
    | inl is ↦ absurd (not_here (files f.program) (Limit Ports) is (λ is. cc is) (λ is. omega arith))
    | inr on ↦ inr on.0
  ]
  text_or_on Capture so = elim (stops_or_on (StopsAtProgram f files) (TakesProgram f files) OfProgram (Limit Capture) (λ is. cc is) (λ is. cc is) so) [
    | inl is ↦ absurd (not_here (files f.program) (Limit Capture) is (λ is. cc is) (λ is. omega arith))
    | inr on ↦ inr on.0
  ]
  text_or_on TheText so = elim (stops_or_on (StopsAtProgram f files) (TakesProgram f files) OfProgram (Limit TheText) (λ is. cc is) (λ is. cc is) so) [
    | inl is ↦ absurd (not_here (files f.program) (Limit TheText) is (λ is. cc is) (λ is. omega arith))
    | inr on ↦ inr on.0
  ]

  refused_or_on : (fault : Refusal) → StopsOrGoesOn {A = List ℕ} (StopsBefore f files) (TakesPorts f files) OfPorts (Err (Refused fault)) → RefusesPorts f files ⊎ TakesPorts f files
  refused_or_on fault so = elim (stops_or_on (StopsBefore f files) (TakesPorts f files) OfPorts (Refused fault) (λ is. cc is) (λ is. cc is) so) [
    | inl is ↦ inl (refuses_ports fault is)
    | inr on ↦ inr on.0
  ]

  module _ (once : ComesOnce (files f.program)) (status : ℕ) (before after : SinkView) (end : Result (List ℕ) Stop) (says : Says (line_of end) (code_of end) status before after) where
    due : (code : ℕ) → (code ≡ 1 → ⊥) → status ≡ code → code_of end ≡ code
    due code other is = due_status (line_of end) (code_of end) status code before after says other is

    module _ (so : StopsOrGoesOn (StopsAtProgram f files) (TakesProgram f files) OfProgram end) where
      -- what stops the command at the program gives its status
      program_status : (stop : Stop) → ProgramIs (files f.program) (Err stop) → (status ≡ stop_code stop) ⊎ (status ≡ 1) ⊎ (status ≡ 7)
      program_status stop is =
          status_here (StopsAtProgram f files) (TakesProgram f files) OfProgram end so status before after says stop
          (λ other stops. stops_alike (files f.program) once other stop stops is) (λ taken. taken_goes_on (files f.program) once taken.0 stop taken.1 is)

      so_at : (stop : Stop) → end ≡ Err stop → StopsOrGoesOn {A = List ℕ} (StopsAtProgram f files) (TakesProgram f files) OfProgram (Err stop)
      so_at stop is = subst (λ (e : Result (List ℕ) Stop). StopsOrGoesOn (StopsAtProgram f files) (TakesProgram f files) OfProgram e) is so

      stops_at : (stop : Stop) → (stop ≡ Fault → ⊥) → (stop ≡ Memory → ⊥) → OfProgram stop → end ≡ Err stop → ProgramIs (files f.program) (Err stop)
      stops_at stop no_fault no_memory own is = stops_by_own (StopsAtProgram f files) (TakesProgram f files) OfProgram stop no_fault no_memory own (so_at stop is)

      refused_three : status ≡ 3 → RefusesProgram f files
      refused_three three = elim (is_program end (due 3 (λ e. omega arith) three)) [
        | inl is ↦ inr (stops_at Program (λ e. cc e) (λ e. cc e) (inl refl) is)
        | inr (fault, is) ↦ inl (fault, stops_at (Judged fault) (λ e. cc e) (λ e. cc e) (inr (inl (fault, refl))) is)
      ]

      text_six : status ≡ 6 → OverText f.program files ⊎ TakesProgram f files
      text_six six =
          let file = is_limit end (due 6 (λ e. omega arith) six) in
          text_or_on file.0 (so_at (Limit file.0) file.1)

      pub program_first : FirstStatuses f files status
      program_first = record {
        refused = (refused_three, (λ is. elim is [ inl (fault, judged) ↦ program_status (Judged fault) judged | inr none ↦ program_status Program none ]));
        limit = (text_six, program_status (Limit TheProgram));
      }

    pub entries_first : StopsOrGoesOn (StopsAtEntries f files) (TakesEntries f files) OfEntries end → ComesWhere status 4 (RefusesEntries f files)
    entries_first so = (forth, back)
      where
        forth : status ≡ 4 → RefusesEntries f files
        forth four =
            let stopped = is_unfit end (due 4 (λ e. omega arith) four) in
            refuses_entries stopped.0 (stops_by_own (StopsAtEntries f files) (TakesEntries f files) OfEntries (Unfit stopped.0) (λ is. cc is) (λ is. cc is) (inr (stopped.0, refl))
            (subst (λ (e : Result (List ℕ) Stop). StopsOrGoesOn (StopsAtEntries f files) (TakesEntries f files) OfEntries e) stopped.1 so))

        back : RefusesEntries f files → (status ≡ 4) ⊎ (status ≡ 1) ⊎ (status ≡ 7)
        back refuses =
            status_here (StopsAtEntries f files) (TakesEntries f files) OfEntries end so status before after says (Unfit not_taken)
            (λ other is. stops_once f files once other (Unfit not_taken) (entries_before other is) (inr (inl refuses))) (λ taken. entries_not once taken (Unfit not_taken) (inr refuses))

    module _ (so : StopsOrGoesOn (StopsBefore f files) (TakesPorts f files) OfPorts end) where
      -- what stops the command at the ports gives its status
      ports_status : (stop : Stop) → StopsBefore f files stop → (status ≡ stop_code stop) ⊎ (status ≡ 1) ⊎ (status ≡ 7)
      ports_status stop stops =
          status_here (StopsBefore f files) (TakesPorts f files) OfPorts end so status before after says stop
          (λ other is. stops_once f files once other stop is stops) (λ taken. begins_not f files once taken.0 taken.1 stop taken.2 stops)

      refused_five : status ≡ 5 → RefusesPorts f files ⊎ TakesPorts f files
      refused_five five =
          let fault = is_refused end (due 5 (λ e. omega arith) five) in
          refused_or_on fault.0 (subst (λ (e : Result (List ℕ) Stop). StopsOrGoesOn (StopsBefore f files) (TakesPorts f files) OfPorts e) fault.1 so)

      over_six : status ≡ 6 → (OverText f.program files ⊎ OverPorts f files) ⊎ TakesPorts f files
      over_six six =
          let file = is_limit end (due 6 (λ e. omega arith) six) in
          over_or_on file.0 (subst (λ (e : Result (List ℕ) Stop). StopsOrGoesOn (StopsBefore f files) (TakesPorts f files) OfPorts e) file.1 so)

      pub ports_first : PortStatuses f files status
      ports_first = record {
        refused = (refused_five, (λ is. ports_status (Refused is.2.0) (inr (inr (is.0, is.1, is.2.1)))));
        limit = (over_six, (λ is. elim is [ inl text ↦ ports_status (Limit TheProgram) (inl text) | inr ports ↦ ports_status (Limit Ports) (inr (inr ports)) ]));
      }
