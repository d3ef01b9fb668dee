-- What an outcome says of each status.
use Rattle.std.proofs.Common.{◌≡◌, ◌⊎◌, inl, inr, ℕ, All, OnOk, List, [], Option, Some, None, Result, Err, refl, sym, ◌∙◌, ap, subst, arith}
use Rattle.p416_syntax.specs.declared.program.Syntax16.{Syntax16}
use Rattle.p4x_io.specs.Desk.{DeskView, SinkView, NoneIs, Rose, put, said}
use Rattle.fabric.specs.Numbers.{IsArrival, IsBound}
use Rattle.fabric.specs.declared.packets.Arrival.{Arrival}
use Rattle.match_core.specs.declared.signatures.Signature.{Signature}
use Rattle.match_core.specs.Signatures.{IsSignature}
use Rattle.command_words.specs.Words.{CarryFiles, Command, carry, check, order, run14, run16, carry_inputs, carry_outputs, inputs_of, outputs_of}
use Rattle.file_work.specs.declared.stop.Stop.{Stop}
use Rattle.file_work.specs.declared.stop.Stop.TheVariants.{Fault, Program, Judged, Unfit}
use Rattle.file_work.specs.Clauses.{Ended, OwnRose, AsDue}
use Rattle.file_work.specs.Stops.{code_of, line_of}
use Rattle.file_work.specs.Works.{Due, Tells, AllExact, AllKept}
use Rattle.file_work.proofs.Ends.{is_fault, is_usage, is_program, is_unfit, not_done}
use Rattle.file_work.proofs.Files.{put_told}
use Rattle.file_work.proofs.Laws.{IsDone, left_fronts, left_ends, left_as_due, left_done}
use Rattle.file_work.proofs.Loose.{comes_loose, first_loose, loose_or, loose_says, of_ok, not_loose}
use Rattle.file_work.proofs.Order.{due_status}
use Rattle.p414_one_table.specs.declared.program.OneTable14.{OneTable14}
use Rattle.p4x_cmd.specs.Calls.{OnTold, OnForm, AreTold, Carried, Done, IsCarryStatus, CarryStatuses, Statuses, AcceptsAll, Usages, CarryKept, Kept, CarryLeft, Left, FilesLeft, Translated, IsEnd, PacketsFit, CarryWorks, WorksFor, inputs_in, outputs_in, RefusesCapture, OverCapture}
use Rattle.p4x_cmd.specs.Carries.{SameRuns}
use Rattle.p4x_cmd.specs.Carry.{CarryDue, ComesOnce, carry_lines, carried_word, Begins, KeepsInOrder, StopsBefore, Written, capture_reports, delivered, program_read}
use Rattle.p4x_cmd.specs.Entries.{no_entries}
use Rattle.p4x_cmd.specs.Meaning14.{signature14}
use Rattle.p4x_cmd.specs.Meaning16.{Run16, signature16}
use Rattle.p4x_cmd.specs.Runs.{this_run, this_run14}
use Rattle.run_stream.proofs.Whole.{Whole, whole_capture, empty_reports}
use Rattle.p4x_cmd.proofs.Filling.{no_entries_fit, signature_is}
use Rattle.run14_cmd.proofs.Causes.{run14_statuses, run14_kept, run14_left, run14_ran, run14_ends}
use Rattle.run16_cmd.proofs.Causes.{run16_statuses, run16_kept, run16_left, run16_ran, run16_ends}
use Rattle.p4x_cmd.proofs.Only.{status_of}
use Rattle.p4x_cmd.proofs.Judging.{program_first, entries_first, ports_first}
use Rattle.program_commands.proofs.Stops.{one_program}
use Rattle.p4x_cmd.proofs.ProgramCauses.{no_usage, program_ends, program_statuses, program_done, program_left}
use Rattle.program_commands.specs.Lines.{PrintsAccepted, PrintsOrder}
use Rattle.program_commands.specs.Programs.{ReadsOnce}
use Rattle.p4x_cmd.proofs.Statuses.{AllStatuses, KnownSo, due_ends, statuses_are, statuses_loose, begins_not}

begun_by : (f : CarryFiles) (files : List ℕ → Option (List ℕ)) → RefusesCapture f files ⊎ OverCapture f files → (p : OneTable14) × (ports : List ℕ) × Begins f files p ports
begun_by f files (inl is) = (is.0, is.1, is.2)
begun_by f files (inr is) = (is.0, is.1, is.2)

-- the run of the written program over packets that come in is the run of the program of P4_14
same_run : (p : OneTable14) (text : List ℕ) (s : Syntax16) → Written p text s → (bound : ℕ) → IsBound bound → (arrivals : List Arrival) → All IsArrival arrivals → SameRuns (this_run14 p bound arrivals) (this_run s bound arrivals)
same_run p text s written bound bounded arrivals fit =
    subst (λ (g : Signature). SameRuns (this_run14 p bound arrivals) (Run16 s (no_entries g) bound arrivals)) written.carries.signatures
    (written.carries.runs (no_entries (signature14 p)) bound arrivals (no_entries_fit (signature14 p)) bounded fit)

-- nothing comes of no packets
no_run : (s : Syntax16) (bound : ℕ) → (this_run s bound []).sent ≡ []
unfolding Run16
no_run s bound = refl

module _ (f : CarryFiles) (files : List ℕ → Option (List ℕ)) (old new : DeskView) where
  -- a run that was done, from what was due
  carry_done : (told : Tells (carry_inputs f) old files) (made : AreTold (carry_outputs f) old) (before after : SinkView) (end : Result (List ℕ) Stop) → PacketsFit f old end
      → OnOk end ((text : List ℕ) → old.told f.program ≡ Some (Some text) → ReadsOnce text) → IsBound f.passes → IsDone (CarryDue f files) old new before after end → Carried f files new before after
  carry_done told made before after end fit once bound d = by_due d.due_is
    where
      zero : 0 ≡ code_of d.what.end
      zero = d.zero ∙ ap code_of d.end_is

      by_due : CarryDue f files d.what → Carried f files new before after
      by_due (inl early) = absurd (not_done early.0 (zero ∙ ap (λ (x : Due). code_of x.end) early.2))
      by_due (inr went) =
          let outs : AllExact (delivered f went.2 (capture_reports went.3 f.passes went.1 (files f.capture))).outs old new = subst (λ (x : Due). AllExact x.outs old new) went.6 d.outs in
          let run : Whole carried_word carry_lines (this_run went.3 f.passes) went.1 (files f.capture) (capture_reports went.3 f.passes went.1 (files f.capture)) =
          whole_capture carried_word carry_lines (this_run went.3 f.passes) went.1 (files f.capture) (zero ∙ ap (λ (x : Due). code_of x.end) went.6) in
          let packets : All IsArrival run.arrivals =
          subst (λ (l : List Arrival). All IsArrival l) (sym run.whole.of_records) (of_ok end _ d.zero fit files run.octets went.1 told run.capture went.4.1) in
          let program = went.4.0.0 in
          record {
            syntax = program.0;
            source = went.0;
            ports = went.1;
            text = went.2;
            program = went.3;
            begins = went.4;
            taken = program.1;
            only = one_program (files f.program) program.0 program.1 (λ text here. of_ok end _ d.zero once text (told.0 ∙ ap (λ o. Some o) here));
            form = program.2;
            written = went.5;
            octets = run.octets;
            link = run.link;
            nano = run.nano;
            arrivals = run.arrivals;
            capture = run.capture;
            fits = run.fits;
            whole = run.whole;
            packets = packets;
            formed = subst IsSignature went.5.carries.signatures (signature_is went.0);
            given = no_entries_fit (signature16 went.3);
            ran = this_run went.3 f.passes run.arrivals;
            bound = bound;
            runs = refl;
            same = same_run went.0 went.2 went.3 went.5 f.passes bound run.arrivals packets;
            text_is = put_told (old.told f.text) (new.told f.text) went.2 made.0 outs.0;
            sent_is = put_told (old.told f.sent) (new.told f.sent) _ made.1.0 (outs.1.0 ∙ ap (put (old.told f.sent)) run.sent);
            report_is = put_told (old.told f.report) (new.told f.report) _ made.1.1.0 (outs.1.1.0 ∙ ap (put (old.told f.report)) run.report);
            line_is = d.printed ∙ ap (λ (x : Result (List ℕ) Stop). said before.printed (line_of x)) (d.end_is ∙ ap (λ (x : Due). x.end) went.6 ∙ run.end);
          }

  -- the outputs are as they are due where the work has begun
  due_translated : ComesOnce (files f.program) → (p : OneTable14) (ports : List ℕ) → Begins f files p ports → (d : Due) → CarryDue f files d → AllExact d.outs old new → Translated f files old new
  due_translated once p ports begins d (inl early) exact = absurd (begins_not f files once p ports early.0 begins early.1)
  due_translated once p ports begins d (inr went) exact =
      let outs : AllExact (delivered f went.2 (capture_reports went.3 f.passes went.1 (files f.capture))).outs old new = subst (λ (x : Due). AllExact x.outs old new) went.6 exact in
      record {
        source = went.0;
        ports = went.1;
        text = went.2;
        program = went.3;
        begins = went.4;
        written = went.5;
        text_is = outs.0;
        sent_is = outs.1.0;
        report_is = outs.1.1.0;
        empty = λ nothing.
            let none = empty_reports carry_lines (this_run went.3 f.passes) (no_run went.3 f.passes) went.1 (files f.capture) nothing in
            (outs.1.0 ∙ ap (put (old.told f.sent)) none.0, outs.1.1.0 ∙ ap (put (old.told f.report)) none.1);
      }

  of_due_translated : ComesOnce (files f.program) → RefusesCapture f files ⊎ OverCapture f files → (status : ℕ) → (status ≡ 5) ⊎ (status ≡ 6) → AsDue (CarryDue f files) old new status → Translated f files old new
  of_due_translated once refuses status five (inl one) = absurd (elim five [ inl x ↦ omega arith | inr x ↦ omega arith ])
  of_due_translated once refuses status five (inr (inl seven)) = absurd (elim five [ inl x ↦ omega arith | inr x ↦ omega arith ])
  of_due_translated once refuses status five (inr (inr due)) = let begun = begun_by f files refuses in due_translated once begun.0 begun.1 begun.2 due.0 due.1 due.3

  known_by : (status : ℕ) → AsDue (CarryDue f files) old new status → KnownSo f files status
  known_by status (inl one) = inl one
  known_by status (inr (inl seven)) = inr (inl seven)
  known_by status (inr (inr due)) = inr (inr (due_ends f files status due.0 due.1 due.2))

  module _ (before after : SinkView) (status : ℕ) (e : Ended (CarryWorks f old new) before after status) where
    -- a status of 1 or 7; or the program's file comes to one thing only
    once_or : Tells (program_read f) old files → ((status ≡ 1) ⊎ (status ≡ 7)) ⊎ ComesOnce (files f.program)
    once_or told = elim (loose_or _ e.end (e.is.order.once files told)) [
      | inl loose ↦ inl (loose_says e.end status before after loose e.says)
      | inr once ↦ inr once
    ]

    as_due : Tells (carry_inputs f) old files → AsDue (CarryDue f files) old new status
    as_due told = left_as_due (carry_outputs f) (CarryDue f files) old new e.end (e.is.works.leaves files told) before after status e.says

    all : Tells (carry_inputs f) old files → AllStatuses f files status
    all told = elim (once_or (told.0, tt)) [
      | inl loose ↦ statuses_loose f files status loose
      | inr once ↦ statuses_are f files once status (known_by status (as_due told))
    ]

    files_left : Tells (carry_inputs f) old files → CarryLeft f files old new status
    files_left told = record {
      translated = λ refuses five. elim (once_or (told.0, tt)) [
        | inl loose ↦ absurd (not_loose status loose five)
        | inr once ↦ of_due_translated once refuses status five (as_due told)
      ];
      fronts = left_fronts (carry_outputs f) (CarryDue f files) old new e.end (e.is.works.leaves files told);
      as_due = as_due told;
    }

    -- each cause by the files that are read until it is found
    each_status : CarryStatuses f old files status
    each_status = record {
      program = λ told. elim (once_or told) [
        | inl loose ↦ record { refused = comes_loose status 3 _ loose (λ c. omega arith) (λ c. omega arith); limit = first_loose status 6 _ _ loose (λ c. omega arith) (λ c. omega arith) }
        | inr once ↦ program_first f files once status before after e.end e.says (e.is.order.program files told)
      ];
      entries = λ told. elim (once_or (told.0, tt)) [
        | inl loose ↦ comes_loose status 4 _ loose (λ c. omega arith) (λ c. omega arith)
        | inr once ↦ entries_first f files once status before after e.end e.says (e.is.order.entries files told)
      ];
      ports = λ told. elim (once_or (told.0, tt)) [
        | inl loose ↦ record { refused = first_loose status 5 _ _ loose (λ c. omega arith) (λ c. omega arith); limit = first_loose status 6 _ _ loose (λ c. omega arith) (λ c. omega arith) }
        | inr once ↦ ports_first f files once status before after e.end e.says (e.is.order.ports files told)
      ];
      refused = λ told. (all told).refused;
      limit = λ told. (all told).limit;
      accepted = λ told. (all told).accepted;
      only = elim e.says.said [
        | inl whole ↦ subst (λ (n : ℕ). IsCarryStatus n) (sym whole.0) (status_of e.end e.is.order.only)
        | inr cut ↦ inr (inl cut.0)
      ];
    }

  -- where the desk tells all inputs, the outputs are kept wherever the work stops before it writes
  pub all_kept : (status : ℕ) → CarryKept f files old new status → Tells (carry_inputs f) old files → (stop : Stop) → StopsBefore f files stop → AllKept (carry_outputs f) old new
  all_kept status kept told = kept.ports (told.0, (told.1.0, told.1.1.1))

  -- the outputs are kept where the work stops before it writes
  kept_first : (before after : SinkView) (status : ℕ) → Ended (CarryWorks f old new) before after status → CarryKept f files old new status
  kept_first before after status e = record {
    refused = λ so. elim so [ inl three ↦ by_program three | inr four ↦ by_entries four ];
    program = keeps.program files;
    entries = keeps.entries files;
    ports = keeps.ports files;
  }
    where
      keeps : KeepsInOrder f old new e.end
      keeps = e.is.kept

      by_program : status ≡ 3 → AllKept (carry_outputs f) old new
      by_program three = elim (is_program e.end (due_status (line_of e.end) (code_of e.end) status 3 before after e.says (λ one. omega arith) three)) [
        | inl is ↦ keeps.own Program is (inl (inl (inl refl)))
        | inr (fault, is) ↦ keeps.own (Judged fault) is (inl (inl (inr (inl (fault, refl)))))
      ]

      by_entries : status ≡ 4 → AllKept (carry_outputs f) old new
      by_entries four =
          let stopped = is_unfit e.end (due_status (line_of e.end) (code_of e.end) status 4 before after e.says (λ one. omega arith) four) in
          keeps.own (Unfit stopped.0) stopped.1 (inl (inr (stopped.0, refl)))

-- one of three where the second doesn't hold
not_second : (A B C : Type 0) → (B → ⊥) → A ⊎ B ⊎ C → A ⊎ C
not_second A B C never (inl a) = inl a
not_second A B C never (inr (inl b)) = absurd (never b)
not_second A B C never (inr (inr c)) = inr c

-- Each clause, of words that are no form and of those of each command.

fault_works : (found : Option Command) (old new : DeskView) (before after : SinkView) (end : Result (List ℕ) Stop) → WorksFor found old new end → end ≡ Err Fault → OwnRose (inputs_in found) (outputs_in found) old new before after
fault_works None old new before after end works is = absurd (cc (works.0, is))
fault_works (Some (carry f)) old new before after end works is = inl (works.works.cause.fault is)
fault_works (Some (check program)) old new before after end works is = inl (works.works.cause.fault is)
fault_works (Some (order program)) old new before after end works is = inl (works.works.cause.fault is)
fault_works (Some (run14 f)) old new before after end works is = inl (works.works.cause.fault is)
fault_works (Some (run16 f)) old new before after end works is = inl (works.works.cause.fault is)

usages : (found : Option Command) (old new : DeskView) (before after : SinkView) (status : ℕ) → Ended (WorksFor found old new) before after status → Usages found old new before after status
usages None old new before after status ended = (by_line, ended.is.1)
  where
    by_line : (status ≡ 2) ⊎ ((status ≡ 1) × Rose before.writes after.writes)
    by_line = elim ended.says.said [
      | inl whole ↦ inl (whole.0 ∙ ap code_of ended.is.0)
      | inr cut ↦ inr (cut.0, cut.1)
    ]
usages (Some (carry f)) old new before after status ended = λ two. elim ended.says.said [
  | inl whole ↦ ended.is.works.cause.usage (is_usage ended.end (sym whole.0 ∙ two))
  | inr cut ↦ omega (arith, cut.0)
]
usages (Some (run14 f)) old new before after status ended = λ two. elim ended.says.said [
  | inl whole ↦ ended.is.works.cause.usage (is_usage ended.end (sym whole.0 ∙ two))
  | inr cut ↦ omega (arith, cut.0)
]
usages (Some (run16 f)) old new before after status ended = λ two. elim ended.says.said [
  | inl whole ↦ ended.is.works.cause.usage (is_usage ended.end (sym whole.0 ∙ two))
  | inr cut ↦ omega (arith, cut.0)
]
usages (Some (check program)) old new before after status ended = no_usage PrintsAccepted program old new before after status ended
usages (Some (order program)) old new before after status ended = no_usage PrintsOrder program old new before after status ended

ends : (found : Option Command) (old new : DeskView) (end : Result (List ℕ) Stop) → WorksFor found old new end → IsEnd found old end
ends None old new end works = works.0
ends (Some (run14 f)) old new end works = (run14_ends f old new end works, works.order)
ends (Some (run16 f)) old new end works = (run16_ends f old new end works, works.order)
ends (Some (check program)) old new end works = program_ends PrintsAccepted program old new end works
ends (Some (order program)) old new end works = program_ends PrintsOrder program old new end works
ends (Some (carry f)) old new end works = ((λ files told. left_ends (carry_outputs f) (CarryDue f files) old new end (works.works.leaves files told)), works.order)

only : (found : Option Command) (old new : DeskView) (end : Result (List ℕ) Stop) → WorksFor found old new end → (name : List ℕ) → NoneIs name (outputs_in found) → new.told name ≡ old.told name
only None old new end works name none = ap (λ (d : DeskView). d.told name) works.1
only (Some (carry f)) old new end works name none = works.works.moves.others name none
only (Some (check program)) old new end works name none = works.works.moves.others name none
only (Some (order program)) old new end works name none = works.works.moves.others name none
only (Some (run14 f)) old new end works name none = works.works.moves.others name none
only (Some (run16 f)) old new end works name none = works.works.moves.others name none

statuses_of : (c : Command) (files : List ℕ → Option (List ℕ)) (old new : DeskView) (before after : SinkView) (status : ℕ) → Ended (WorksFor (Some c) old new) before after status → Statuses c old files status
statuses_of (carry f) files old new before after status ended = each_status f files old new before after status ended
statuses_of (check program) files old new before after status ended = program_statuses PrintsAccepted program old new before after status ended files
statuses_of (order program) files old new before after status ended = program_statuses PrintsOrder program old new before after status ended files
statuses_of (run14 f) files old new before after status ended = run14_statuses f files old new before after status ended
statuses_of (run16 f) files old new before after status ended = run16_statuses f files old new before after status ended

kept_of : (c : Command) (files : List ℕ → Option (List ℕ)) (old new : DeskView) (before after : SinkView) (status : ℕ) → Ended (WorksFor (Some c) old new) before after status → Kept c files old new status
kept_of (carry f) files old new before after status ended = kept_first f files old new before after status ended
kept_of (check program) files old new before after status ended = tt
kept_of (order program) files old new before after status ended = tt
kept_of (run14 f) files old new before after status ended = run14_kept f files old new before after status ended
kept_of (run16 f) files old new before after status ended = run16_kept f files old new before after status ended

-- what holds of the work of a command
module _ (c : Command) (files : List ℕ → Option (List ℕ)) (old new : DeskView) (before after : SinkView) (status : ℕ) (ended : Ended (WorksFor (Some c) old new) before after status) (told : Tells (inputs_of c) old files) where
  done_of : AreTold (outputs_of c) old → status ≡ 0 → Done c files new before after
  done_of made zero = by_command c ended told made
    where
      by_command : (c : Command) → Ended (WorksFor (Some c) old new) before after status → Tells (inputs_of c) old files → AreTold (outputs_of c) old → Done c files new before after
      by_command (carry f) e t m =
          carry_done f files old new t m before after e.end e.is.packets e.is.once e.is.bound (left_done (carry_outputs f) (CarryDue f files) old new e.end (e.is.works.leaves files t) before after status e.says zero)
      by_command (check program) e t m = program_done PrintsAccepted program old new before after status e files t zero
      by_command (order program) e t m = program_done PrintsOrder program old new before after status e files t zero
      by_command (run14 f) e t m = run14_ran f files old new before after status e t (m.0, m.1.0) zero
      by_command (run16 f) e t m = run16_ran f files old new before after status e t (m.0, m.1.0) zero

  left_of : Left c files old new status
  left_of = by_command c ended told
    where
      by_command : (c : Command) → Ended (WorksFor (Some c) old new) before after status → Tells (inputs_of c) old files → Left c files old new status
      by_command (carry f) e t = files_left f files old new before after status e t
      by_command (check program) e t = program_left PrintsAccepted program old new before after status e files t
      by_command (order program) e t = program_left PrintsOrder program old new before after status e files t
      by_command (run14 f) e t = run14_left f files old new before after status e t
      by_command (run16 f) e t = run16_left f files old new before after status e t

  taken_of : AcceptsAll c files → (status ≡ 0) ⊎ (status ≡ 1) ⊎ (status ≡ 7)
  taken_of taken = by_command c (statuses_of c files old new before after status ended) told taken
    where
      by_command : (c : Command) → Statuses c old files status → Tells (inputs_of c) old files → AcceptsAll c files → (status ≡ 0) ⊎ (status ≡ 1) ⊎ (status ≡ 7)
      by_command (carry f) s told t = (s.accepted told).1 t
      by_command (check program) s told t = (s.accepted told).1 t
      by_command (order program) s told t = (s.accepted told).1 t
      by_command (run14 f) s told t = (s.accepted told).1 t
      by_command (run16 f) s told t = (s.accepted told).1 t

module _ (found : Option Command) (old new : DeskView) (before after : SinkView) (status : ℕ) (ended : Ended (WorksFor found old new) before after status) where
  pub fault_is : status ≡ 1 → OwnRose (inputs_in found) (outputs_in found) old new before after
  fault_is is = elim ended.says.said [
    | inl whole ↦ fault_works found old new before after ended.end ended.is (is_fault ended.end (sym whole.0 ∙ is))
    | inr cut ↦ inr cut.1
  ]

  pub usage_is : Usages found old new before after status
  usage_is = usages found old new before after status ended

  pub line_is : Ended (IsEnd found old) before after status
  line_is = record { end = ended.end; is = ends found old new ended.end ended.is; says = ended.says }

  of_some : (c : Command) → found ≡ Some c → Ended (WorksFor (Some c) old new) before after status
  of_some c is = subst (λ (o : Option Command). Ended (WorksFor o old new) before after status) is ended

  pub carried_is : OnTold found old (λ c files. AreTold (outputs_of c) old → status ≡ 0 → Done c files new before after)
  carried_is = λ c files is told. done_of c files old new before after status (of_some c is) told

  pub statuses_is : OnForm found (λ c files. Statuses c old files status)
  statuses_is = λ c files is. statuses_of c files old new before after status (of_some c is)

  pub complete_is : OnTold found old (λ c files. AcceptsAll c files → (OwnRose (inputs_in found) (outputs_in found) old new before after → ⊥) → (status ≡ 0) ⊎ (status ≡ 7))
  complete_is = λ c files is told taken none.
      not_second (status ≡ 0) (status ≡ 1) (status ≡ 7) (λ one. none (fault_is one)) (taken_of c files old new before after status (of_some c is) told taken)

  pub files_is : FilesLeft found old new status
  files_is = record {
    only = only found old new ended.end ended.is;
    kept = λ c files is. kept_of c files old new before after status (of_some c is);
    outputs = λ c files is told. left_of c files old new before after status (of_some c is) told;
  }
