-- What an outcome of `run16` says of each status.
use Rattle.std.proofs.Common.{◌≡◌, ◌⊎◌, inl, inr, ℕ, All, OnOk, List, [], Option, Some, None, Result, refl, sym, ◌∙◌, ap, subst, arith}
use Rattle.p4x_io.specs.Desk.{DeskView, SinkView, put, said}
use Rattle.fabric.specs.Numbers.{IsArrival, IsBound}
use Rattle.fabric.specs.declared.packets.Arrival.{Arrival}
use Rattle.match_core.specs.declared.entries.Entries.{Entries as Filling}
use Rattle.command_words.specs.Words.{Run16Files, run16_inputs, run16_outputs}
use Rattle.file_work.specs.declared.stop.Stop.{Stop}
use Rattle.file_work.specs.declared.stop.Stop.TheVariants.{Text, Unfit}
use Rattle.file_work.specs.Clauses.{Ended, AsDue, EndsAsDue}
use Rattle.file_work.specs.Stops.{code_of, line_of}
use Rattle.file_work.specs.Works.{Due, Tells, AllExact, AllKept}
use Rattle.file_work.proofs.Ends.{is_text, is_unfit, not_done}
use Rattle.file_work.proofs.Files.{put_told}
use Rattle.file_work.proofs.Laws.{IsDone, left_fronts, left_ends, left_as_due, left_done}
use Rattle.file_work.proofs.Loose.{comes_loose, first_loose, loose_or, loose_says, of_ok, not_loose}
use Rattle.file_work.proofs.Order.{due_status}
use Rattle.run_stream.proofs.Whole.{Whole, whole_capture, empty_reports}
use Rattle.v1_core.specs.Surroundings.{Setting}
use Rattle.v1_core.specs.Runs.{Run16}
use Rattle.p416_syntax.specs.declared.program.Syntax16.{Syntax16}
use Rattle.program16_file.specs.Answers.{ComesOnce}
use Rattle.program16_file.specs.Programs.{ReadsOnce}
use Rattle.program16_file.proofs.Stops.{one_program}
use Rattle.run16_cmd.specs.Calls.{RanSo, FirstStatuses, EntriesStatuses, PortStatuses, Run16Statuses, RanBefore, Run16Kept, Run16Left, PacketsFit, EntriesFit, Run16Works, RefusesCapture, OverCapture, IsRun16Status}
use Rattle.run16_cmd.specs.Run16.{Run16Due, Begins, KeepsInOrder, capture_reports, delivered, program_read, setting_for, this_run, own_lines, ran_word}
use Rattle.run16_cmd.proofs.Only.{status_of}
use Rattle.run16_cmd.proofs.Judging.{program_first, entries_first, ports_first}
use Rattle.run16_cmd.proofs.Statuses.{AllStatuses, KnownSo, due_ends, statuses_are, statuses_loose, begins_not}

-- nothing comes of no packets
no_run : (c : Setting) (bound : ℕ) → (this_run c bound []).sent ≡ []
unfolding Run16
no_run c bound = refl

begun_by : (f : Run16Files) (files : List ℕ → Option (List ℕ)) → RefusesCapture f files ⊎ OverCapture f files
    → (s : Syntax16) × (e : Filling) × (ports : List ℕ) × Begins f files s e ports
begun_by f files (inl is) = (is.0, is.1, is.2, is.3)
begun_by f files (inr is) = (is.0, is.1, is.2, is.3)

module _ (f : Run16Files) (files : List ℕ → Option (List ℕ)) (old new : DeskView) where
  -- a run that was done, from what was due
  pub ran_done : Tells (run16_inputs f) old files → (old.told f.sent ≡ None → ⊥) × (old.told f.report ≡ None → ⊥) → (before after : SinkView) (end : Result (List ℕ) Stop) → PacketsFit f old end → EntriesFit f old end
      → OnOk end ((text : List ℕ) → old.told f.text ≡ Some (Some text) → ReadsOnce text) → IsBound f.passes → IsDone (Run16Due f files) old new before after end → RanSo f files new before after
  ran_done told made before after end fit filling once bound d = by_due d.due_is
    where
      zero : 0 ≡ code_of d.what.end
      zero = d.zero ∙ ap code_of d.end_is

      by_due : Run16Due f files d.what → RanSo f files new before after
      by_due (inl early) = absurd (not_done early.0 (zero ∙ ap (λ (x : Due). code_of x.end) early.2))
      by_due (inr went) =
          let s = went.0 in
          let e = went.1 in
          let ports = went.2 in
          let c : Setting = setting_for s e in
          let outs : AllExact (delivered f (capture_reports c f.passes ports (files f.capture))).outs old new = subst (λ (x : Due). AllExact x.outs old new) went.4 d.outs in
          let run : Whole ran_word (own_lines c) (this_run c f.passes) ports (files f.capture) (capture_reports c f.passes ports (files f.capture)) =
          whole_capture ran_word (own_lines c) (this_run c f.passes) ports (files f.capture) (zero ∙ ap (λ (x : Due). code_of x.end) went.4) in
          let packets : All IsArrival run.arrivals =
          subst (λ (l : List Arrival). All IsArrival l) (sym run.whole.of_records) (of_ok end _ d.zero fit files run.octets ports told run.capture went.3.1) in
          let entries = of_ok end _ d.zero filling files s e told went.3.0 in
          record {
            syntax = s;
            entries = e;
            ports = ports;
            begins = went.3;
            only = one_program (files f.text) s went.3.0.0 (λ text here. of_ok end _ d.zero once text (told.0 ∙ ap (λ o. Some o) here));
            formed = entries.0;
            given = entries.1;
            octets = run.octets;
            link = run.link;
            nano = run.nano;
            arrivals = run.arrivals;
            capture = run.capture;
            fits = run.fits;
            whole = run.whole;
            packets = packets;
            bound = bound;
            ran = this_run c f.passes run.arrivals;
            runs = refl;
            sent_is = put_told (old.told f.sent) (new.told f.sent) _ made.0 (outs.0 ∙ ap (put (old.told f.sent)) run.sent);
            report_is = put_told (old.told f.report) (new.told f.report) _ made.1 (outs.1.0 ∙ ap (put (old.told f.report)) run.report);
            line_is = d.printed ∙ ap (λ (x : Result (List ℕ) Stop). said before.printed (line_of x)) (d.end_is ∙ ap (λ (x : Due). x.end) went.4 ∙ run.end);
          }

  -- the outputs are as they are due where the work has begun
  due_before : ComesOnce (files f.text) → (s : Syntax16) (e : Filling) (ports : List ℕ) → Begins f files s e ports → (d : Due) → Run16Due f files d → AllExact d.outs old new → RanBefore f files old new
  due_before once s e ports begins d (inl early) exact = absurd (begins_not f files once s e ports early.0 begins early.1)
  due_before once s e ports begins d (inr went) exact =
      let c : Setting = setting_for went.0 went.1 in
      let outs : AllExact (delivered f (capture_reports c f.passes went.2 (files f.capture))).outs old new = subst (λ (x : Due). AllExact x.outs old new) went.4 exact in
      record {
        syntax = went.0;
        entries = went.1;
        ports = went.2;
        begins = went.3;
        sent_is = outs.0;
        report_is = outs.1.0;
        empty = λ nothing.
            let none = empty_reports (own_lines c) (this_run c f.passes) (no_run c f.passes) went.2 (files f.capture) nothing in
            (outs.0 ∙ ap (put (old.told f.sent)) none.0, outs.1.0 ∙ ap (put (old.told f.report)) none.1);
      }

  of_due_before : ComesOnce (files f.text) → RefusesCapture f files ⊎ OverCapture f files → (status : ℕ) → (status ≡ 5) ⊎ (status ≡ 6) → AsDue (Run16Due f files) old new status → RanBefore f files old new
  of_due_before once refuses status five (inl one) = absurd (not_loose status (inl one) five)
  of_due_before once refuses status five (inr (inl seven)) = absurd (not_loose status (inr seven) five)
  of_due_before once refuses status five (inr (inr due)) = let begun = begun_by f files refuses in due_before once begun.0 begun.1 begun.2 begun.3 due.0 due.1 due.3

  known_by : (status : ℕ) → AsDue (Run16Due f files) old new status → KnownSo f files status
  known_by status (inl one) = inl one
  known_by status (inr (inl seven)) = inr (inl seven)
  known_by status (inr (inr due)) = inr (inr (due_ends f files status due.0 due.1 due.2))

  module _ (before after : SinkView) (status : ℕ) (e : Ended (Run16Works f old new) before after status) where
    -- a status of 1 or 7; or the program's file comes to one thing only
    once_or : Tells (program_read f) old files → ((status ≡ 1) ⊎ (status ≡ 7)) ⊎ ComesOnce (files f.text)
    once_or told = elim (loose_or _ e.end (e.is.order.once files told)) [
      | inl loose ↦ inl (loose_says e.end status before after loose e.says)
      | inr once ↦ inr once
    ]

    as_due : Tells (run16_inputs f) old files → AsDue (Run16Due f files) old new status
    as_due told = left_as_due (run16_outputs f) (Run16Due f files) old new e.end (e.is.works.leaves files told) before after status e.says

    all : Tells (run16_inputs f) old files → AllStatuses f files status
    all told = elim (once_or (told.0, tt)) [
      | inl loose ↦ statuses_loose f files status loose
      | inr once ↦ statuses_are f files once status (known_by status (as_due told))
    ]

    pub run16_left : Tells (run16_inputs f) old files → Run16Left f files old new status
    run16_left told = record {
      before = λ refuses five. elim (once_or (told.0, tt)) [
        | inl loose ↦ absurd (not_loose status loose five)
        | inr once ↦ of_due_before once refuses status five (as_due told)
      ];
      fronts = left_fronts (run16_outputs f) (Run16Due f files) old new e.end (e.is.works.leaves files told);
      as_due = as_due told;
    }

    loose_eight : (status ≡ 1) ⊎ (status ≡ 7) → FirstStatuses f files status
    loose_eight loose = record {
      refused = comes_loose status 8 _ loose (λ c. omega arith) (λ c. omega arith);
      limit = first_loose status 6 _ _ loose (λ c. omega arith) (λ c. omega arith);
    }

    loose_four : (status ≡ 1) ⊎ (status ≡ 7) → EntriesStatuses f files status
    loose_four loose = record {
      refused = comes_loose status 4 _ loose (λ c. omega arith) (λ c. omega arith);
      limit = first_loose status 6 _ _ loose (λ c. omega arith) (λ c. omega arith);
    }

    loose_five : (status ≡ 1) ⊎ (status ≡ 7) → PortStatuses f files status
    loose_five loose = record {
      refused = first_loose status 5 _ _ loose (λ c. omega arith) (λ c. omega arith);
      limit = first_loose status 6 _ _ loose (λ c. omega arith) (λ c. omega arith);
    }

    -- each cause by the files that are read until it is found
    pub run16_statuses : Run16Statuses f old files status
    run16_statuses = record {
      program = λ told. elim (once_or told) [
        | inl loose ↦ loose_eight loose
        | inr once ↦ program_first f files once status before after e.end e.says (e.is.order.program files told)
      ];
      entries = λ told. elim (once_or (told.0, tt)) [
        | inl loose ↦ loose_four loose
        | inr once ↦ entries_first f files once status before after e.end e.says (e.is.order.entries files told)
      ];
      ports = λ told. elim (once_or (told.0, tt)) [
        | inl loose ↦ loose_five loose
        | inr once ↦ ports_first f files once status before after e.end e.says (e.is.order.ports files told)
      ];
      refused = λ told. (all told).refused;
      limit = λ told. (all told).limit;
      accepted = λ told. (all told).accepted;
      only = elim e.says.said [
        | inl whole ↦ subst (λ (n : ℕ). IsRun16Status n) (sym whole.0) (status_of e.end e.is.order.only)
        | inr cut ↦ inr (inl cut.0)
      ];
    }

    pub run16_ran : Tells (run16_inputs f) old files → (old.told f.sent ≡ None → ⊥) × (old.told f.report ≡ None → ⊥) → status ≡ 0 → RanSo f files new before after
    run16_ran told made zero =
        ran_done told made before after e.end e.is.packets e.is.filling e.is.once e.is.bound
        (left_done (run16_outputs f) (Run16Due f files) old new e.end (e.is.works.leaves files told) before after status e.says zero)

    -- the outputs are kept where the work stops before it writes
    pub run16_kept : Run16Kept f files old new status
    run16_kept = record {
      refused = λ so. elim so [ inl eight ↦ by_program eight | inr four ↦ by_entries four ];
      program = keeps.program files;
      entries = keeps.entries files;
      ports = keeps.ports files;
    }
      where
        keeps : KeepsInOrder f old new e.end
        keeps = e.is.kept

        by_program : status ≡ 8 → AllKept (run16_outputs f) old new
        by_program eight =
            let stopped = is_text e.end (due_status (line_of e.end) (code_of e.end) status 8 before after e.says (λ one. omega arith) eight) in
            keeps.own (Text stopped.0) stopped.1 (inl (inl (inl (stopped.0, refl))))

        by_entries : status ≡ 4 → AllKept (run16_outputs f) old new
        by_entries four =
            let stopped = is_unfit e.end (due_status (line_of e.end) (code_of e.end) status 4 before after e.says (λ one. omega arith) four) in
            keeps.own (Unfit stopped.0) stopped.1 (inl (inr (inl (stopped.0, refl))))

-- the end of the work is as it is due
pub run16_ends : (f : Run16Files) (old new : DeskView) (end : Result (List ℕ) Stop) → Run16Works f old new end
    → (files : List ℕ → Option (List ℕ)) → Tells (run16_inputs f) old files → EndsAsDue (Run16Due f files) end
run16_ends f old new end works files told = left_ends (run16_outputs f) (Run16Due f files) old new end (works.works.leaves files told)
